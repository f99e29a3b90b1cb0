-- What a function by its number asks of its arguments.
use Rattle.std.proofs.Common.{◌≡◌, ℕ, false, List, Option, Some, None, refl}
use Rattle.source_names.specs.declared.signature.Signature.{Signature}
use Rattle.puya_base.specs.declared.source.Place.{Place}
use Rattle.py_grammar.specs.declared.word.Word.{Word}
use Rattle.call_rules.specs.declared.slots.Used.{Used}
use Rattle.call_rules.specs.Calls.{hope_at, takes_literal, slot, function_callee}
use Rattle.call_rules.specs.Callees.{function_hope, slot_of}

pub hope_same : (n : ℕ) (o : Option Signature) (i : ℕ) → hope_at (function_callee n o) i ≡ function_hope o i
hope_same n None i = refl
hope_same n (Some s) i = refl

pub takes_same : (n : ℕ) (o : Option Signature) (i : ℕ) → takes_literal (function_callee n o) i ≡ false
takes_same n None i = refl
takes_same n (Some s) i = refl

pub slot_same : (n : ℕ) (o : Option Signature) (i : ℕ) (u : Used) (k : Option Word) (p : Place) → slot (function_callee n o) i u k p ≡ slot_of o i u k p
slot_same n None i u k p = refl
slot_same n (Some s) i u k p = refl
