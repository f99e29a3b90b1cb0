-- A call of a function by its number.
use Rattle.std.proofs.Common.{◌≡◌, ℕ, List, Option, Some, None, refl}
use Rattle.puya_base.specs.declared.source.Place.{Place}
use Rattle.source_names.specs.declared.signature.Signature.{Signature}
use Rattle.call_rules.specs.declared.arguments.Known.{Known}
use Rattle.call_rules.specs.Calls.{function_callee, applied}
use Rattle.call_rules.specs.Callings.{call_when}

pub applied_same : (p : Place) (n : ℕ) (o : Option Signature) (ks : List Known) → applied p (function_callee n o) ks ≡ call_when p n o ks
applied_same p n None ks = refl
applied_same p n (Some s) ks = refl
