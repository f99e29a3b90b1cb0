-- The size of a text says how many bytes it stands for.
use Rattle.std.proofs.Common.{ℕ, ◌/◌, ◌<◌, ◌≤◌, ◌≡◌, ◌⊎◌, Bool, true, false, cond, List, length, Option, Some, None, Result, Ok, Err, refl, ap, ◌∙◌, inl, inr, arith}
use Rattle.std.specs.Result.{result_ok}
use Rattle.std.proofs.lemmas.Bool.Decides.{nat_tests}
use Rattle.hex.specs.Hex.{decode_of}
use Rattle.hex.specs.declared.error.FromHexError.{FromHexError}
use Rattle.hex.proofs.HexLemmas.{decode_of-ok}
use Rattle.call_file.specs.declared.fault.FormFault.{FormFault}
use Rattle.call_file.specs.declared.fault.FormFault.TheVariants as form
use Rattle.call_file.specs.Faults.{Reads}
use Rattle.call_file.specs.Forms.{kept, within_bytes, hex_bytes}

decoded : (r : Result (List ℕ) FromHexError) (b : List ℕ) → result_ok r ≡ Some b → r ≡ Ok b
decoded (Ok a) b e = cc e
decoded (Err x) b e = cc e

size : (text b : List ℕ) → hex_bytes text ≡ Some b → length b ≡ length text / 2
size text b e = let twice = (decode_of-ok text b (decoded (decode_of text) b e)).2 in omega arith

kept_of : {A : Type 0} (test : A → Bool) (o : Option A) (a : A) (b : Bool) → o ≡ Some a → test a ≡ b → kept test o ≡ cond b (Some a) None
kept_of test o a b e t = ap (kept test) e ∙ ap (λ (x : Bool). cond x (Some a) None) t

pub within_read : (low high : ℕ) (text : List ℕ) (r : Result (List ℕ) FormFault) → low ≤ length text / 2 → length text / 2 ≤ high → Reads (hex_bytes text) r → Reads (kept (within_bytes low high) (hex_bytes text)) r
within_read low high text (Ok b) l h e =
    let s = size text b e in
    let t : within_bytes low high b ≡ true = grind (arith, nat_tests) in
    kept_of (within_bytes low high) (hex_bytes text) b true e t
within_read low high text (Err form.Bad) l h e = ap (kept (within_bytes low high)) e
within_read low high text (Err form.Memory) l h e = tt

pub outside_read : (low high : ℕ) (text : List ℕ) → (length text / 2 < low) ⊎ (high < length text / 2) → kept (within_bytes low high) (hex_bytes text) ≡ None
outside_read low high text out = by_bytes (hex_bytes text) refl
  where
    over : (b : List ℕ) → length b ≡ length text / 2 → within_bytes low high b ≡ false
    over b s = elim out [ inl h ↦ grind (arith, nat_tests) | inr h ↦ grind (arith, nat_tests) ]

    by_bytes : (o : Option (List ℕ)) → hex_bytes text ≡ o → kept (within_bytes low high) (hex_bytes text) ≡ None
    by_bytes None e = ap (kept (within_bytes low high)) e
    by_bytes (Some b) e = kept_of (within_bytes low high) (hex_bytes text) b false e (over b (size text b e))
