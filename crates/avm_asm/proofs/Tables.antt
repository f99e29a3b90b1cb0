-- Symbol tables as the entries of a map.
use Rattle.std.proofs.Common.{◌≡◌, ℕ, ◌<◌, ◌^◌, Bool, true, false, cond, List, [], ◌∷◌, ◌++◌, Option, Some, None, Ok, Err, refl, arith, ap, sym, ◌∙◌, is_some}
use Rattle.std.specs.Prelude.{nat_eq, IfSome}
use Rattle.std.specs.List.{All}
use Rattle.std.specs.Map.{lookup}
use Rattle.std.proofs.lemmas.Bool.Decides.{nat_tests}
use Rattle.std.proofs.lemmas.List.Elements.{All-nil, All-cons, All-tail}
use Rattle.indexmap.specs.IndexMap.{insert_entry}
use Rattle.avm_asm.specs.declared.line.AsmFault.TheVariants.{TwiceLabel}
use Rattle.avm_asm.specs.Listing.{place_in}
use Rattle.avm_asm.specs.Steps.{Adds}

eq_turned : (a b : ℕ) → nat_eq a b ≡ nat_eq b a
eq_turned a b = grind (arith, nat_tests)

-- where a label stands is what the map has at it
pub lookup-place : (k : ℕ) (es : List (ℕ × ℕ)) → lookup (nat_eq k) es ≡ place_in es k
lookup-place k [] = refl
lookup-place k (e ∷ es) = ap (λ b. cond b (Some e.1) (lookup (nat_eq k) es)) (eq_turned k e.0) ∙ ap (λ r. cond (nat_eq e.0 k) (Some e.1) r) (lookup-place k es)

abbrev IsLow : ℕ × ℕ → Type 0
IsLow s = s.1 < 2 ^ 62

low_either : (b : Bool) (e : ℕ × ℕ) (r : Option ℕ) → IsLow e → IfSome r (λ p. p < 2 ^ 62) → IfSome (cond b (Some e.1) r) (λ p. p < 2 ^ 62)
low_either true e r h i = h
low_either false e r h i = i

pub low_place : (k : ℕ) (es : List (ℕ × ℕ)) → All (λ (s : ℕ × ℕ). s.1 < 2 ^ 62) es → IfSome (place_in es k) (λ p. p < 2 ^ 62)
low_place k [] all = tt
low_place k (e ∷ es) all = low_either (nat_eq e.0 k) e (place_in es k) (all 0 e (omega arith)) (low_place k es (All-tail IsLow e es all))

low_entry : (b : Bool) (e : ℕ × ℕ) (v : ℕ) (es fs : List (ℕ × ℕ)) → v < 2 ^ 62 → IsLow e → All IsLow es → All IsLow fs → All IsLow (cond b ((e.0, v) ∷ es) (e ∷ fs))
low_entry true e v es fs h i j l = All-cons IsLow (e.0, v) es h j
low_entry false e v es fs h i j l = All-cons IsLow e fs i l

pub low_insert : (k v : ℕ) (es : List (ℕ × ℕ)) → v < 2 ^ 62 → All (λ (s : ℕ × ℕ). s.1 < 2 ^ 62) es → All (λ (s : ℕ × ℕ). s.1 < 2 ^ 62) (insert_entry nat_eq es k v)
low_insert k v [] h all = All-cons IsLow (k, v) [] h (All-nil IsLow)
low_insert k v (e ∷ es) h all =
    low_entry (nat_eq k e.0) e v es (insert_entry nat_eq es k v) h (all 0 e (omega arith)) (All-tail IsLow e es all)
    (low_insert k v es h (All-tail IsLow e es all))

put_or_not : (k v : ℕ) (old : List (ℕ × ℕ)) (held : Option ℕ) → held ≡ lookup (nat_eq k) old → held ≡ None → insert_entry nat_eq old k v ≡ old ++ (k, v) ∷ []
put_or_not k v [] held e n = refl
put_or_not k v (s ∷ old) held e n = put_behind (nat_eq k s.0) k v s old (sym e ∙ n) (λ h. put_or_not k v old (lookup (nat_eq k) old) refl h)
  where
    put_behind : (b : Bool) (k v : ℕ) (s : ℕ × ℕ) (old : List (ℕ × ℕ)) → cond b (Some s.1) (lookup (nat_eq k) old) ≡ None → (lookup (nat_eq k) old ≡ None → insert_entry nat_eq old k v ≡ old ++ (k, v) ∷ [])
        → cond b ((s.0, v) ∷ old) (s ∷ insert_entry nat_eq old k v) ≡ s ∷ (old ++ (k, v) ∷ [])
    put_behind true k v s old e rest = cc
    put_behind false k v s old e rest = ap (λ ss. s ∷ ss) (rest e)

-- a label that didn't stand is put last
pub put_last : (k v : ℕ) (old new : List (ℕ × ℕ)) (held : Option ℕ) → held ≡ lookup (nat_eq k) old → held ≡ None → new ≡ insert_entry nat_eq old k v → Adds (Ok tt) old k v new
put_last k v old new held e n i = (sym (lookup-place k old) ∙ sym e ∙ n, i ∙ put_or_not k v old held e n)

-- a label that stood
pub put_twice : (k v first : ℕ) (old new : List (ℕ × ℕ)) (held : Option ℕ) → held ≡ lookup (nat_eq k) old → held ≡ Some first → Adds (Err (TwiceLabel k)) old k v new
put_twice k v first old new held e s = (ap is_some (sym (lookup-place k old) ∙ sym e ∙ s), refl)
