-- The arguments of `urange`, taken from behind.
use Rattle.std.proofs.Common.{◌≡◌, ℕ, length, List, [], ◌∷◌, ◌++◌, refl, sym, ap, ◌∙◌, append_assoc, arith}
use Rattle.puya_base.specs.declared.source.Place.{Place}
use Rattle.call_rules.specs.declared.arguments.Known.{Known}
use Rattle.call_rules.specs.declared.ranges_called.Ranged.{Ranged}
use Rattle.call_rules.specs.declared.ranges_called.Ranged.TheVariants as by_number
use Rattle.call_rules.specs.Calls.{call_range}
use Rattle.call_rules.specs.Ranges.{ranged, range_of}

pub ranged-none : (ks : List Known) → length ks ≡ 0 → by_number.Other ≡ ranged ks
ranged-none [] h = refl
ranged-none (k ∷ ks) h = absurd (omega arith)

pub ranged-one : (ks : List Known) (b : Known) → length ks ≡ 0 → by_number.One b ≡ ranged (ks ++ b ∷ [])
ranged-one [] b h = refl
ranged-one (k ∷ ks) b h = absurd (omega arith)

pub ranged-two : (ks : List Known) (a b : Known) → length ks ≡ 0 → by_number.Two a b ≡ ranged (ks ++ a ∷ b ∷ [])
ranged-two [] a b h = refl
ranged-two (k ∷ ks) a b h = absurd (omega arith)

before_three : (ks : List Known) (a b s : Known) → length ks ≡ 0 → by_number.Three a b s ≡ ranged ((ks ++ a ∷ []) ++ b ∷ s ∷ [])
before_three [] a b s h = refl
before_three (k ∷ ks) a b s h = absurd (omega arith)

pub ranged-three : (front ks : List Known) (a b s : Known) → front ≡ ks ++ a ∷ [] → length ks ≡ 0 → by_number.Three a b s ≡ ranged (front ++ b ∷ s ∷ [])
ranged-three front ks a b s e h = before_three ks a b s h ∙ ap (λ f. ranged (f ++ b ∷ s ∷ [])) (sym e)

before_more : (ks : List Known) (a b s : Known) → (length ks ≡ 0 → ⊥) → by_number.Other ≡ ranged ((ks ++ a ∷ []) ++ b ∷ s ∷ [])
before_more [] a b s n = absurd (n refl)
before_more (k ∷ []) a b s n = refl
before_more (k ∷ l ∷ []) a b s n = refl
before_more (k ∷ l ∷ m ∷ []) a b s n = refl
before_more (k ∷ l ∷ m ∷ o ∷ ks) a b s n = refl

pub ranged-more : (front ks : List Known) (a b s : Known) → front ≡ ks ++ a ∷ [] → (length ks ≡ 0 → ⊥) → by_number.Other ≡ ranged (front ++ b ∷ s ∷ [])
ranged-more front ks a b s e n = before_more ks a b s n ∙ ap (λ f. ranged (f ++ b ∷ s ∷ [])) (sym e)

pub ranged-last : (front ks : List Known) (a b : Known) (r : Ranged) → front ≡ ks ++ a ∷ [] → r ≡ ranged (ks ++ a ∷ b ∷ []) → r ≡ ranged (front ++ b ∷ [])
ranged-last front ks a b r e h = h ∙ ap ranged (sym (append_assoc ks (a ∷ []) (b ∷ []))) ∙ ap (λ f. ranged (f ++ b ∷ [])) (sym e)

pub ruleset numbers = (ranged-none, ranged-one, ranged-two, ranged-three, ranged-more, ranged-last)

by_cases : (p : Place) (ks : List Known) → call_range p ks ≡ range_of p (ranged ks)
by_cases p [] = refl
by_cases p (a ∷ []) = refl
by_cases p (a ∷ b ∷ []) = refl
by_cases p (a ∷ b ∷ s ∷ []) = refl
by_cases p (a ∷ b ∷ s ∷ t ∷ ks) = refl

pub call_range-ranged : (p : Place) (ks : List Known) (r : Ranged) → r ≡ ranged ks → call_range p ks ≡ range_of p r
call_range-ranged p ks r e = by_cases p ks ∙ ap (range_of p) (sym e)

pub ruleset call_range_ranged = (call_range-ranged)
