-- What is told of steps, one behind another, and that it is the first.
use Rattle.std.proofs.Common.{◌≡◌, ◌⊎◌, inl, inr, Bool, true, false, Option, Some, None, refl, ◌∙◌, ap, subst}
use Rattle.puya_base.specs.declared.source.Place.{Place}
use Rattle.puya_base.specs.declared.source.Refusal.{Refusal}
use Rattle.puya_base.specs.declared.source.Rule.TheVariants.{P19}
use Rattle.path_rules.specs.Steps.{Step, broken, read, assign, forget, arm, choice, may_end, loop, break, continue, return, Steps, no_steps, a_step, one, before, an_end, an_arm, a_loop}
use Rattle.path_rules.specs.Rules.{refused, Tells, TellAll, ComesFirst, IsFirst}
use Rattle.path_rules.specs.Order.{precedes, earlier_refusal}
use Rattle.path_rules.specs.Told.{loop_word, told_by, told_by_all}
use Rattle.path_rules.proofs.Firsts.{least_iff, least_either}
use Rattle.path_rules.proofs.RefusalOrder.{refusal_test, comes_itself}

pub told_before : (first : Option Refusal) (inside : Bool) (fs gs : Steps) → told_by_all first inside (before fs gs) ≡ told_by_all (told_by_all first inside fs) inside gs
told_before first inside no_steps gs = refl
told_before first inside (a_step f fs) gs = told_before (told_by first inside f) inside fs gs

told_end : (first : Option Refusal) (inside ends : Bool) → told_by_all first inside (an_end ends) ≡ first
told_end first inside true = refl
told_end first inside false = refl

pub told_arm : (first : Option Refusal) (inside : Bool) (test : Steps) (always : Bool) (body : Steps) → told_by_all first inside (an_arm test always body) ≡ told_by_all (told_by_all first inside test) inside body
told_arm first inside test always body = told_before first inside test (one (arm always body))

pub told_loop : (first : Option Refusal) (inside : Bool) (test : Steps) (ends : Bool) (body : Steps) → told_by first inside (a_loop test ends body) ≡ told_by_all (told_by_all first true test) true body
told_loop first inside test ends body =
    told_before first true test (before (an_end ends) body) ∙ told_before (told_by_all first true test) true (an_end ends) body
    ∙ ap (λ q. told_by_all q true body) (told_end (told_by_all first true test) true ends)

-- ---- the first

nothing_told : (P : Refusal → Type 0) (first : Option Refusal) → IsFirst P first → IsFirst (λ r. P r ⊎ ⊥) first
nothing_told P first h = least_iff ComesFirst P (λ r. P r ⊎ ⊥) (λ r p. inl p) (λ r k. elim k [ inl p ↦ p | inr z ↦ absurd z ]) first h

one_told : (P : Refusal → Type 0) (first : Option Refusal) (q : Refusal) → IsFirst P first → IsFirst (λ r. P r ⊎ (q ≡ r)) (earlier_refusal first (Some q))
one_told P first q h = least_either ComesFirst precedes refusal_test P (λ r. q ≡ r) first (Some q) h (refl, λ r e. subst (λ z. ComesFirst q z) e (comes_itself q))

word_told : (P : Refusal → Type 0) (first : Option Refusal) (inside : Bool) (p : Place) → IsFirst P first → IsFirst (λ r. P r ⊎ ((inside ≡ false) × (refused P19 p ≡ r))) (loop_word first inside p)
word_told P first true p h = least_iff ComesFirst P (λ r. P r ⊎ ((true ≡ false) × (refused P19 p ≡ r))) (λ r k. inl k) (λ r k. elim k [ inl q ↦ q | inr z ↦ (let e = z.0 in absurd (cc)) ]) first h
word_told P first false p h =
    least_iff ComesFirst (λ r. P r ⊎ (refused P19 p ≡ r)) (λ r. P r ⊎ ((false ≡ false) × (refused P19 p ≡ r)))
    (λ r k. elim k [ inl q ↦ inl q | inr e ↦ inr (refl, e) ]) (λ r k. elim k [ inl q ↦ inl q | inr z ↦ inr z.1 ]) (loop_word first false p) (one_told P first (refused P19 p) h)

mutual
  told_first : (f : Step) (P : Refusal → Type 0) (first : Option Refusal) (inside : Bool) → IsFirst P first → IsFirst (λ r. P r ⊎ Tells inside f r) (told_by first inside f)
  told_first (broken q) P first inside h = one_told P first q h
  told_first (read x p) P first inside h = nothing_told P first h
  told_first (assign x) P first inside h = nothing_told P first h
  told_first (forget x) P first inside h = nothing_told P first h
  told_first (arm always body) P first inside h = all_told_first body P first inside h
  told_first (choice fs) P first inside h = all_told_first fs P first inside h
  told_first may_end P first inside h = nothing_told P first h
  told_first (loop fs) P first inside h = all_told_first fs P first true h
  told_first (break p) P first inside h = word_told P first inside p h
  told_first (continue p) P first inside h = word_told P first inside p h
  told_first return P first inside h = nothing_told P first h

  pub all_told_first : (fs : Steps) (P : Refusal → Type 0) (first : Option Refusal) (inside : Bool) → IsFirst P first → IsFirst (λ r. P r ⊎ TellAll inside fs r) (told_by_all first inside fs)
  all_told_first no_steps P first inside h = nothing_told P first h
  all_told_first (a_step f fs) P first inside h =
      least_iff ComesFirst (λ r. (P r ⊎ Tells inside f r) ⊎ TellAll inside fs r) (λ r. P r ⊎ (Tells inside f r ⊎ TellAll inside fs r))
      (λ r k. elim k [ inl a ↦ elim a [ inl p ↦ inl p | inr t ↦ inr (inl t) ] | inr t ↦ inr (inr t) ])
      (λ r k. elim k [ inl p ↦ inl (inl p) | inr a ↦ elim a [ inl t ↦ inl (inr t) | inr t ↦ inr t ] ])
      (told_by_all (told_by first inside f) inside fs)
      (all_told_first fs (λ r. P r ⊎ Tells inside f r) (told_by first inside f) inside (told_first f P first inside h))

pub told_is_first : (fs : Steps) → IsFirst (TellAll false fs) (told_by_all None false fs)
told_is_first fs =
    least_iff ComesFirst (λ r. ⊥ ⊎ TellAll false fs r) (TellAll false fs) (λ r k. elim k [ inl z ↦ absurd z | inr t ↦ t ]) (λ r t. inr t) (told_by_all None false fs)
    (all_told_first fs (λ r. ⊥) None false (λ r z. z))
