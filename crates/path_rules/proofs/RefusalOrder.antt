-- The order of refusals and its test.
use Rattle.std.proofs.Common.{◌≡◌, ℕ, inl, inr, Bool, true, false, refl, sym, ◌∙◌, ap, subst, arith}
use Rattle.std.specs.Prelude.{if◌then◌else◌, ◌==◌, nat_lt}
use Rattle.std.proofs.lemmas.Bool.{ltb-true, ltb-false, eqb-true, eqb-false}
use Rattle.puya_base.specs.declared.source.Place.{Place}
use Rattle.puya_base.specs.declared.source.Refusal.{Refusal}
use Rattle.path_rules.specs.Rules.{number_of, IsNotAfter, ComesFirst}
use Rattle.path_rules.specs.Order.{precedes}
use Rattle.path_rules.proofs.Firsts.{IsTest}
use Rattle.path_rules.proofs.EndingLaws.{place_test}

line_of : {p q : Place} → p ≡ q → p.line ≡ q.line
line_of e = ap (λ (z : Place). z.line) e

col_of : {p q : Place} → p ≡ q → p.col ≡ q.col
col_of e = ap (λ (z : Place). z.col) e

same_place : (p q : Place) → p.line ≡ q.line → p.col ≡ q.col → p ≡ q
same_place p q e f =
    let at_line : ℕ → Place = λ n. record { line = n; col = p.col } in
    let at_col : ℕ → Place = λ n. record { line = q.line; col = n } in
    ap at_line e ∙ ap at_col f

both_ways : (p q : Place) → IsNotAfter p q → IsNotAfter q p → p ≡ q
both_ways p q (inl h) (inl k) = absurd (omega arith)
both_ways p q (inl h) (inr k) = let l = k.0 in absurd (omega arith)
both_ways p q (inr h) (inl k) = let l = h.0 in absurd (omega arith)
both_ways p q (inr h) (inr k) = let l = h.1 in let m = k.1 in same_place p q h.0 (omega arith)

pub comes_itself : (q : Refusal) → ComesFirst q q
comes_itself q = record { place = inr (refl, omega arith); rule = λ e. omega arith }

abbrev tested : Refusal → Refusal → Bool → Bool → Bool
tested q r same_line same_col =
    if same_line then (if same_col then nat_lt (number_of q.rule) (number_of r.rule) else nat_lt q.place.col r.place.col) else nat_lt q.place.line r.place.line

precedes_holds : (q r : Refusal) (b d : Bool) → (q.place.line == r.place.line) ≡ b → (q.place.col == r.place.col) ≡ d → tested q r b d ≡ true → ComesFirst q r
precedes_holds q r true true e f h =
    let c = eqb-true q.place.col r.place.col f in
    let n = ltb-true (number_of q.rule) (number_of r.rule) h in
    record { place = inr (eqb-true q.place.line r.place.line e, omega arith); rule = λ _. omega arith }
precedes_holds q r true false e f h =
    let c = ltb-true q.place.col r.place.col h in
    record { place = inr (eqb-true q.place.line r.place.line e, omega arith); rule = λ (s : q.place ≡ r.place). absurd (eqb-false q.place.col r.place.col f (col_of s)) }
precedes_holds q r false d e f h =
    record { place = inl (ltb-true q.place.line r.place.line h); rule = λ (s : q.place ≡ r.place). absurd (eqb-false q.place.line r.place.line e (line_of s)) }

precedes_fails : (q r : Refusal) (b d : Bool) → (q.place.line == r.place.line) ≡ b → (q.place.col == r.place.col) ≡ d → tested q r b d ≡ false → ComesFirst r q
precedes_fails q r true true e f h =
    let c = eqb-true q.place.col r.place.col f in
    let n = ltb-false (number_of q.rule) (number_of r.rule) h in
    record { place = inr (sym (eqb-true q.place.line r.place.line e), omega arith); rule = λ _. n }
precedes_fails q r true false e f h =
    record { place = inr (sym (eqb-true q.place.line r.place.line e), ltb-false q.place.col r.place.col h); rule = λ (s : r.place ≡ q.place). absurd (eqb-false q.place.col r.place.col f (sym (col_of s))) }
precedes_fails q r false d e f h =
    let n = eqb-false q.place.line r.place.line e in
    let l = ltb-false q.place.line r.place.line h in
    record { place = inl (omega arith); rule = λ (s : r.place ≡ q.place). absurd (n (sym (line_of s))) }

subst_place : (p q r : Place) → p ≡ r → IsNotAfter q r → IsNotAfter q p
subst_place p q r s h = subst (λ z. IsNotAfter q z) (sym s) h

first_through : (a b c : Refusal) → ComesFirst a b → ComesFirst b c → ComesFirst a c
first_through a b c h k = record {
  place = place_test.through a.place b.place c.place h.place k.place;
  rule = λ (s : a.place ≡ c.place).
      let back : IsNotAfter b.place a.place = subst_place a.place b.place c.place s k.place in
      let e = both_ways a.place b.place h.place back in
      let m = h.rule e in
      let n = k.rule (sym e ∙ s) in
      omega arith;
}

pub refusal_test : IsTest ComesFirst precedes
refusal_test = record {
  holds = λ q r h. precedes_holds q r (q.place.line == r.place.line) (q.place.col == r.place.col) refl refl h;
  fails = λ q r h. precedes_fails q r (q.place.line == r.place.line) (q.place.col == r.place.col) refl refl h;
  through = first_through;
}
