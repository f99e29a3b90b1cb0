-- The map of the pairs that are no self copies, pair by pair.
use Rattle.std.proofs.Common.{◌≡◌, ℕ, List, [], ◌∷◌, refl, sym, ◌∙◌, ap, subst, inl, inr, arith}
use Rattle.std.specs.Prelude.{Bool, ◌+◌, length, true, false, not, ◌&&◌, ◌||◌, nat_eq, Some, None}
use Rattle.std.proofs.lemmas.Bool.{cases_eq, eq-eqb, ne_eqb, eqb-false, cond-true, cond-false, and_parts, or_parts, or_right, or_left, not-true, both_ways, and_from}
use Rattle.phi_copies.specs.declared.copies.Pair.{Pair}
use Rattle.phi_copies.specs.Parallel.{Holding, put, at_once, writes, no_two_write_one, uses}
use Rattle.phi_copies.specs.Paths.{Sources, with_pair}
use Rattle.phi_copies.specs.Cycles.{proper, has}
use Rattle.phi_copies.specs.Waiting.{value_by, after, IsFree, IsWithin, IsWaiting}
use Rattle.phi_copies.proofs.Laws.{put_here, put_apart, put_congr, clash, not_first}

-- pairs at once over places that hold something else, with the sources read in `env`
abbrev pub over : List Pair → Holding → Holding → Holding
over [] base env = base
over (p ∷ ps) base env = put (over ps base env) p.to (env p.from)

over_own : (ps : List Pair) (env : Holding) (k : ℕ) → over ps env env k ≡ at_once ps env k
over_own [] env k = refl
over_own (p ∷ ps) env k = put_congr (over ps env env) (at_once ps env) p.to (env p.from) k (over_own ps env k)

over_congr : (ps : List Pair) (a b env : Holding) (k : ℕ) → a k ≡ b k → over ps a env k ≡ over ps b env k
over_congr [] a b env k h = h
over_congr (p ∷ ps) a b env k h = put_congr (over ps a env) (over ps b env) p.to (env p.from) k (over_congr ps a b env k h)

over_apart : (ps : List Pair) (a env : Holding) (k : ℕ) → writes k ps ≡ false → over ps a env k ≡ a k
over_apart [] a env k h = refl
over_apart (p ∷ ps) a env k h =
    let both = not_first p ps k h in
    put_apart (over ps a env) p.to (env p.from) k both.0 ∙ over_apart ps a env k both.1

-- the map has the pairs before the rest
pub record IsLoading (pairs rest : List Pair) (w : Sources) (entries : ℕ) : Type 0 where
  pub single : no_two_write_one rest ≡ true
  pub same : (env : Holding) (k : ℕ) → over rest (after w env) env k ≡ at_once pairs env k
  pub fresh : (k : ℕ) → writes k rest ≡ true → w k ≡ None
  pub only : (k : ℕ) → writes k pairs ≡ false → (w k ≡ None) × (writes k rest ≡ false)
  pub free : (k : ℕ) → uses k pairs ≡ false → IsFree k w × (uses k rest ≡ false)
  pub within : IsWithin w (proper pairs)
  pub left : (p : Pair) → has p (proper rest) ≡ true → has p (proper pairs) ≡ true
  pub count : entries + length (proper rest) ≡ length (proper pairs)

pub load_none : (pairs : List Pair) (w : Sources) → no_two_write_one pairs ≡ true → ((k : ℕ) → w k ≡ None) → IsLoading pairs pairs w 0
load_none pairs w h none = record {
  single = h;
  same = λ env k. over_congr pairs (after w env) env env k (ap (λ o. value_by o env k) (none k)) ∙ over_own pairs env k;
  fresh = λ k e. none k;
  only = λ k e. (none k, e);
  free = λ k e. ((none k, λ q i. clash (w q) k i (none q)), e);
  within = λ k from e. absurd (clash (w k) from e (none k));
  left = λ p e. e;
  count = omega arith;
}

single_parts : (p : Pair) (ps : List Pair) → no_two_write_one (p ∷ ps) ≡ true → (writes p.to ps ≡ false) × (no_two_write_one ps ≡ true)
single_parts p ps h =
    let both = and_parts (not (writes p.to ps)) (no_two_write_one ps) h in
    (not-true (writes p.to ps) both.0, both.1)

-- the pair's place and its source, and what is left
pub unused_parts : (p : Pair) (ps : List Pair) (k : ℕ) → uses k (p ∷ ps) ≡ false → (p.to ≡ k → ⊥) × (p.from ≡ k → ⊥) × (uses k ps ≡ false)
unused_parts p ps k h =
    let one = or_parts (nat_eq p.to k) (nat_eq p.from k || uses k ps) h in
    let two = or_parts (nat_eq p.from k) (uses k ps) one.1 in
    (eqb-false p.to k one.0, eqb-false p.from k two.0, two.1)

proper_self : (p : Pair) (ps : List Pair) → p.to ≡ p.from → proper (p ∷ ps) ≡ proper ps
proper_self p ps e = cond-true (nat_eq p.to p.from) (proper ps) (p ∷ proper ps) (eq-eqb p.to p.from e)

proper_other : (p : Pair) (ps : List Pair) → (p.to ≡ p.from → ⊥) → proper (p ∷ ps) ≡ p ∷ proper ps
proper_other p ps ne = cond-false (nat_eq p.to p.from) (proper ps) (p ∷ proper ps) (ne_eqb p.to p.from ne)

has_first : (p : Pair) (ps : List Pair) → has p (p ∷ ps) ≡ true
has_first p ps = or_left (nat_eq p.to p.to && nat_eq p.from p.from) (has p ps) (and_from (nat_eq p.to p.to) (nat_eq p.from p.from) (eq-eqb p.to p.to refl) (eq-eqb p.from p.from refl))

-- a self copy changes nothing
pub load_self : (pairs : List Pair) (p : Pair) (rest : List Pair) (w : Sources) (entries : ℕ) → IsLoading pairs (p ∷ rest) w entries → p.to ≡ p.from → IsLoading pairs rest w entries
load_self pairs p rest w entries h is =
    let parts = single_parts p rest h.single in
    let none : w p.to ≡ None = h.fresh p.to (ap (λ (b : Bool). b || writes p.to rest) (eq-eqb p.to p.to refl)) in
    record {
      single = parts.1;
      same = λ env k. elim (cases_eq p.to k) [
        | inl e ↦ over_apart rest (after w env) env k (subst (λ q. writes q rest ≡ false) e parts.0)
            ∙ ap (λ o. value_by o env k) (ap w (sym e) ∙ none) ∙ ap env (sym e ∙ is)
            ∙ sym (put_here (over rest (after w env) env) p.to (env p.from) k e) ∙ h.same env k
        | inr ne ↦ sym (put_apart (over rest (after w env) env) p.to (env p.from) k ne) ∙ h.same env k
      ];
      fresh = λ k e. h.fresh k (or_right (nat_eq p.to k) (writes k rest) e);
      only = λ k e. let o = h.only k e in (o.0, (not_first p rest k o.1).1);
      free = λ k e. let o = h.free k e in (o.0, (unused_parts p rest k o.1).2);
      within = h.within;
      left = λ q e. h.left q (ap (has q) (proper_self p rest is) ∙ e);
      count = omega (arith, h.count, ap length (proper_self p rest is));
    }

-- another pair goes into the map
pub load_one : (pairs : List Pair) (p : Pair) (rest : List Pair) (w v : Sources) (entries more : ℕ) → IsLoading pairs (p ∷ rest) w entries → (p.to ≡ p.from → ⊥)
    → ((k : ℕ) → v k ≡ with_pair p w k) → (w p.to ≡ None → more ≡ entries + 1) → IsLoading pairs rest v more
load_one pairs p rest w v entries more h proper_pair new len =
    let none : w p.to ≡ None = h.fresh p.to (ap (λ (b : Bool). b || writes p.to rest) (eq-eqb p.to p.to refl)) in
    let one = proper_other p rest proper_pair in
    let parts = single_parts p rest h.single in
    let here = λ (k : ℕ) (e : p.to ≡ k). new k ∙ put_here w p.to (Some p.from) k e in
    let apart = λ (k : ℕ) (ne : p.to ≡ k → ⊥). new k ∙ put_apart w p.to (Some p.from) k ne in
    record {
      single = parts.1;
      same = λ env k. elim (cases_eq p.to k) [
        | inl e ↦ over_apart rest (after v env) env k (subst (λ q. writes q rest ≡ false) e parts.0)
            ∙ ap (λ o. value_by o env k) (here k e)
            ∙ sym (put_here (over rest (after w env) env) p.to (env p.from) k e) ∙ h.same env k
        | inr ne ↦ over_congr rest (after v env) (after w env) env k (ap (λ o. value_by o env k) (apart k ne))
            ∙ sym (put_apart (over rest (after w env) env) p.to (env p.from) k ne) ∙ h.same env k
      ];
      fresh = λ k e.
          let ne : p.to ≡ k → ⊥ = λ (q : p.to ≡ k). both_ways (writes k rest) (subst (λ i. writes i rest ≡ false) q parts.0) e in
          apart k ne ∙ h.fresh k (or_right (nat_eq p.to k) (writes k rest) e);
      only = λ k e. let o = h.only k e in let n = not_first p rest k o.1 in (apart k n.0 ∙ o.0, n.1);
      free = λ k e.
          let o = h.free k e in
          let n = unused_parts p rest k o.1 in (
            (
              apart k n.0 ∙ o.0.0,
              λ q i. elim (cases_eq p.to q) [
                | inl j ↦ n.1 (let two : Some p.from ≡ Some k = sym (here q j) ∙ i in cc)
                | inr ne ↦ o.0.1 q (sym (apart q ne) ∙ i)
              ],
            ),
            n.2,
          );
      within = λ k from e. elim (cases_eq p.to k) [
        | inl j ↦
            let two : Some p.from ≡ Some from = sym (here k j) ∙ e in
            let source : p.from ≡ from = cc in
            subst (λ (t : ℕ). has (record { to = t; from = from }) (proper pairs) ≡ true) j
            (subst (λ (f : ℕ). has (record { to = p.to; from = f }) (proper pairs) ≡ true) source (h.left p (ap (has p) one ∙ has_first p (proper rest))))
        | inr ne ↦ h.within k from (sym (apart k ne) ∙ e)
      ];
      left = λ q e. h.left q (ap (has q) one ∙ or_right (nat_eq q.to p.to && nat_eq q.from p.from) (has q (proper rest)) e);
      count = omega (arith, h.count, ap length one, len none);
    }

pub loaded : (pairs : List Pair) (w : Sources) (entries : ℕ) → IsLoading pairs [] w entries → IsWaiting pairs w entries
loaded pairs w entries h = record {
  same = h.same;
  only = λ k e. (h.only k e).0;
  free = λ k e. (h.free k e).0;
  within = h.within;
  count = omega (arith, h.count);
}
