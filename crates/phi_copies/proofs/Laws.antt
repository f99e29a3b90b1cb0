-- Functions with another value at one place, and the partial maps of paths.
use Rattle.std.proofs.Common.{◌≡◌, ℕ, List, [], ◌∷◌, ◌++◌, refl, sym, ◌∙◌, ap, inl, inr}
use Rattle.std.specs.Prelude.{false, nat_eq, Option, Some, None}
use Rattle.std.proofs.lemmas.Bool.{cases_eq, eq-eqb, ne_eqb, eqb-false, cond-true, cond-false, or_parts}
use Rattle.phi_copies.specs.declared.copies.Pair.{Pair}
use Rattle.phi_copies.specs.Parallel.{put, writes}
use Rattle.phi_copies.specs.Cycles.{Leads}
use Rattle.phi_copies.specs.Paths.{Sources, with_pair, with_pairs, Fresh}

pub put_here : {A : Type 0} (f : ℕ → A) (at : ℕ) (a : A) (k : ℕ) → at ≡ k → put f at a k ≡ a
put_here f at a k e = cond-true (nat_eq at k) a (f k) (eq-eqb at k e)

pub put_apart : {A : Type 0} (f : ℕ → A) (at : ℕ) (a : A) (k : ℕ) → (at ≡ k → ⊥) → put f at a k ≡ f k
put_apart f at a k ne = cond-false (nat_eq at k) a (f k) (ne_eqb at k ne)

pub clash : {A : Type 0} (o : Option A) (a : A) → o ≡ Some a → o ≡ None → ⊥
clash o a e f = let h : Some a ≡ None = sym e ∙ f in cc

-- the place is written by no pair of the list
abbrev pub NotIn : ℕ → List Pair → Type 0
NotIn k [] = Unit {0}
NotIn k (p ∷ ps) = (p.to ≡ k → ⊥) × NotIn k ps

-- with a pair more, a place without a source has none before
pub none_before : (p : Pair) (w : Sources) (k : ℕ) → with_pair p w k ≡ None → (p.to ≡ k → ⊥) × (w k ≡ None)
none_before p w k h =
    let ne : p.to ≡ k → ⊥ = λ (e : p.to ≡ k). clash (with_pair p w k) p.from (put_here w p.to (Some p.from) k e) h in
    (ne, sym (put_apart w p.to (Some p.from) k ne) ∙ h)

pub none_below : (ps : List Pair) (w : Sources) (k : ℕ) → with_pairs ps w k ≡ None → w k ≡ None
none_below [] w k h = h
none_below (p ∷ ps) w k h = (none_before p w k (none_below ps (with_pair p w) k h)).1

pub not_in : (ps : List Pair) (w : Sources) (k from : ℕ) → Fresh ps w → w k ≡ Some from → NotIn k ps
not_in [] w k from h e = tt
not_in (p ∷ ps) w k from h e =
    let ne : p.to ≡ k → ⊥ = λ (q : p.to ≡ k). clash (w k) from e (ap w (sym q) ∙ h.0) in
    (ne, not_in ps (with_pair p w) k from h.1 (put_apart w p.to (Some p.from) k ne ∙ e))

pub with_apart : (ps : List Pair) (w : Sources) (k : ℕ) → NotIn k ps → with_pairs ps w k ≡ w k
with_apart [] w k h = refl
with_apart (p ∷ ps) w k h = with_apart ps (with_pair p w) k h.1 ∙ put_apart w p.to (Some p.from) k h.0

pub put_congr : {A : Type 0} (f g : ℕ → A) (at : ℕ) (a : A) (k : ℕ) → f k ≡ g k → put f at a k ≡ put g at a k
put_congr f g at a k h = elim (cases_eq at k) [
  | inl e ↦ put_here f at a k e ∙ sym (put_here g at a k e)
  | inr ne ↦ put_apart f at a k ne ∙ h ∙ sym (put_apart g at a k ne)
]

pub with_congr : (ps : List Pair) (w v : Sources) (k : ℕ) → w k ≡ v k → with_pairs ps w k ≡ with_pairs ps v k
with_congr [] w v k h = h
with_congr (p ∷ ps) w v k h = with_congr ps (with_pair p w) (with_pair p v) k (put_congr w v p.to (Some p.from) k h)

pub fresh_within : (ps : List Pair) (w v : Sources) → ((k : ℕ) → w k ≡ None → v k ≡ None) → Fresh ps w → Fresh ps v
fresh_within [] w v h f = tt
fresh_within (p ∷ ps) w v h f =
    let one = λ (k : ℕ) (e : with_pair p w k ≡ None). put_apart v p.to (Some p.from) k (none_before p w k e).0 ∙ h k (none_before p w k e).1 in
    (h p.to f.0, fresh_within ps (with_pair p w) (with_pair p v) one f.1)

pub with_last : (ps : List Pair) (p : Pair) (w : Sources) (k : ℕ) → with_pairs (ps ++ p ∷ []) w k ≡ with_pair p (with_pairs ps w) k
with_last [] p w k = refl
with_last (x ∷ ps) p w k = with_last ps p (with_pair x w) k

pub leads_last : (start : ℕ) (ps : List Pair) (end : ℕ) (p : Pair) → Leads start ps end → p.to ≡ end → Leads start (ps ++ p ∷ []) p.from
leads_last start [] end p h e = (e ∙ sym h, refl)
leads_last start (x ∷ ps) end p h e = (h.0, leads_last x.from ps end p h.1 e)

pub fresh_last : (ps : List Pair) (p : Pair) (w : Sources) → Fresh ps w → with_pairs ps w p.to ≡ None → Fresh (ps ++ p ∷ []) w
fresh_last [] p w f h = (h, tt)
fresh_last (x ∷ ps) p w f h = (f.0, fresh_last ps p (with_pair x w) f.1 h)

-- a place that the first of some pairs or a later one writes
pub not_first : (p : Pair) (ps : List Pair) (k : ℕ) → writes k (p ∷ ps) ≡ false → (p.to ≡ k → ⊥) × (writes k ps ≡ false)
not_first p ps k h = let both = or_parts (nat_eq p.to k) (writes k ps) h in (eqb-false p.to k both.0, both.1)
