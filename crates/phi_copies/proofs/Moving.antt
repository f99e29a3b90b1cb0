-- The moves of a path do what its pairs do at once.
use Rattle.std.proofs.Common.{◌≡◌, ℕ, List, [], ◌∷◌, refl, sym, ◌∙◌, ap, subst, inl, inr}
use Rattle.std.specs.Prelude.{◌⊎◌, nat_eq, Some, None}
use Rattle.std.proofs.lemmas.Bool.{cases_eq, eq-eqb, ne_eqb, cond-true, cond-false}
use Rattle.phi_copies.specs.declared.copies.Pair.{Pair}
use Rattle.phi_copies.specs.Parallel.{Holding, put, moved, one_by_one}
use Rattle.phi_copies.specs.Cycles.{Leads}
use Rattle.phi_copies.specs.Paths.{Sources, with_pair, with_pairs, Fresh, closing, moves_of}
use Rattle.phi_copies.specs.Waiting.{value_by, after}
use Rattle.phi_copies.proofs.Laws.{put_here, put_apart, none_before}
use Rattle.phi_copies.proofs.Following.{Apart}

-- the places hold the same outside the spare one
abbrev pub Agree : ℕ → Holding → Holding → Type 0
Agree spare E F = (k : ℕ) → (k ≡ spare → ⊥) → E k ≡ F k

-- a place takes its source's value
pub agree_put : (spare to from v : ℕ) (w : Sources) (env E : Holding) → Agree spare E (after w env) → v ≡ env from
    → Agree spare (put E to v) (after (put w to (Some from)) env)
agree_put spare to from v w env E h is = λ k ne. elim (cases_eq to k) [
  | inl e ↦ put_here E to v k e ∙ is ∙ sym (ap (λ o. value_by o env k) (put_here w to (Some from) k e))
  | inr other ↦ put_apart E to v k other ∙ h k ne ∙ sym (ap (λ o. value_by o env k) (put_apart w to (Some from) k other))
]

-- a place without a source still holds its own value
pub held : (spare k : ℕ) (w : Sources) (env E : Holding) → Agree spare E (after w env) → (k ≡ spare → ⊥) → w k ≡ None → E k ≡ env k
held spare k w env E h ne e = h k ne ∙ ap (λ o. value_by o env k) e

-- what a pair of a path reads has no source, but for the last
pub next_none : (p : Pair) (ps : List Pair) (w : Sources) (end : ℕ) → Leads p.from ps end → Fresh ps (with_pair p w) → (p.from ≡ end) ⊎ (w p.from ≡ None)
next_none p [] w end h f = inl h
next_none p (q ∷ ps) w end h f = inr (ap w (sym h.0) ∙ (none_before p w q.to f.0).1)

pub closing_moves : (spare end : ℕ) (ps : List Pair) (start : ℕ) (w : Sources) (env E : Holding) → Leads start ps end → Fresh ps w → Apart spare ps
    → E spare ≡ env end → Agree spare E (after w env) → Agree spare (one_by_one (closing spare end ps) E) (after (with_pairs ps w) env)
closing_moves spare end [] start w env E l f a s h = h
closing_moves spare end (p ∷ ps) start w env E l f a s h =
    let r : Pair = record { to = p.to; from = spare } in
    let on = λ (m : Pair). Agree spare (one_by_one (closing spare end ps) (moved m E)) (after (with_pairs ps (with_pair p w)) env) in
    elim (cases_eq p.from end) [
      | inl e ↦ subst on (sym (cond-true (nat_eq p.from end) r p (eq-eqb p.from end e)))
          (closing_moves spare end ps p.from (with_pair p w) env (moved r E) l.1 f.1 a.2 (put_apart E p.to (E spare) spare a.0 ∙ s)
          (agree_put spare p.to p.from (E spare) w env E h (s ∙ ap env (sym e))))
      | inr ne ↦ subst on (sym (cond-false (nat_eq p.from end) r p (ne_eqb p.from end ne)))
          (closing_moves spare end ps p.from (with_pair p w) env (moved p E) l.1 f.1 a.2 (put_apart E p.to (E p.from) spare a.0 ∙ s)
          (agree_put spare p.to p.from (E p.from) w env E h
          (held spare p.from w env E h a.1 (elim (next_none p ps w end l.1 f.1) [ inl e ↦ absurd (ne e) | inr none ↦ none ]))))
    ]

pub path_moves : (spare end : ℕ) (ps : List Pair) (start : ℕ) (w : Sources) (env E : Holding) → Leads start ps end → Fresh ps w → Apart spare ps
    → (end ≡ spare → ⊥) → w end ≡ None → Agree spare E (after w env) → Agree spare (one_by_one (moves_of spare end ps) E) (after (with_pairs ps w) env)
path_moves spare end [] start w env E l f a apart none h = h
path_moves spare end (p ∷ ps) start w env E l f a apart none h =
    let save : Pair = record { to = spare; from = end } in
    let saved = save ∷ closing spare end (p ∷ ps) in
    let plain = p ∷ moves_of spare end ps in
    let on = λ (ms : List Pair). Agree spare (one_by_one ms E) (after (with_pairs ps (with_pair p w)) env) in
    elim (cases_eq p.to end) [
      | inl e ↦ subst on (sym (cond-true (nat_eq p.to end) saved plain (eq-eqb p.to end e)))
          (closing_moves spare end (p ∷ ps) start w env (moved save E) l f a (put_here E spare (E end) spare refl ∙ held spare end w env E h apart none)
          (λ k ne. put_apart E spare (E end) k (λ q. ne (sym q)) ∙ h k ne))
      | inr other ↦ subst on (sym (cond-false (nat_eq p.to end) saved plain (ne_eqb p.to end other)))
          (path_moves spare end ps p.from (with_pair p w) env (moved p E) l.1 f.1 a.2 apart (put_apart w p.to (Some p.from) end other ∙ none)
          (agree_put spare p.to p.from (E p.from) w env E h
          (held spare p.from w env E h a.1 (elim (next_none p ps w end l.1 f.1) [ inl e ↦ ap w e ∙ none | inr free ↦ free ]))))
    ]
