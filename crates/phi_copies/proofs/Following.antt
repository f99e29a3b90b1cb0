-- A path that grows by the next pair, and what a whole path leaves.
use Rattle.std.proofs.Common.{◌≡◌, ℕ, List, [], ◌∷◌, ◌++◌, refl, sym, ◌∙◌, ap, inl, inr}
use Rattle.std.specs.Prelude.{nat_eq, cond, Some, None}
use Rattle.std.proofs.lemmas.Bool.{cases_eq, eq-eqb, ne_eqb, cond-true, cond-false}
use Rattle.phi_copies.specs.declared.copies.Pair.{Pair}
use Rattle.phi_copies.specs.Cycles.{Leads}
use Rattle.phi_copies.specs.Paths.{Sources, with_pair, with_pairs, Fresh, Followed}
use Rattle.phi_copies.specs.Waiting.{IsFree}
use Rattle.phi_copies.proofs.Laws.{put_here, put_apart, clash, none_below, not_in, with_apart, with_congr, fresh_within, with_last, leads_last, fresh_last}

-- a path so far: not yet as far as there are sources
abbrev pub Follows : Sources → Sources → ℕ → List Pair → ℕ → Type 0
Follows old new start path end = record {
  leads : Leads start path end;
  fresh : Fresh path new;
  same : (k : ℕ) → with_pairs path new k ≡ old k;
}

-- the place has no source any more
abbrev pub Loses : Sources → Sources → ℕ → Type 0
Loses w v end = (k : ℕ) → v k ≡ cond (nat_eq end k) None (w k)

pub follows_on : (old w v : Sources) (start : ℕ) (path : List Pair) (end from : ℕ) → Follows old w start path end → w end ≡ Some from → Loses w v end
    → Follows old v start (path ++ record { to = end; from = from } ∷ []) from
follows_on old w v start path end from f e h =
    let p : Pair = record { to = end; from = from } in
    let here : v end ≡ None = h end ∙ cond-true (nat_eq end end) None (w end) (eq-eqb end end refl) in
    let apart = λ (k : ℕ) (ne : end ≡ k → ⊥). h k ∙ cond-false (nat_eq end k) None (w k) (ne_eqb end k ne) in
    let within : (k : ℕ) → w k ≡ None → v k ≡ None = λ k q. elim (cases_eq end k) [ inl i ↦ ap v (sym i) ∙ here | inr ne ↦ apart k ne ∙ q ] in
    let out = not_in path w end from f.fresh e in
    record {
      leads = leads_last start path end p f.leads refl;
      fresh = fresh_last path p v (fresh_within path w v within f.fresh) (with_apart path v end out ∙ here);
      same = λ k. with_last path p v k ∙ elim (cases_eq end k) [
        | inl i ↦ put_here (with_pairs path v) end (Some from) k i ∙ sym e ∙ sym (with_apart path w end out) ∙ f.same end ∙ ap old i
        | inr ne ↦ put_apart (with_pairs path v) end (Some from) k ne ∙ with_congr path v w k (apart k ne) ∙ f.same k
      ];
    }

-- each pair of a path was in the map
pub own_source : (p : Pair) (ps : List Pair) (w u : Sources) → Fresh (p ∷ ps) w → ((k : ℕ) → with_pairs (p ∷ ps) w k ≡ u k) → u p.to ≡ Some p.from
own_source p ps w u f same =
    let own : with_pair p w p.to ≡ Some p.from = put_here w p.to (Some p.from) p.to refl in
    sym (same p.to) ∙ with_apart ps (with_pair p w) p.to (not_in ps (with_pair p w) p.to p.from f.1 own) ∙ own

-- the place is in no pair of the list
abbrev pub Apart : ℕ → List Pair → Type 0
Apart spare [] = Unit {0}
Apart spare (p ∷ ps) = (p.to ≡ spare → ⊥) × (p.from ≡ spare → ⊥) × Apart spare ps

pub path_apart : (spare : ℕ) (ps : List Pair) (w u : Sources) → Fresh ps w → ((k : ℕ) → with_pairs ps w k ≡ u k) → IsFree spare u → Apart spare ps
path_apart spare [] w u f same free = tt
path_apart spare (p ∷ ps) w u f same free =
    let is = own_source p ps w u f same in
    (λ e. clash (u p.to) p.from is (ap u e ∙ free.0), λ e. free.1 p.to (is ∙ ap (λ q. Some q) e), path_apart spare ps (with_pair p w) u f.1 same free)

pub end_apart : (spare start : ℕ) (ps : List Pair) (end : ℕ) → Leads start ps end → (start ≡ spare → ⊥) → Apart spare ps → end ≡ spare → ⊥
end_apart spare start [] end h ne a e = ne (h ∙ e)
end_apart spare start (p ∷ ps) end h ne a e = end_apart spare p.from ps end h.1 a.1 a.2 e

pub stays_free : (spare : ℕ) (old new : Sources) (start : ℕ) (path : List Pair) (end : ℕ) → Followed old new start path end → IsFree spare old → IsFree spare new
stays_free spare old new start path end f free =
    (none_below path new spare (f.same spare ∙ free.0), λ k e. free.1 k (sym (f.same k) ∙ with_apart path new k (not_in path new k spare f.fresh e) ∙ e))

-- where a path starts there is no source any more
pub start_none : (new : Sources) (start : ℕ) (path : List Pair) (end : ℕ) → Leads start path end → Fresh path new → new end ≡ None → new start ≡ None
start_none new start [] end h f e = ap new h ∙ e
start_none new start (p ∷ ps) end h f e = ap new (sym h.0) ∙ f.0
