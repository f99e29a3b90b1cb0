-- Path by path, the moves behind come to do what all pairs do at once.
use Rattle.std.proofs.Common.{◌≡◌, ℕ, List, [], ◌∷◌, ◌++◌, refl, sym, ◌∙◌, ap, inl, inr}
use Rattle.std.specs.Prelude.{false, nat_eq, None}
use Rattle.std.proofs.lemmas.Bool.{cases_eq, ne_eqb, or_from}
use Rattle.phi_copies.specs.declared.copies.Pair.{Pair}
use Rattle.phi_copies.specs.Parallel.{Holding, moved, one_by_one, at_once, writes, uses, Sequences}
use Rattle.phi_copies.specs.Paths.{Sources, Followed, moves_of}
use Rattle.phi_copies.specs.Waiting.{value_by, after, IsFree, IsWaiting}
use Rattle.phi_copies.proofs.Laws.{none_below}
use Rattle.phi_copies.proofs.Following.{path_apart, end_apart, stays_free, start_none}
use Rattle.phi_copies.proofs.Loading.{unused_parts}
use Rattle.phi_copies.proofs.Moving.{Agree, path_moves}

pub one_by_one-append : (a b : List Pair) (E : Holding) → one_by_one (a ++ b) E ≡ one_by_one b (one_by_one a E)
one_by_one-append [] b E = refl
one_by_one-append (m ∷ a) b E = one_by_one-append a b (moved m E)

-- after what waits, the moves do the rest, whatever the spare place holds
pub record IsTurning (spare : ℕ) (pairs rest : List Pair) (w : Sources) (moves : List Pair) : Type 0 where
  pub done : (env E : Holding) → Agree spare E (after w env) → Agree spare (one_by_one moves E) (at_once pairs env)
  pub free : IsFree spare w
  pub apart : uses spare rest ≡ false
  pub only : (k : ℕ) → writes k rest ≡ false → w k ≡ None

pub turn_none : (spare : ℕ) (pairs : List Pair) (w : Sources) (entries : ℕ) → IsWaiting pairs w entries → uses spare pairs ≡ false → IsTurning spare pairs pairs w []
turn_none spare pairs w entries h apart = record {
  done = λ env E agree k ne. agree k ne ∙ h.same env k;
  free = h.free spare apart;
  apart = apart;
  only = h.only;
}

pub turn_one : (spare : ℕ) (pairs : List Pair) (p : Pair) (rest : List Pair) (old new : Sources) (moves path : List Pair) (end : ℕ)
    → IsTurning spare pairs (p ∷ rest) old moves → Followed old new p.to path end → IsTurning spare pairs rest new (moves_of spare end path ++ moves)
turn_one spare pairs p rest old new moves path end h f =
    let unused = unused_parts p rest spare h.apart in
    let apart = path_apart spare path new old f.fresh f.same h.free in
    let out = end_apart spare p.to path end f.leads unused.0 apart in
    record {
      done = λ env E agree k ne.
          ap (λ (F : Holding). F k) (one_by_one-append (moves_of spare end path) moves E)
          ∙ h.done env (one_by_one (moves_of spare end path) E)
          (λ q other. path_moves spare end path p.to new env E f.leads f.fresh apart out f.ends agree q other ∙ ap (λ o. value_by o env q) (f.same q)) k ne;
      free = stays_free spare old new p.to path end f h.free;
      apart = unused.2;
      only = λ k e. elim (cases_eq p.to k) [
        | inl i ↦ ap new (sym i) ∙ start_none new p.to path end f.leads f.fresh f.ends
        | inr other ↦ none_below path new k (f.same k ∙ h.only k (or_from (nat_eq p.to k) (writes k rest) (ne_eqb p.to k other) e))
      ];
    }

pub turned : (spare : ℕ) (pairs : List Pair) (w : Sources) (moves : List Pair) → IsTurning spare pairs [] w moves → Sequences moves pairs spare
turned spare pairs w moves h = λ env k ne. h.done env env (λ q other. sym (ap (λ o. value_by o env q) (h.only q refl))) k ne
