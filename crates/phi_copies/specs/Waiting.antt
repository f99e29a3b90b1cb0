-- What waits of parallel copies.
use Rattle.std.specs.Prelude.{◌≡◌, ℕ, true, false, Option, Some, None, List, length}
use Rattle.phi_copies.specs.declared.copies.Pair.{Pair}
use Rattle.phi_copies.specs.Parallel.{Holding, at_once, writes, uses}
use Rattle.phi_copies.specs.Paths.{Sources}
use Rattle.phi_copies.specs.Cycles.{proper, has}

-- what a place holds that gets its source's value, or keeps its own
abbrev pub value_by : Option ℕ → Holding → ℕ → ℕ
value_by None env k = env k
value_by (Some from) env k = env from

-- what the places hold after the waiting pairs at once
abbrev pub after : Sources → Holding → Holding
after w env k = value_by (w k) env k

-- the place is in no pair
abbrev pub IsFree : ℕ → Sources → Type 0
IsFree spare w = (w spare ≡ None) × ((k : ℕ) → w k ≡ Some spare → ⊥)

-- the map has only pairs of the list
abbrev pub IsWithin : Sources → List Pair → Type 0
IsWithin w pairs = (k from : ℕ) → w k ≡ Some from → has (record { to = k; from = from }) pairs ≡ true

-- the map has the pairs that are no self copies, in so many entries: at once it does the same, and it has no other places
abbrev pub IsWaiting : List Pair → Sources → ℕ → Type 0
IsWaiting pairs w entries = record {
  same : (env : Holding) (k : ℕ) → after w env k ≡ at_once pairs env k;
  only : (k : ℕ) → writes k pairs ≡ false → w k ≡ None;
  free : (k : ℕ) → uses k pairs ≡ false → IsFree k w;
  within : IsWithin w (proper pairs);
  count : entries ≡ length (proper pairs);
}
