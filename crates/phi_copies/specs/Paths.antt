-- The waiting pairs as a partial map from each place to its source, and paths along it.
use Rattle.std.specs.Prelude.{◌≡◌, ℕ, Option, Some, None, if◌then◌else◌, nat_eq, List, [], ◌∷◌}
use Rattle.phi_copies.specs.declared.copies.Pair.{Pair}
use Rattle.phi_copies.specs.Parallel.{put}
use Rattle.phi_copies.specs.Cycles.{Leads}

-- the source of each place that still waits for one
abbrev pub Sources : Type 0
Sources = ℕ → Option ℕ

-- with one pair more
abbrev pub with_pair : Pair → Sources → Sources
with_pair p w = put w p.to (Some p.from)

-- with pairs more
abbrev pub with_pairs : List Pair → Sources → Sources
with_pairs [] w = w
with_pairs (p ∷ ps) w = with_pairs ps (with_pair p w)

-- each pair writes a place that has no source yet, of the map or of an earlier pair
abbrev pub Fresh : List Pair → Sources → Type 0
Fresh [] w = Unit {0}
Fresh (p ∷ ps) w = (w p.to ≡ None) × Fresh ps (with_pair p w)

-- a path was taken off a map: from `start` as far as there are sources
abbrev pub Followed : Sources → Sources → ℕ → List Pair → ℕ → Type 0
Followed old new start path end = record {
  leads : Leads start path end;
  ends : new end ≡ None;
  fresh : Fresh path new;
  same : (k : ℕ) → with_pairs path new k ≡ old k;
}

-- the moves of a path's pairs, of which those that read `end` read the spare place
abbrev pub closing : ℕ → ℕ → List Pair → List Pair
closing spare end [] = []
closing spare end (p ∷ ps) = (if nat_eq p.from end then record { to = p.to; from = spare } else p) ∷ closing spare end ps

-- the moves of a path's pairs: where one of them writes `end`, the path runs into a cycle, and `end` is saved before
abbrev pub moves_of : ℕ → ℕ → List Pair → List Pair
moves_of spare end [] = []
moves_of spare end (p ∷ ps) = if nat_eq p.to end then record { to = spare; from = end } ∷ closing spare end (p ∷ ps) else p ∷ moves_of spare end ps
