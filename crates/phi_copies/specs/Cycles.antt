-- The cycles of pairs, and how many moves they cost. A pair is an edge from the place that it writes to the place that it reads;
-- where no two pairs write one place, two cycles that share a place are the same.
use Rattle.std.specs.Prelude.{◌≡◌, ℕ, ◌+◌, Bool, true, false, ◌&&◌, ◌||◌, if◌then◌else◌, nat_eq, List, [], ◌∷◌, ◌++◌, length}
use Rattle.phi_copies.specs.declared.copies.Pair.{Pair}
use Rattle.phi_copies.specs.Parallel.{no_two_write_one}

-- the pairs that are no self copies
abbrev pub proper : List Pair → List Pair
proper [] = []
proper (p ∷ ps) = if nat_eq p.to p.from then proper ps else p ∷ proper ps

-- the pair is in the list
abbrev pub has : Pair → List Pair → Bool
has p [] = false
has p (q ∷ qs) = (nat_eq p.to q.to && nat_eq p.from q.from) || has p qs

-- each of the first pairs is among the second
abbrev pub AllAmong : List Pair → List Pair → Type 0
AllAmong [] qs = Unit {0}
AllAmong (p ∷ ps) qs = (has p qs ≡ true) × AllAmong ps qs

-- each pair reads what the next one writes: from the place that the first writes to the place that the last reads
abbrev pub Leads : ℕ → List Pair → ℕ → Type 0
Leads start [] end = start ≡ end
Leads start (p ∷ ps) end = (p.to ≡ start) × Leads p.from ps end

-- each pair reads what the next one writes, and the last reads what the first writes
abbrev pub IsCycle : List Pair → Type 0
IsCycle [] = ⊥
IsCycle (p ∷ ps) = Leads p.to (p ∷ ps) p.to

abbrev pub EachIsCycle : List (List Pair) → Type 0
EachIsCycle [] = Unit {0}
EachIsCycle (c ∷ cs) = IsCycle c × EachIsCycle cs

-- the pairs of all of them
abbrev pub joined : List (List Pair) → List Pair
joined [] = []
joined (c ∷ cs) = c ++ joined cs

-- there are as many moves as pairs that are no self copies, and one more for each of some cycles of these pairs, of which no two
-- share a place: so at most one more for each cycle
pub record OneMorePerCycle (moves pairs : List Pair) : Type 0 where
  pub cycles : List (List Pair)
  pub each : EachIsCycle cycles
  pub among : AllAmong (joined cycles) (proper pairs)
  pub apart : no_two_write_one (joined cycles) ≡ true
  pub count : length moves ≡ length (proper pairs) + length cycles
