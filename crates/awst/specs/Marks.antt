-- Rows of marks, by number.
use Rattle.std.specs.Prelude.{ℕ, ◌+◌, ◌||◌, Bool, if◌then◌else◌, map, List, [], ◌∷◌}
use Rattle.awst.specs.Capped.{capped}
use Rattle.awst.specs.Types.{scalar_count}
use Rattle.awst.specs.Plain.{Scope}
use Rattle.awst.specs.Meaning.{Function}
use Rattle.awst.specs.Weight.{function_weight}

-- the marks from number x on, with those of the numbers that pass besides
abbrev pub marked_from : ℕ → (ℕ → Bool) → List Bool → List Bool
marked_from x also [] = []
marked_from x also (mark ∷ marks) = (mark || also x) ∷ marked_from (x + 1) also marks

abbrev pub marked : (ℕ → Bool) → List Bool → List Bool
marked = marked_from 0

-- the sum of the numbers that are marked
abbrev pub marked_sum : List Bool → List ℕ → ℕ
marked_sum (mark ∷ marks) (n ∷ ns) = (if mark then n else 0) + marked_sum marks ns
marked_sum _ _ = 0

-- how many scalars the variables of a function have each, at most 2^64-1
abbrev pub sizes_of : Scope → List ℕ
sizes_of scope = map (λ t. capped (scalar_count t)) scope

-- what functions weigh each, at most 2^64-1
abbrev pub weights_of : List Function → List ℕ
weights_of functions = map (λ f. capped (function_weight f)) functions
