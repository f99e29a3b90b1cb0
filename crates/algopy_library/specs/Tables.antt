-- Tables of names.
use Rattle.std.specs.Prelude.{ℕ, if◌then◌else◌, List, [], ◌∷◌, bytes_eq, Option, Some, None}

-- what stands in a table under a name
abbrev pub named_in : {A : Type 0} → List (List ℕ × A) → List ℕ → Option A
named_in [] n = None
named_in (e ∷ es) n = if bytes_eq e.0 n then Some e.1 else named_in es n
