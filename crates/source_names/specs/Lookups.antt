-- Looking names up: the first line that has a name counts.
use Rattle.std.specs.Prelude.{ℕ, Bool, true, false, if◌then◌else◌, List, [], ◌∷◌, ◌++◌, bytes_eq, Option, Some, None}

unfoldable pub first_of : {A : Type 0} → Option A → Option A → Option A
first_of None o = o
first_of (Some x) o = Some x

unfoldable pub value_at : {A : Type 0} → List ℕ → A → List ℕ → Option A
value_at name x n = if bytes_eq name n then Some x else None

-- whether a name is one of those that were seen
abbrev pub is_seen : List ℕ → List (List ℕ) → Bool
is_seen n [] = false
is_seen n (m ∷ ms) = if bytes_eq m n then true else is_seen n ms

-- names seen once this one is
unfoldable pub with_name : List (List ℕ) → List ℕ → List (List ℕ)
with_name seen n = if is_seen n seen then seen else seen ++ n ∷ []
