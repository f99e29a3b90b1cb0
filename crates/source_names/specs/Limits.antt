-- How much of a limit types leave.
use Rattle.std.specs.Prelude.{ℕ, ◌-◌, nat_le, if◌then◌else◌, Option, Some, None}

-- what so many leave of a limit, where it is not passed
unfoldable pub left : ℕ → ℕ → Option ℕ
left n k = if nat_le k n then Some (n - k) else None
