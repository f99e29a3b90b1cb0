-- The orders of the keys of state (AVM specification, "Accessing Application State": keys are byte strings, each account has keys of its own).
use Rattle.std.specs.Prelude.{ℕ, List}
use Rattle.std.specs.Ordering.{nat_cmp, ordering_then}
use Rattle.std.specs.Cmp.Lexicographic.{slice_cmp}
use Rattle.std.specs.declared.cmp.Ordering.{Ordering}

-- byte order: the first byte that differs decides, and a front comes first
abbrev pub bytes_cmp : List ℕ → List ℕ → Ordering
bytes_cmp = slice_cmp nat_cmp

-- an account, and a key of its own
abbrev pub LocalKey : Type 0
LocalKey = List ℕ × List ℕ

-- by account, and within an account by key
abbrev pub local_cmp : LocalKey → LocalKey → Ordering
local_cmp a b = ordering_then (bytes_cmp a.0 b.0) (bytes_cmp a.1 b.1)
