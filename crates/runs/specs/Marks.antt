-- The ledger steps that a run is judged by: those that change the ledger, in their order.
use Rattle.std.specs.Prelude.{ℕ, ◌≡◌, List, ◌++◌}

-- what a step changes: puts and deletions of global and local values, logs,
-- and the creation, the replacement of a part, the deletion and the put of a box
pub data Change : Type 0 where
  puts_global : Change
  deletes_global : Change
  puts_local : Change
  deletes_local : Change
  logs : Change
  creates_box : Change
  replaces_part : Change
  deletes_box : Change
  puts_box : Change

-- a changing step that acted without failing, and the line of the statement that took it; line 0 is that of no statement of the source
pub record Mark : Type 0 where
  pub change : Change
  pub line : ℕ

-- the marks of the one are the first of the other
abbrev pub IsPrefix : List Mark → List Mark → Type 0
IsPrefix first whole = (rest : List Mark) × (whole ≡ first ++ rest)

-- the marks are the same
abbrev pub AreEqual : List Mark → List Mark → Type 0
AreEqual a b = a ≡ b
