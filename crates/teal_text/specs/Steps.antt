-- Reading line by line: what a line that was read adds to the names that were seen and to the lines (TEAL text).
use Rattle.std.specs.Prelude.{◌≡◌, ℕ, ◌≤◌, ◌+◌, ◌*◌, List, [], ◌∷◌, ◌++◌, length, Option, Some, None, Result, Ok, Err}
use Rattle.avm_asm.specs.declared.line.Line.{Line}
use Rattle.teal_line.specs.declared.statement.Statement.{Statement}
use Rattle.teal_line.specs.Printing.{IsStatement}
use Rattle.teal_text.specs.declared.fault.TealFault.{TealFault}
use Rattle.teal_text.specs.Numbering.{line_by, names_of, with_names}
use Rattle.teal_text.specs.Reading.{Reads}

-- the names that were seen once a statement is added
abbrev pub names_after : List (List ℕ) → Option Statement → List (List ℕ)
names_after seen None = seen
names_after seen (Some s) = with_names seen (names_of s)

-- the line of a statement
abbrev pub lines_after : List (List ℕ) → Option Statement → List Line
lines_after seen None = []
lines_after seen (Some s) = line_by seen s ∷ []

-- nothing, or a statement of its form
abbrev pub IsNoneOrStatement : Option Statement → Type 0
IsNoneOrStatement None = Unit {0}
IsNoneOrStatement (Some s) = IsStatement s

-- a line that says this was taken: the names and the lines that it adds
abbrev pub Adds : Result (Option Statement) TealFault → List (List ℕ) → List Line → List (List ℕ) → List Line → Type 0
Adds (Err f) seen lines seen' lines' = ⊥
Adds (Ok o) seen lines seen' lines' = (seen' ≡ names_after seen o) × (lines' ≡ lines ++ lines_after seen o)

-- an answer that is a fault is the fault that is due
abbrev pub FaultsAs : {A B : Type 0} → Result A TealFault → Result B TealFault → Type 0
FaultsAs (Ok x) due = Unit {0}
FaultsAs {A} {B} (Err f) due = Reads {A = B} (Err f) due

-- each line that was read brought at most 255 names; this is the number of the next one
abbrev pub IsRoomy : List (List ℕ) → ℕ → Type 0
IsRoomy seen number = length seen + 255 ≤ 255 * number
