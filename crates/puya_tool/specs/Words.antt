-- The words of the command line.
use Rattle.std.specs.Prelude.{ℕ, if◌then◌else◌, bytes_eq, codes, List, [], ◌∷◌, ◌++◌, Option, Some, None}

-- what the words ask for, with the names of its files
pub data Command : Type 0 where
  -- a source and a call file
  Call : List ℕ → List ℕ → Command
  -- a program and a call file
  Run : List ℕ → List ℕ → Command
  -- a TEAL text
  Asm : List ℕ → Command
  -- a program
  Dis : List ℕ → Command

abbrev pub command_of_one : List ℕ → List ℕ → Option Command
command_of_one word file =
    if bytes_eq word (codes "asm") then Some (Asm file) else if bytes_eq word (codes "dis") then Some (Dis file) else None

abbrev pub command_of_two : List ℕ → List ℕ → List ℕ → Option Command
command_of_two word file call =
    if bytes_eq word (codes "call") then Some (Call file call) else if bytes_eq word (codes "run") then Some (Run file call) else None

-- the command, if the words are one
abbrev pub command_of : List (List ℕ) → Option Command
command_of (word ∷ file ∷ []) = command_of_one word file
command_of (word ∷ file ∷ call ∷ []) = command_of_two word file call
command_of _ = None

-- where the code of a text goes
unfoldable pub bin_name : List ℕ → List ℕ
bin_name file = file ++ codes ".bin"
