-- Labels by number: a label's number is how many other labels were seen before it first was, where it stands or is named (TEAL text).
use Rattle.std.specs.Prelude.{ℕ, suc, if◌then◌else◌, bytes_eq, List, [], ◌∷◌, ◌++◌}
use Rattle.std.specs.List.{list_any}
use Rattle.avm_asm.specs.declared.line.Line.{Line}
use Rattle.avm_asm.specs.declared.line.Line.TheVariants as line
use Rattle.teal_line.specs.declared.statement.Statement.{Statement}
use Rattle.teal_line.specs.declared.statement.Statement.TheVariants.{Op, Label, Jump, Table}

-- the place of a name among those seen, or how many there are
abbrev pub number_of : List (List ℕ) → List ℕ → ℕ
number_of [] name = 0
number_of (n ∷ seen) name = if bytes_eq n name then 0 else suc (number_of seen name)

-- the names seen once this one is
abbrev pub with_name : List (List ℕ) → List ℕ → List (List ℕ)
with_name seen name = if list_any (λ n. bytes_eq n name) seen then seen else seen ++ name ∷ []

abbrev pub with_names : List (List ℕ) → List (List ℕ) → List (List ℕ)
with_names seen [] = seen
with_names seen (n ∷ ns) = with_names (with_name seen n) ns

-- the numbers of names in a row
abbrev pub numbers_of : List (List ℕ) → List (List ℕ) → List ℕ
numbers_of seen [] = []
numbers_of seen (n ∷ ns) = number_of seen n ∷ numbers_of (with_name seen n) ns

-- the labels of a statement
abbrev pub names_of : Statement → List (List ℕ)
names_of (Op i) = []
names_of (Label name) = name ∷ []
names_of (Jump kind name) = name ∷ []
names_of (Table kind names) = names

-- a statement with its labels by number
abbrev pub line_by : List (List ℕ) → Statement → Line
line_by seen (Op i) = line.Op i
line_by seen (Label name) = line.Label (number_of seen name)
line_by seen (Jump kind name) = line.Jump kind (number_of seen name)
line_by seen (Table kind names) = line.Table kind (numbers_of seen names)

-- statements as lines, behind those names
unfoldable pub numbered : List (List ℕ) → List Statement → List Line
numbered seen [] = []
numbered seen (s ∷ ss) = line_by seen s ∷ numbered (with_names seen (names_of s)) ss
