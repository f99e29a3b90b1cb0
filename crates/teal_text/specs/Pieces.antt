-- The pieces that printing goes by: the places where branches lead, each once, and the text of statements (TEAL text).
use Rattle.std.specs.Prelude.{ℕ, ◌==◌, if◌then◌else◌, List, [], ◌∷◌, ◌++◌}
use Rattle.std.specs.List.{flat_map, list_any}
use Rattle.teal_line.specs.declared.statement.Statement.{Statement}
use Rattle.teal_line.specs.Printing.{statement_text}
use Rattle.teal_text.specs.Printing.{Placed, label_at, line_of, statement_of}

-- the places gathered once this one is
abbrev pub with_place : List ℕ → ℕ → List ℕ
with_place seen p = if list_any (λ t. t == p) seen then seen else seen ++ p ∷ []

abbrev pub with_places : List ℕ → List ℕ → List ℕ
with_places seen [] = seen
with_places seen (p ∷ ps) = with_places (with_place seen p) ps

-- the lines of statements
abbrev pub lines_text : List Statement → List ℕ
lines_text ss = flat_map (λ s. line_of (statement_text s)) ss

-- the lines of an instruction
abbrev pub placed_text : List ℕ → Placed → List ℕ
placed_text ts p = lines_text (label_at ts p.pc ++ statement_of p ∷ [])

-- the lines of instructions
abbrev pub body_text : List ℕ → List Placed → List ℕ
body_text ts ps = flat_map (placed_text ts) ps
