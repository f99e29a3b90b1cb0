-- The printed text of a program: the version, then each instruction behind the label of its place, where a branch leads there (TEAL text).
use Rattle.std.specs.Prelude.{ℕ, zero, suc, ◌==◌, if◌then◌else◌, List, [], ◌∷◌, ◌++◌, length, map, codes, ◌-◌, Result, Ok, Err}
use Rattle.std.specs.List.{flat_map, list_any}
use Rattle.std.specs.Fmt.{decimal}
use Rattle.avm_ops.specs.declared.instr.Instr.{Instr}
use Rattle.avm_ops.specs.declared.instr.Imm.{Imm}
use Rattle.avm_ops.specs.declared.instr.Imm.TheVariants as imm
use Rattle.avm_ops.specs.declared.instr.DecodeFault.{DecodeFault}
use Rattle.avm_ops.specs.Code.{decoded_at}
use Rattle.avm_run.specs.Bytes.{target, place, targets_of}
use Rattle.teal_line.specs.declared.statement.Statement.{Statement}
use Rattle.teal_line.specs.declared.statement.Statement.TheVariants.{Op, Label, Jump, Table}
use Rattle.teal_line.specs.Reading.{jump_kind, table_kind}
use Rattle.teal_line.specs.Printing.{statement_text}

-- an instruction with its place and the place behind it
pub record Placed : Type 0 where
  pub pc : ℕ
  pub instr : Instr
  pub next : ℕ

abbrev pub placed_then : ℕ → Result (Instr × ℕ) DecodeFault → (ℕ → List Placed) → List Placed
placed_then pc (Err f) rest = []
placed_then pc (Ok p) rest = record { pc = pc; instr = p.0; next = p.1 } ∷ rest p.1

-- the instructions from a place on; each takes at least a byte
unfoldable pub placed_from : ℕ → List ℕ → ℕ → List Placed
placed_from zero code pc = []
placed_from (suc n) code pc = if pc == length code then [] else placed_then pc (decoded_at code pc) (placed_from n code)

-- the instructions of a program
abbrev pub instructions : List ℕ → List Placed
instructions code = placed_from (length code - 1) code 1

-- where the branches of an instruction lead
abbrev pub places_of : Placed → List ℕ
places_of p = map place (targets_of p.next p.instr.imm)

-- where any branch leads
abbrev pub targets : List Placed → List ℕ
targets ps = flat_map places_of ps

-- the label of a place
abbrev pub label_name : ℕ → List ℕ
label_name place = codes "at" ++ decimal place

-- the label line of a place, where a branch leads there
abbrev pub label_at : List ℕ → ℕ → List Statement
label_at ts place = if list_any (λ t. t == place) ts then Label (label_name place) ∷ [] else []

-- an instruction as a statement: its branches go by the labels of their places
abbrev pub statement_by : Imm → Placed → Statement
statement_by (imm.Jump j) p = Jump (jump_kind p.instr.op) (label_name (place (target p.next j)))
statement_by (imm.Jumps js) p = Table (table_kind p.instr.op) (map (λ j. label_name (place (target p.next j))) js)
statement_by _ p = Op p.instr

abbrev pub statement_of : Placed → Statement
statement_of p = statement_by p.instr.imm p

-- the statements of instructions that end at a place
abbrev pub statements_by : List ℕ → ℕ → List Placed → List Statement
statements_by ts end ps = flat_map (λ p. label_at ts p.pc ++ statement_of p ∷ []) ps ++ label_at ts end

-- the statements of a program
abbrev pub statements_of : List ℕ → List Statement
statements_of code = statements_by (targets (instructions code)) (length code) (instructions code)

abbrev pub version_line : List ℕ
version_line = codes "#pragma version 10"

abbrev pub line_of : List ℕ → List ℕ
line_of text = text ++ 10 ∷ []

-- the printed text of a program
unfoldable pub text_of : List ℕ → List ℕ
text_of code = line_of version_line ++ flat_map (λ s. line_of (statement_text s)) (statements_of code)
