-- Lists of lines: their sizes, their labels, and what each becomes (AVM specification, "Encoding"; branch offsets count from the end of the instruction).
use Rattle.std.specs.Prelude.{ℕ, ℤ, pos, ◌+◌, ◌*◌, ◌-ℤ◌, ◌<◌, ◌==◌, if◌then◌else◌, List, [], ◌∷◌, ◌++◌, length, map, Option, Some, None}
use Rattle.std.specs.List.{All}
use Rattle.avm_ops.specs.declared.instr.Instr.{Instr}
use Rattle.avm_ops.specs.declared.instr.Imm.{Imm}
use Rattle.avm_ops.specs.declared.instr.Imm.TheVariants as imm
use Rattle.avm_ops.specs.Code.{HasForm, instr_bytes}
use Rattle.avm_asm.specs.declared.line.Line.{Line}
use Rattle.avm_asm.specs.declared.line.Line.TheVariants.{Op, Label, Jump, Table}
use Rattle.avm_asm.specs.declared.line.JumpKind.{JumpKind}
use Rattle.avm_asm.specs.declared.line.JumpKind.TheVariants.{Bnz, Bz, B, Callsub}
use Rattle.avm_asm.specs.declared.line.TableKind.{TableKind}
use Rattle.avm_asm.specs.declared.line.TableKind.TheVariants.{Switch, Match}

abbrev pub jump_opcode : JumpKind → ℕ
jump_opcode Bnz = 0x40
jump_opcode Bz = 0x41
jump_opcode B = 0x42
jump_opcode Callsub = 0x88

abbrev pub table_opcode : TableKind → ℕ
table_opcode Switch = 0x8d
table_opcode Match = 0x8e

-- immediates that are no branch offsets
abbrev pub IsNoBranch : Imm → Type 0
IsNoBranch (imm.Jump j) = ⊥
IsNoBranch (imm.Jumps js) = ⊥
IsNoBranch _ = Unit {0}

-- an instruction of its row's form that doesn't branch, or a table of at most 255 labels
abbrev pub IsLine : Line → Type 0
IsLine (Op i) = HasForm i × IsNoBranch i.imm
IsLine (Label k) = Unit {0}
IsLine (Jump kind k) = Unit {0}
IsLine (Table kind ks) = length ks < 256

abbrev pub AreLines : List Line → Type 0
AreLines ls = All IsLine ls

-- how many bytes a line takes
abbrev pub line_size : Line → ℕ
line_size (Op i) = length (instr_bytes i)
line_size (Label k) = 0
line_size (Jump kind k) = 3
line_size (Table kind ks) = 2 + 2 * length ks

-- how many bytes lines take
abbrev pub lines_size : List Line → ℕ
lines_size [] = 0
lines_size (l ∷ ls) = line_size l + lines_size ls

-- the labels that a line names, in its order
abbrev pub named_by : Line → List ℕ
named_by (Op i) = []
named_by (Label k) = []
named_by (Jump kind k) = k ∷ []
named_by (Table kind ks) = ks

-- the label of a line at a place, with that place
abbrev pub symbol_at : ℕ → Line → List (ℕ × ℕ)
symbol_at at (Op i) = []
symbol_at at (Label k) = (k, at) ∷ []
symbol_at at (Jump kind k) = []
symbol_at at (Table kind ks) = []

-- the symbol table of lines from a place on: each label with the place where it stands, in the order of the lines
abbrev pub symbols : ℕ → List Line → List (ℕ × ℕ)
symbols at [] = []
symbols at (l ∷ ls) = symbol_at at l ++ symbols (at + line_size l) ls

-- where a label stands first
abbrev pub place_in : List (ℕ × ℕ) → ℕ → Option ℕ
place_in [] k = None
place_in (s ∷ table) k = if s.0 == k then Some s.1 else place_in table k

abbrev pub distance_to : ℕ → Option ℕ → ℤ
distance_to end None = pos 0
distance_to end (Some place) = pos place -ℤ pos end

-- how far it is from the end of an instruction to a label that stands in the table
abbrev pub distance : List (ℕ × ℕ) → ℕ → ℕ → ℤ
distance table end k = distance_to end (place_in table k)

-- the instruction that a line becomes which ends at a place
abbrev pub instr_in : List (ℕ × ℕ) → ℕ → Line → Option Instr
instr_in table end (Op i) = Some i
instr_in table end (Label k) = None
instr_in table end (Jump kind k) = Some (record { op = jump_opcode kind; imm = imm.Jump (distance table end k) })
instr_in table end (Table kind ks) = Some (record { op = table_opcode kind; imm = imm.Jumps (map (distance table end) ks) })

abbrev pub bytes_of : Option Instr → List ℕ
bytes_of None = []
bytes_of (Some i) = instr_bytes i

-- the bytes of lines from a place on
abbrev pub bytes_from : List (ℕ × ℕ) → ℕ → List Line → List ℕ
bytes_from table at [] = []
bytes_from table at (l ∷ ls) = bytes_of (instr_in table (at + line_size l) l) ++ bytes_from table (at + line_size l) ls
