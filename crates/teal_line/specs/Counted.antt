-- Lists of immediates whose lengths a counter of 64 bits holds.
use Rattle.std.specs.Prelude.{ℕ, ◌<◌, ◌^◌, List, length}
use Rattle.std.specs.List.{All}
use Rattle.avm_ops.specs.declared.instr.Imm.{Imm}
use Rattle.avm_ops.specs.declared.instr.Imm.TheVariants as imm
use Rattle.teal_line.specs.declared.statement.Statement.{Statement}
use Rattle.teal_line.specs.declared.statement.Statement.TheVariants.{Op}

abbrev pub IsCountedText : List ℕ → Type 0
IsCountedText b = length b < 2 ^ 64

abbrev pub IsCounted : Imm → Type 0
IsCounted (imm.Ints ns) = length ns < 2 ^ 64
IsCounted (imm.Bytes b) = IsCountedText b
IsCounted (imm.Blobs bs) = (length bs < 2 ^ 64) × All IsCountedText bs
IsCounted _ = Unit {0}

abbrev pub IsCountedStatement : Statement → Type 0
IsCountedStatement (Op i) = IsCounted i.imm
IsCountedStatement _ = Unit {0}
