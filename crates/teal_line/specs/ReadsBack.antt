-- The law of one line: what is printed for a statement is read as that statement (TEAL text).
use Rattle.std.specs.Prelude.{◌≡◌, ◌≢◌, ℕ, ◌≤◌, ◌<◌, List, ◌∷◌, codes, Ok}
use Rattle.std.specs.List.{All}
use Rattle.avm_ops.specs.declared.instr.Imm.{Imm}
use Rattle.avm_ops.specs.declared.instr.Imm.TheVariants as imm
use Rattle.avm_ops.specs.Code.{AreBytes}
use Rattle.teal_line.specs.declared.statement.Statement.{Statement}
use Rattle.teal_line.specs.declared.statement.Statement.TheVariants.{Op}
use Rattle.teal_line.specs.Words.{words_of}
use Rattle.teal_line.specs.Reading.{says}
use Rattle.teal_line.specs.Printing.{statement_text}

-- the byte strings among immediates are of bytes
abbrev pub HasBytes : Imm → Type 0
HasBytes (imm.Bytes b) = AreBytes b
HasBytes (imm.Blobs bs) = All AreBytes bs
HasBytes _ = Unit {0}

-- the same of a statement: every statement of a program has it
abbrev pub IsOfBytes : Statement → Type 0
IsOfBytes (Op i) = HasBytes i.imm
IsOfBytes _ = Unit {0}

-- a visible character of ASCII, or a space
abbrev pub IsPrintable : ℕ → Type 0
IsPrintable b = (32 ≤ b) × (b < 127)

-- the printed line is cut into words that say the statement, is of printable ASCII, and is no pragma
pub record ReadsBack (s : Statement) : Type 0 where
  pub first : List ℕ
  pub rest : List (List ℕ)
  pub words : words_of (statement_text s) ≡ first ∷ rest
  pub value : says first rest ≡ Ok s
  pub printable : All IsPrintable (statement_text s)
  pub no_pragma : first ≢ codes "#pragma"
