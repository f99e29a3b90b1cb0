-- The printed line of a statement: its words with one space between them (TEAL text).
use Rattle.std.specs.Prelude.{ℕ, ◌<◌, List, [], ◌∷◌, ◌++◌, length, map, Option, Some, None, IsTrue}
use Rattle.std.specs.List.{All, join_with_byte}
use Rattle.std.specs.Fmt.{decimal}
use Rattle.avm_ops.specs.declared.instr.Imm.{Imm}
use Rattle.avm_ops.specs.declared.instr.Imm.TheVariants as imm
use Rattle.avm_ops.specs.declared.rows.Format.{Format}
use Rattle.avm_ops.specs.declared.rows.Format.TheVariants as format
use Rattle.avm_ops.specs.declared.rows.Row.{Row}
use Rattle.avm_ops.specs.Table.{row_of}
use Rattle.avm_ops.specs.Code.{HasForm}
use Rattle.avm_asm.specs.Listing.{jump_opcode, table_opcode, IsNoBranch}
use Rattle.teal_line.specs.declared.statement.Statement.{Statement}
use Rattle.teal_line.specs.declared.statement.Statement.TheVariants.{Op, Label, Jump, Table}
use Rattle.teal_line.specs.Mnemonics.{name_of, field_name}
use Rattle.teal_line.specs.Operands.{is_some_label, signed_word, bytes_word}

-- immediates as words: counts, lengths and branches have none
abbrev pub imm_words : Imm → List (List ℕ)
imm_words imm.Nothing = []
imm_words (imm.Byte b) = decimal b ∷ []
imm_words (imm.Two a b) = decimal a ∷ decimal b ∷ []
imm_words (imm.Signed i) = signed_word i ∷ []
imm_words (imm.Int n) = decimal n ∷ []
imm_words (imm.Ints ns) = map decimal ns
imm_words (imm.Bytes b) = bytes_word b ∷ []
imm_words (imm.Blobs bs) = map bytes_word bs
imm_words (imm.Jump j) = []
imm_words (imm.Jumps js) = []

-- the same, with a field by its name
abbrev pub imm_words_in : Format → Imm → List (List ℕ)
imm_words_in (format.Field fs) (imm.Byte b) = field_name fs b ∷ []
imm_words_in (format.FieldAndByte fs) (imm.Two a b) = field_name fs a ∷ decimal b ∷ []
imm_words_in f i = imm_words i

abbrev pub imm_words_by : Option Row → Imm → List (List ℕ)
imm_words_by None i = []
imm_words_by (Some row) i = imm_words_in row.format i

-- the words of a statement
abbrev pub statement_words : Statement → List (List ℕ)
statement_words (Op i) = name_of i.op ∷ imm_words_by (row_of i.op) i.imm
statement_words (Label name) = (name ++ 58 ∷ []) ∷ []
statement_words (Jump kind name) = name_of (jump_opcode kind) ∷ name ∷ []
statement_words (Table kind names) = name_of (table_opcode kind) ∷ names

-- words, each behind a space
abbrev pub spaced : List (List ℕ) → List ℕ
spaced [] = []
spaced (w ∷ ws) = 32 ∷ (w ++ spaced ws)

-- the printed line without its line feed
unfoldable pub statement_text : Statement → List ℕ
statement_text s = join_with_byte 32 (statement_words s)

-- a statement that can be printed and read: an instruction of its row's form that doesn't branch, labels of a label's characters, at most 255 in a table
abbrev pub IsStatement : Statement → Type 0
IsStatement (Op i) = HasForm i × IsNoBranch i.imm
IsStatement (Label name) = IsTrue (is_some_label name)
IsStatement (Jump kind name) = IsTrue (is_some_label name)
IsStatement (Table kind names) = All (λ name. IsTrue (is_some_label name)) names × (length names < 256)
