-- What the words of a line say: an instruction, a label or a branch, or the first flaw: a word, then how many there are, then a number, then a byte string.
use Rattle.std.specs.Prelude.{◌≡◌, ℕ, ◌^◌, ◌==◌, nat_lt, not, if◌then◌else◌, List, [], ◌∷◌, length, Option, Some, None, Result, Ok, Err}
use Rattle.std.specs.List.{list_all}
use Rattle.avm_ops.specs.declared.instr.Imm.{Imm}
use Rattle.avm_ops.specs.declared.instr.Imm.TheVariants as imm
use Rattle.avm_ops.specs.declared.rows.Format.{Format}
use Rattle.avm_ops.specs.declared.rows.Format.TheVariants as format
use Rattle.avm_ops.specs.declared.rows.Row.{Row}
use Rattle.avm_ops.specs.Table.{row_of}
use Rattle.avm_asm.specs.declared.line.JumpKind.{JumpKind}
use Rattle.avm_asm.specs.declared.line.JumpKind.TheVariants.{Bnz, Bz, B, Callsub}
use Rattle.avm_asm.specs.declared.line.TableKind.{TableKind}
use Rattle.avm_asm.specs.declared.line.TableKind.TheVariants.{Switch, Match}
use Rattle.teal_line.specs.declared.statement.Statement.{Statement}
use Rattle.teal_line.specs.declared.statement.Statement.TheVariants.{Op, Label, Jump, Table}
use Rattle.teal_line.specs.declared.statement.Flaw.{Flaw}
use Rattle.teal_line.specs.declared.statement.Flaw.TheVariants as flaw
use Rattle.teal_line.specs.Mnemonics.{opcode_named, field_named}
use Rattle.teal_line.specs.Operands.{is_some_label, number_said, signed_said, bytes_said}

-- what words say, or their first flaw
abbrev pub Said : Type 0 → Type 0
Said A = Result A Flaw

abbrev pub said_as : {A B : Type 0} → (A → B) → Said A → Said B
said_as f (Err e) = Err e
said_as f (Ok x) = Ok (f x)

-- one thing, then another that may look at it
abbrev pub then_said : {A B : Type 0} → (A → Said B) → Said A → Said B
then_said f (Err e) = Err e
then_said f (Ok x) = f x

abbrev pub or_flaw : {A : Type 0} → Flaw → Option A → Said A
or_flaw f None = Err f
or_flaw f (Some x) = Ok x

abbrev pub number : ℕ → List ℕ → Said ℕ
number bound w = or_flaw flaw.Number (number_said bound w)

abbrev pub bytes : List ℕ → Said (List ℕ)
bytes w = or_flaw flaw.Bytes (bytes_said w)

-- exactly one word
abbrev pub one : {A : Type 0} → (List ℕ → Said A) → List (List ℕ) → Said A
one f (w ∷ []) = f w
one f _ = Err flaw.Count

-- exactly two words
abbrev pub two : {A : Type 0} → (List ℕ → List ℕ → Said A) → List (List ℕ) → Said A
two f (v ∷ w ∷ []) = f v w
two f _ = Err flaw.Count

-- no word
abbrev pub none : {A : Type 0} → A → List (List ℕ) → Said A
none x [] = Ok x
none x (w ∷ ws) = Err flaw.Count

-- each word
abbrev pub each : {A : Type 0} → (List ℕ → Said A) → List (List ℕ) → Said (List A)
each f [] = Ok []
each f (w ∷ ws) = then_said (λ x. said_as (λ xs. x ∷ xs) (each f ws)) (f w)

-- a name at the front that must be known, whatever follows it
abbrev pub named_first : {A B : Type 0} → (List ℕ → Option A) → (A → List (List ℕ) → Said B) → List (List ℕ) → Said B
named_first known f [] = Err flaw.Count
named_first known f (w ∷ ws) = then_said (λ x. f x ws) (or_flaw flaw.Word (known w))

abbrev pub label_word : List ℕ → Option (List ℕ)
label_word w = if is_some_label w then Some w else None

-- the immediates that words say in a form without branches
abbrev pub imm_said : Format → List (List ℕ) → Said Imm
imm_said format.Nothing ws = none imm.Nothing ws
imm_said format.Byte ws = one (λ w. said_as imm.Byte (number 256 w)) ws
imm_said format.Two ws = two (λ v w. then_said (λ a. said_as (imm.Two a) (number 256 w)) (number 256 v)) ws
imm_said format.Signed ws = one (λ w. said_as imm.Signed (or_flaw flaw.Number (signed_said w))) ws
imm_said format.Int ws = one (λ w. said_as imm.Int (number (2 ^ 64) w)) ws
imm_said format.Ints ws = said_as imm.Ints (each (number (2 ^ 64)) ws)
imm_said format.Bytes ws = one (λ w. said_as imm.Bytes (bytes w)) ws
imm_said format.Blobs ws = said_as imm.Blobs (each bytes ws)
imm_said (format.Field fs) ws = named_first (field_named fs) (λ n rest. none (imm.Byte n) rest) ws
imm_said (format.FieldAndByte fs) ws = named_first (field_named fs) (λ n rest. one (λ w. said_as (imm.Two n) (number 256 w)) rest) ws
imm_said format.Jump ws = Err flaw.Word
imm_said format.Jumps ws = Err flaw.Word

abbrev pub jump_kind : ℕ → JumpKind
jump_kind op = if op == 0x40 then Bnz else if op == 0x41 then Bz else if op == 0x42 then B else Callsub

abbrev pub table_kind : ℕ → TableKind
table_kind op = if op == 0x8d then Switch else Match

abbrev pub labels_said : (List (List ℕ) → Statement) → List (List ℕ) → Said Statement
labels_said f ws =
    if not (list_all is_some_label ws) then Err flaw.Word
    else if nat_lt 255 (length ws) then Err flaw.Count
    else Ok (f ws)

abbrev pub statement_in : ℕ → Format → List (List ℕ) → Said Statement
statement_in op format.Jump ws = named_first label_word (λ name rest. none (Jump (jump_kind op) name) rest) ws
statement_in op format.Jumps ws = labels_said (Table (table_kind op)) ws
statement_in op f ws = said_as (λ i. Op (record { op = op; imm = i })) (imm_said f ws)

abbrev pub by_row : ℕ → Option Row → List (List ℕ) → Said Statement
by_row op None ws = Err flaw.Word
by_row op (Some row) ws = statement_in op row.format ws

abbrev pub by_opcode : Option ℕ → List (List ℕ) → Said Statement
by_opcode None ws = Err flaw.Word
by_opcode (Some op) ws = by_row op (row_of op) ws

-- the name of a label line, if the word ends with a colon
abbrev pub before_colon : List ℕ → Option (List ℕ)
before_colon [] = None
before_colon (b ∷ []) = if b == 58 then Some [] else None
before_colon (b ∷ c ∷ bs) = elim (before_colon (c ∷ bs)) [ None ↦ None | Some name ↦ Some (b ∷ name) ]

abbrev pub label_line : List ℕ → List (List ℕ) → Said Statement
label_line name ws = if is_some_label name then none (Label name) ws else Err flaw.Word

abbrev pub by_first : Option (List ℕ) → List ℕ → List (List ℕ) → Said Statement
by_first (Some name) w ws = label_line name ws
by_first None w ws = by_opcode (opcode_named w) ws

-- what a line says whose first word is this and whose further words are these
unfoldable pub says : List ℕ → List (List ℕ) → Said Statement
says w ws = by_first (before_colon w) w ws

-- what a call answers is the definition's answer, unless memory ran out
abbrev pub Says : {A : Type 0} → Said A → Said A → Type 0
Says (Ok x) due = due ≡ Ok x
Says (Err flaw.Word) due = due ≡ Err flaw.Word
Says (Err flaw.Count) due = due ≡ Err flaw.Count
Says (Err flaw.Number) due = due ≡ Err flaw.Number
Says (Err flaw.Bytes) due = due ≡ Err flaw.Bytes
Says (Err flaw.Memory) due = Unit {0}
