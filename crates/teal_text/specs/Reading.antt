-- What a text says: its lines, the version, and the statements, or the first fault by line (TEAL text).
use Rattle.std.specs.Prelude.{◌≡◌, ℕ, suc, ◌==◌, ◌&&◌, ◌||◌, nat_le, Bool, true, false, not, if◌then◌else◌, bytes_eq, codes, List, [], ◌∷◌, Option, Some, None, Result, Ok, Err}
use Rattle.std.specs.List.{list_any, slice_split, cons_option}
use Rattle.avm_asm.specs.declared.line.Line.{Line}
use Rattle.teal_line.specs.declared.statement.Statement.{Statement}
use Rattle.teal_line.specs.declared.statement.Flaw.{Flaw}
use Rattle.teal_line.specs.declared.statement.Flaw.TheVariants as flaw
use Rattle.teal_line.specs.Words.{words_of}
use Rattle.teal_line.specs.Reading.{Said, says}
use Rattle.teal_text.specs.declared.fault.TealFault.{TealFault}
use Rattle.teal_text.specs.declared.fault.TealFault.TheVariants.{NotAscii, Pragma, Word, Count, Number, Bytes, Memory}
use Rattle.teal_text.specs.Numbering.{numbered}

-- without a carriage return at its end
abbrev pub without_return : List ℕ → List ℕ
without_return [] = []
without_return (b ∷ []) = if b == 13 then [] else b ∷ []
without_return (b ∷ c ∷ bs) = b ∷ without_return (c ∷ bs)

-- a carriage return right before a line feed belongs to the line's end
abbrev pub ended : List (List ℕ) → List (List ℕ)
ended [] = []
ended (l ∷ []) = l ∷ []
ended (l ∷ m ∷ ls) = without_return l ∷ ended (m ∷ ls)

-- the lines of a text, which line feeds part; the last line end may be missing
unfoldable pub lines_of : List ℕ → List (List ℕ)
lines_of text = ended (slice_split (λ b. b == 10) text)

abbrev pub is_ascii : List ℕ → Bool
is_ascii line = not (list_any (λ b. nat_le 128 b) line)

-- the fault of a flaw in a line
abbrev pub fault_at : ℕ → Flaw → TealFault
fault_at n flaw.Word = Word n
fault_at n flaw.Count = Count n
fault_at n flaw.Number = Number n
fault_at n flaw.Bytes = Bytes n
fault_at n flaw.Memory = Memory

-- what a line says: nothing, or a statement
abbrev pub said_at : ℕ → Said Statement → Result (Option Statement) TealFault
said_at n (Err f) = Err (fault_at n f)
said_at n (Ok s) = Ok (Some s)

abbrev pub are_words : List (List ℕ) → List (List ℕ) → Bool
are_words [] [] = true
are_words (v ∷ vs) (w ∷ ws) = bytes_eq v w && are_words vs ws
are_words vs ws = false

abbrev pub version_words : List (List ℕ)
version_words = codes "#pragma" ∷ codes "version" ∷ codes "10" ∷ []

abbrev pub typetrack_words : List ℕ → List (List ℕ)
typetrack_words which = codes "#pragma" ∷ codes "typetrack" ∷ which ∷ []

-- a pragma behind the version line: it says nothing
abbrev pub is_known_pragma : List (List ℕ) → Bool
is_known_pragma ws = are_words ws (typetrack_words (codes "true")) || are_words ws (typetrack_words (codes "false"))

-- a line behind the version line, of which this is the first word
abbrev pub later_line : ℕ → List ℕ → List (List ℕ) → Result (Option Statement) TealFault
later_line n w ws =
    if bytes_eq w (codes "#pragma") then (if is_known_pragma (w ∷ ws) then Ok None else Err (Pragma n))
    else said_at n (says w ws)

-- the version line, which is the first that isn't empty
abbrev pub first_line : ℕ → List (List ℕ) → Result (Option Statement) TealFault
first_line n ws = if are_words ws version_words then Ok None else Err (Pragma n)

-- what the words of a line say; the flag says that the version line stands before
abbrev pub words_say : ℕ → Bool → List (List ℕ) → Result (Option Statement) TealFault
words_say n versioned [] = Ok None
words_say n versioned (w ∷ ws) = if versioned then later_line n w ws else first_line n (w ∷ ws)

-- a line without words leaves the flag as it is
abbrev pub versioned_by : Bool → List (List ℕ) → Bool
versioned_by versioned [] = versioned
versioned_by versioned (w ∷ ws) = true

-- what a line says
unfoldable pub line_says : ℕ → Bool → List ℕ → Result (Option Statement) TealFault
line_says n versioned line = if is_ascii line then words_say n versioned (words_of line) else Err (NotAscii n)

abbrev pub before : Result (Option Statement) TealFault → Result (List Statement) TealFault → Result (List Statement) TealFault
before (Err f) rest = Err f
before (Ok s) (Err f) = Err f
before (Ok s) (Ok ss) = Ok (cons_option s ss)

-- the statements of lines, the first of which has this number
unfoldable pub statements_in : ℕ → Bool → List (List ℕ) → Result (List Statement) TealFault
statements_in n versioned [] = if versioned then Ok [] else Err (Pragma 1)
statements_in n versioned (l ∷ ls) = before (line_says n versioned l) (statements_in (suc n) (versioned_by versioned (words_of l)) ls)

abbrev pub lines_by : Result (List Statement) TealFault → Result (List Line) TealFault
lines_by (Err f) = Err f
lines_by (Ok ss) = Ok (numbered [] ss)

-- the lines that a text stands for, or its first fault
unfoldable pub read_of : List ℕ → Result (List Line) TealFault
read_of text = lines_by (statements_in 1 false (lines_of text))

-- what a call answers is the definition's answer, unless memory ran out
abbrev pub Reads : {A : Type 0} → Result A TealFault → Result A TealFault → Type 0
Reads (Ok x) due = due ≡ Ok x
Reads (Err (NotAscii n)) due = due ≡ Err (NotAscii n)
Reads (Err (Pragma n)) due = due ≡ Err (Pragma n)
Reads (Err (Word n)) due = due ≡ Err (Word n)
Reads (Err (Count n)) due = due ≡ Err (Count n)
Reads (Err (Number n)) due = due ≡ Err (Number n)
Reads (Err (Bytes n)) due = due ≡ Err (Bytes n)
Reads (Err Memory) due = Unit {0}
