-- What each command answers, where contents are told, and what then stands.
use Rattle.std.specs.Prelude.{◌≡◌, ◌≢◌, ℕ, true, false, ◌≤◌, ◌⊎◌, ◌==◌, if◌then◌else◌, bytes_eq, List, [], ◌∷◌, length, codes, Option, Some, None, Result, Ok, Err}
use Rattle.std.specs.FinMap as map
use Rattle.puya_base.specs.declared.faults.FileFault.{FileFault}
use Rattle.puya_base.specs.declared.faults.FileFault.TheVariants as fault
use Rattle.puya_base.specs.Files.{Held, ReadGives, WriteGives, max_length}
use Rattle.avm_state.specs.Calls.{clear_state}
use Rattle.avm_asm.specs.declared.line.Line.{Line}
use Rattle.avm_asm.specs.Assembled.{assembled}
use Rattle.avm_run.specs.declared.outcome.Ran.{Ran}
use Rattle.avm_run.specs.Bytes.{run_of}
use Rattle.avm_run.specs.Form.{IsWellFormed, checked}
use Rattle.teal_text.specs.Reading.{read_of}
use Rattle.teal_text.specs.Printing as printing
use Rattle.call_file.specs.declared.fault.CallFault.{CallFault}
use Rattle.call_file.specs.declared.fault.CallFault.TheVariants as call
use Rattle.call_file.specs.declared.saved.Saved.{Saved}
use Rattle.call_file.specs.Saved.{saved_of}
use Rattle.puya_tool.specs.declared.answer.Answer.{Answer}
use Rattle.puya_tool.specs.declared.answer.Answer.TheVariants.{WordsUnknown, Unread, Refused, NotBuilt, BadCall, NotProgram, NotTeal, NotAssembled, Unwritten, Stopped, Assembled, Listed}
use Rattle.compiler.specs.declared.build.Build.{Build}
use Rattle.compiler.specs.Form.{Form}
use Rattle.compiler.specs.Programs.{Serves, IsClear}
use Rattle.compiler.specs.Compiled.{AreBuilt, HasForm, IsBroken, IsNotBuilt}
use Rattle.puya_tool.specs.Words.{Command, Call as CallCommand, Run, Asm, Dis, command_of, bin_name}

-- the bytes are held under the name, and are no longer than a file may be
abbrev pub IsHeld : Held → List ℕ → List ℕ → Type 0
IsHeld held name bytes = (map.get held name ≡ Some bytes) × (length bytes ≤ max_length)

-- the file is not read for this fault
abbrev pub IsUnread : Held → List ℕ → FileFault → Type 0
IsUnread held name f = ReadGives (map.get held name) (Err f) []

-- a file that is read first, or one that is read only behind what holds
abbrev pub IsUnreadInTurn : Held → List ℕ → List ℕ → Type 0 → List ℕ → FileFault → Type 0
IsUnreadInTurn held first second Reached name f = IsUnread held name f × ((name ≡ first) ⊎ ((name ≡ second) × Reached))

-- a source of the form is held there
pub record HoldsSource (held : Held) (file : List ℕ) (f : Form) : Type 0 where
  pub text : List ℕ
  pub held_is : IsHeld held file text
  pub source_is : HasForm text f

-- a well-formed program is held there
pub record HoldsProgram (held : Held) (file : List ℕ) (code : List ℕ) : Type 0 where
  pub held_is : IsHeld held file code
  pub form : IsWellFormed code

-- a text is held there that stands for lines of this code
pub record HoldsCode (held : Held) (file : List ℕ) (code : List ℕ) : Type 0 where
  pub text : List ℕ
  pub lines : List Line
  pub held_is : IsHeld held file text
  pub read_is : read_of text ≡ Ok lines
  pub code_is : assembled lines ≡ Ok code

-- the clear state program on the completion that asks for it, otherwise the approval program
abbrev pub picked : ℕ → List ℕ → List ℕ → List ℕ
picked completion approval clear = if completion == clear_state then clear else approval

-- one program for approval and one for the clear state serve the source, and this is the picked one's run
pub record IsServedBy (f : Form) (saved : Saved) (ran : Ran) : Type 0 where
  pub approval : List ℕ
  pub clear : List ℕ
  pub serves : Serves f.sum approval
  pub clears : IsClear clear
  pub ran_is : ran ≡ run_of (picked saved.call.on_completion approval clear) saved.call saved.ledger

-- the call file has this fault: its form's, or it names no contract of the source
abbrev pub IsBadCall : Form → List ℕ → CallFault → Type 0
IsBadCall form text f =
    (saved_of true text ≡ Err f)
    ⊎ ((saved : Saved) × (saved_of true text ≡ Ok saved) × (saved.contract ≢ Some form.name) × (f ≡ call.Bad (codes "contract")))

-- the first build of a name
abbrev pub named : List ℕ → List Build → Option Build
named name [] = None
named name (b ∷ bs) = if bytes_eq b.name name then Some b else named name bs

-- the build that a saved call names
abbrev pub build_named : Option (List ℕ) → List Build → Option Build
build_named None builds = None
build_named (Some name) builds = named name builds

-- how a call ends that is saved so, of these builds
abbrev pub NamedEnds : List Build → List ℕ → Saved → Answer → Type 0
NamedEnds builds file saved (BadCall name f) = (name ≡ file) × (build_named saved.contract builds ≡ None) × (f ≡ call.Bad (codes "contract"))
NamedEnds builds file saved (Stopped ran) =
    (b : Build) × (build_named saved.contract builds ≡ Some b) × (ran ≡ run_of (picked saved.call.on_completion b.approval b.clear) saved.call saved.ledger)
NamedEnds builds file saved _ = ⊥

-- how a call ends of these builds, whose call file has this text
abbrev pub TextEnds : List Build → List ℕ → List ℕ → Answer → Type 0
TextEnds builds file text (BadCall name f) = (name ≡ file) × ((saved_of true text ≡ Err f) ⊎ ((saved : Saved) × (saved_of true text ≡ Ok saved) × NamedEnds builds file saved (BadCall name f)))
TextEnds builds file text (Stopped ran) = (saved : Saved) × (saved_of true text ≡ Ok saved) × NamedEnds builds file saved (Stopped ran)
TextEnds builds file text _ = ⊥

-- both programs of each build are well formed
abbrev pub AreWellFormed : List Build → Type 0
AreWellFormed [] = Unit {0}
AreWellFormed (b ∷ bs) = IsWellFormed b.approval × IsWellFormed b.clear × AreWellFormed bs

-- what a source is compiled to, or the answer where it is refused
abbrev pub Judged : List ℕ → List ℕ → Result (List Build) Answer → Type 0
Judged file text (Ok builds) = (form : Form) × HasForm text form × AreBuilt form builds
Judged file text (Err (Refused name refusal)) = (name ≡ file) × IsBroken text refusal
Judged file text (Err (NotBuilt name)) = (name ≡ file) × IsNotBuilt text
Judged file text (Err _) = ⊥

-- how a call of the source ends, whose call file has this text
abbrev pub CallEnds : Form → List ℕ → List ℕ → Answer → Type 0
CallEnds form file text (BadCall name f) = (name ≡ file) × IsBadCall form text f
CallEnds form file text (Stopped ran) = (saved : Saved) × (saved_of true text ≡ Ok saved) × (saved.contract ≡ Some form.name) × IsServedBy form saved ran
CallEnds form file text _ = ⊥

-- how a run of the program ends, whose call file has this text: it may be any starting ledger
abbrev pub RunEnds : List ℕ → List ℕ → List ℕ → Answer → Type 0
RunEnds code file text (BadCall name f) = (name ≡ file) × (saved_of false text ≡ Err f)
RunEnds code file text (Stopped ran) = (saved : Saved) × (saved_of false text ≡ Ok saved) × (ran ≡ run_of code saved.call saved.ledger)
RunEnds code file text _ = ⊥

-- what `call` answers
abbrev pub CallAnswers : Held → List ℕ → List ℕ → Answer → Type 0
CallAnswers held file call (Unread name f) = IsUnreadInTurn held file call ((form : Form) × HoldsSource held file form) name f
CallAnswers held file call (Refused name refusal) = (name ≡ file) × (text : List ℕ) × IsHeld held file text × IsBroken text refusal
CallAnswers held file call (NotBuilt name) = (name ≡ file) × (text : List ℕ) × IsHeld held file text × IsNotBuilt text
CallAnswers held file call answer = (form : Form) × HoldsSource held file form × (text : List ℕ) × IsHeld held call text × CallEnds form call text answer

-- what `run` answers
abbrev pub RunAnswers : Held → List ℕ → List ℕ → Answer → Type 0
RunAnswers held file call (Unread name f) = IsUnreadInTurn held file call ((code : List ℕ) × HoldsProgram held file code) name f
RunAnswers held file call (NotProgram name f) = (name ≡ file) × (code : List ℕ) × IsHeld held file code × (checked code ≡ Err f)
RunAnswers held file call answer = (code : List ℕ) × HoldsProgram held file code × (text : List ℕ) × IsHeld held call text × RunEnds code call text answer

-- what `dis` answers
abbrev pub DisAnswers : Held → List ℕ → Answer → Type 0
DisAnswers held file (Unread name f) = (name ≡ file) × IsUnread held file f
DisAnswers held file (NotProgram name f) = (name ≡ file) × (code : List ℕ) × IsHeld held file code × (checked code ≡ Err f)
DisAnswers held file (Listed text) = (code : List ℕ) × HoldsProgram held file code × (text ≡ printing.text_of code)
DisAnswers held file _ = ⊥

-- why a text has no code
abbrev pub HasNoCode : List ℕ → List ℕ → Answer → Type 0
HasNoCode file text (NotTeal name f) = (name ≡ file) × (read_of text ≡ Err f)
HasNoCode file text (NotAssembled name f) = (name ≡ file) × (lines : List Line) × (read_of text ≡ Ok lines) × (assembled lines ≡ Err f)
HasNoCode file text _ = ⊥

-- the code was written under the name, or the write failed
abbrev pub IsWritten : Held → Held → List ℕ → List ℕ → Answer → Type 0
IsWritten old new file code (Unwritten name) = (name ≡ file) × WriteGives old new file code (Err fault.Failed)
IsWritten old new file code (Assembled name n) = (name ≡ file) × (n ≡ length code) × (new ≡ map.insert old file code)
IsWritten old new file code _ = ⊥

-- what `asm` answers, and the contents before and after it
abbrev pub AsmAnswers : Held → Held → List ℕ → Answer → Type 0
AsmAnswers old new file (Unread name f) = (new ≡ old) × (name ≡ file) × IsUnread old file f
AsmAnswers old new file (Unwritten name) = (code : List ℕ) × HoldsCode old file code × IsWritten old new (bin_name file) code (Unwritten name)
AsmAnswers old new file (Assembled name n) = (code : List ℕ) × HoldsCode old file code × IsWritten old new (bin_name file) code (Assembled name n)
AsmAnswers old new file answer = (new ≡ old) × (text : List ℕ) × IsHeld old file text × HasNoCode file text answer

-- the answer is the one that is due, and these are the contents before and after it
abbrev pub IsDue : Held → Held → Option Command → Answer → Type 0
IsDue old new None answer = (new ≡ old) × (answer ≡ WordsUnknown)
IsDue old new (Some (CallCommand file call)) answer = (new ≡ old) × CallAnswers old file call answer
IsDue old new (Some (Run file call)) answer = (new ≡ old) × RunAnswers old file call answer
IsDue old new (Some (Asm file)) answer = AsmAnswers old new file answer
IsDue old new (Some (Dis file)) answer = (new ≡ old) × DisAnswers old file answer
