-- An answer is the one that is due, once its files are read.
use Rattle.std.proofs.Common.{◌≡◌, ◌≢◌, ℕ, ◌≤◌, ◌<◌, ◌^◌, ◌⊎◌, inl, inr, List, [], ◌∷◌, length, Bool, true, false, Option, Some, None, Result, Ok, Err, ap, refl, sym, ◌∙◌, subst}
use Rattle.std.specs.Prelude.{IfOk, IfSome, if◌then◌else◌, bytes_eq}
use Rattle.std.specs.FinMap as map
use Rattle.std.proofs.lemmas.Slice.Eq.{bytes_eq-Decides}
use Rattle.puya_base.specs.Files.{Held, max_length}
use Rattle.avm_run.specs.Form.{IsWellFormed}
use Rattle.avm_run.specs.declared.outcome.Ran.{Ran}
use Rattle.call_file.specs.declared.fault.CallFault.{CallFault}
use Rattle.call_file.specs.declared.saved.Saved.{Saved}
use Rattle.call_file.specs.Saved.{saved_of}
use Rattle.compiler.specs.declared.build.Build.{Build}
use Rattle.compiler.specs.Form.{Form}
use Rattle.compiler.specs.Compiled.{AreBuilt, HasForm, IsBuilt}
use Rattle.puya_tool.specs.declared.answer.Answer.{Answer}
use Rattle.puya_tool.specs.declared.answer.Answer.TheVariants.{WordsUnknown, Unread, Refused, NotBuilt, BadCall, NotProgram, NotTeal, NotAssembled, Unwritten, Stopped, Assembled, Listed}
use Rattle.puya_tool.specs.Commands.{AreWellFormed, CallAnswers, CallEnds, HoldsProgram, HoldsSource, IsBadCall, IsHeld, Judged, NamedEnds, RunAnswers, RunEnds, TextEnds, build_named, named}
use Rattle.puya_tool.specs.Promise.{AnswersBy}

-- what holds of an answer, where there is one
pub on_ok : {A E : Type 0} (P Q : A → Type 0) (r : Result A E) → ((a : A) → P a → Q a) → IfOk r P → IfOk r Q
on_ok P Q (Ok a) f h = f a h
on_ok P Q (Err e) f h = tt

-- where the builds are those of a form, what a name finds among them
named_by : (form : Form) (b : Build) (t : Bool) (name : List ℕ) → bytes_eq b.name name ≡ t → IsBuilt form b → (found : Build) → (if t then Some b else None) ≡ Some found
    → (Some name ≡ Some form.name) × IsBuilt form found
named_by form b true name same built found is =
    let e : b.name ≡ name = (bytes_eq-Decides b.name name).0 same in
    let n : b ≡ found = cc in
    (ap (λ (x : List ℕ). Some x) (sym e ∙ built.name), subst (IsBuilt form) n built)
named_by form b false name same built found is = absurd (cc)

unnamed_by : (form : Form) (b : Build) (t : Bool) (name : List ℕ) → bytes_eq b.name name ≡ t → IsBuilt form b → (if t then Some b else None) ≡ None → Some name ≢ Some form.name
unnamed_by form b true name same built is = λ e. absurd (cc)
unnamed_by form b false name same built is = λ e.
    let n : name ≡ form.name = cc in
    let yes : bytes_eq b.name name ≡ true = (bytes_eq-Decides b.name name).1 (built.name ∙ sym n) in
    cc

-- the build that a call names is that of the form, and the call names the form's contract
pub named_one : (form : Form) (builds : List Build) (name : Option (List ℕ)) (found : Build) → AreBuilt form builds → build_named name builds ≡ Some found
    → (name ≡ Some form.name) × IsBuilt form found
named_one form [] name found built is = absurd built
named_one form (b ∷ c ∷ bs) name found built is = absurd built
named_one form (b ∷ []) None found built is = absurd (cc)
named_one form (b ∷ []) (Some name) found built is = named_by form b (bytes_eq b.name name) name refl built found is

-- where a call names none of the builds, it does not name the form's contract
pub named_none : (form : Form) (builds : List Build) (name : Option (List ℕ)) → AreBuilt form builds → build_named name builds ≡ None → name ≢ Some form.name
named_none form [] name built is = absurd built
named_none form (b ∷ c ∷ bs) name built is = absurd built
named_none form (b ∷ []) None built is = λ e. cc
named_none form (b ∷ []) (Some name) built is = unnamed_by form b (bytes_eq b.name name) name refl built is

-- the programs that are built are well formed
pub built_well : (form : Form) (builds : List Build) → AreBuilt form builds → AreWellFormed builds
built_well form [] built = absurd built
built_well form (b ∷ c ∷ bs) built = absurd built
built_well form (b ∷ []) built = (built.approval.well_formed, built.clear.well_formed, tt)

named_well_by : (b : Build) (bs : List Build) (t : Bool) (name : List ℕ) (found : Build) → (named name bs ≡ Some found → IsWellFormed found.approval × IsWellFormed found.clear)
    → IsWellFormed b.approval → IsWellFormed b.clear → (if t then Some b else named name bs) ≡ Some found → IsWellFormed found.approval × IsWellFormed found.clear
named_well_by b bs true name found rest approval clear is =
    let e : b ≡ found = cc in subst (λ (x : Build). IsWellFormed x.approval × IsWellFormed x.clear) e (approval, clear)
named_well_by b bs false name found rest approval clear is = rest is

named_well : (bs : List Build) (name : List ℕ) (found : Build) → AreWellFormed bs → named name bs ≡ Some found → IsWellFormed found.approval × IsWellFormed found.clear
named_well [] name found well is = absurd (cc)
named_well (b ∷ bs) name found well is = named_well_by b bs (bytes_eq b.name name) name found (named_well bs name found well.2) well.0 well.1 is

pub build_well : (bs : List Build) (name : Option (List ℕ)) (found : Build) → AreWellFormed bs → build_named name bs ≡ Some found → IsWellFormed found.approval × IsWellFormed found.clear
build_well bs None found well is = absurd (cc)
build_well bs (Some name) found well is = named_well bs name found well is

-- a saved call ends as its call file's text says
pub text_ends : (builds : List Build) (file text : List ℕ) (saved : Saved) (a : Answer) → saved_of true text ≡ Ok saved → NamedEnds builds file saved a → TextEnds builds file text a
text_ends builds file text saved (BadCall name f) read ends = (ends.0, inr (saved, read, ends))
text_ends builds file text saved (Stopped ran) read ends = (saved, read, ends)
text_ends builds file text saved _ read ends = absurd ends

bad_ends : (form : Form) (builds : List Build) (text file name : List ℕ) (f : CallFault) → AreBuilt form builds
    → (saved_of true text ≡ Err f) ⊎ ((saved : Saved) × (saved_of true text ≡ Ok saved) × NamedEnds builds file saved (BadCall name f)) → IsBadCall form text f
bad_ends form builds text file name f built (inl e) = inl e
bad_ends form builds text file name f built (inr t) = inr (t.0, t.1, named_none form builds t.0.contract built t.2.1, t.2.2)

stopped_ends : (form : Form) (builds : List Build) (text file : List ℕ) (saved : Saved) (ran : Ran) → AreBuilt form builds → saved_of true text ≡ Ok saved → NamedEnds builds file saved (Stopped ran)
    → CallEnds form file text (Stopped ran)
stopped_ends form builds text file saved ran built read ends =
    let one = named_one form builds saved.contract ends.0 built ends.1 in
    (saved, read, one.0, record { approval = ends.0.approval; clear = ends.0.clear; serves = one.1.approval; clears = one.1.clear; ran_is = ends.2 })

-- a call of the builds of a form ends as one of the form
pub call_ends : (form : Form) (builds : List Build) (file text : List ℕ) (a : Answer) → AreBuilt form builds → TextEnds builds file text a → CallEnds form file text a
call_ends form builds file text (BadCall name f) built ends = (ends.0, bad_ends form builds text file name f built ends.1)
call_ends form builds file text (Stopped ran) built ends = stopped_ends form builds text file ends.0 ran built ends.1 ends.2
call_ends form builds file text _ built ends = absurd ends

call_reached : (held : Held) (file call text : List ℕ) (form : Form) (a : Answer) → HoldsSource held file form → IsHeld held call text → CallEnds form call text a → CallAnswers held file call a
call_reached held file call text form (BadCall name f) source there ends = (form, source, text, there, ends)
call_reached held file call text form (Stopped ran) source there ends = (form, source, text, there, ends)
call_reached held file call text form _ source there ends = absurd ends

-- the answer of `call`, both files read
pub call_due : (o o2 : Option Held) (file call source text : List ℕ) (form : Form) (builds : List Build) (a : Answer) → o2 ≡ o
    → IfSome o (λ h. map.get h file ≡ Some source) → IfSome o2 (λ h. map.get h call ≡ Some text) → length source ≤ max_length → length text ≤ max_length
    → HasForm source form → AreBuilt form builds → TextEnds builds call text a → IfSome o (λ h. CallAnswers h file call a)
call_due None o2 file call source text form builds a same first second short short2 is built ends = tt
call_due (Some h) o2 file call source text form builds a same first second short short2 is built ends =
    let there = subst (λ o. IfSome o (λ k. map.get k call ≡ Some text)) same second in
    call_reached h file call text form a (record { text = source; held_is = (first, short); source_is = is }) (there, short2) (call_ends form builds call text a built ends)

refused_reached : (held : Held) (file call source : List ℕ) (a : Answer) → IsHeld held file source → Judged file source (Err a) → CallAnswers held file call a
refused_reached held file call source (Refused name refusal) there judged = (judged.0, source, there, judged.1)
refused_reached held file call source (NotBuilt name) there judged = (judged.0, source, there, judged.1)
refused_reached held file call source _ there judged = absurd judged

-- the answer of `call`, the source refused
pub refused_due : (o : Option Held) (file call source : List ℕ) (a : Answer)
    → IfSome o (λ h. map.get h file ≡ Some source) → length source ≤ max_length → Judged file source (Err a) → IfSome o (λ h. CallAnswers h file call a)
refused_due None file call source a first short judged = tt
refused_due (Some h) file call source a first short judged = refused_reached h file call source a (first, short) judged

-- no refusal of a source speaks of the files' faults
pub refused_cause : (file source : List ℕ) (before now : ℕ) (a : Answer) → Judged file source (Err a) → AnswersBy before now a
refused_cause file source before now (Refused name refusal) judged = tt
refused_cause file source before now (NotBuilt name) judged = tt
refused_cause file source before now _ judged = absurd judged

run_reached : (held : Held) (file call text code : List ℕ) (a : Answer) → HoldsProgram held file code → IsHeld held call text → RunEnds code call text a → RunAnswers held file call a
run_reached held file call text code WordsUnknown program there ends = (code, program, text, there, ends)
run_reached held file call text code (Unread name f) program there ends = absurd ends
run_reached held file call text code (Refused name r) program there ends = (code, program, text, there, ends)
run_reached held file call text code (NotBuilt name) program there ends = (code, program, text, there, ends)
run_reached held file call text code (BadCall name f) program there ends = (code, program, text, there, ends)
run_reached held file call text code (NotProgram name f) program there ends = absurd ends
run_reached held file call text code (NotTeal name f) program there ends = (code, program, text, there, ends)
run_reached held file call text code (NotAssembled name f) program there ends = (code, program, text, there, ends)
run_reached held file call text code (Unwritten name) program there ends = (code, program, text, there, ends)
run_reached held file call text code (Stopped ran) program there ends = (code, program, text, there, ends)
run_reached held file call text code (Assembled name n) program there ends = (code, program, text, there, ends)
run_reached held file call text code (Listed t) program there ends = (code, program, text, there, ends)

-- the answer of `run`, both files read
pub run_due : (o o2 : Option Held) (file call code text : List ℕ) (a : Answer) → o2 ≡ o
    → IfSome o (λ h. map.get h file ≡ Some code) → IfSome o2 (λ h. map.get h call ≡ Some text) → length code ≤ max_length → length text ≤ max_length
    → IsWellFormed code → RunEnds code call text a → IfSome o (λ h. RunAnswers h file call a)
run_due None o2 file call code text a same first second short short2 form ends = tt
run_due (Some h) o2 file call code text a same first second short short2 form ends =
    let there = subst (λ o. IfSome o (λ k. map.get k call ≡ Some text)) same second in
    run_reached h file call text code a (record { held_is = (first, short); form = form }) (there, short2) ends
