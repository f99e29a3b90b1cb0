-- Parts of the rules on compound statements: arms of an `if`, and the turns of a `for`.
use Rattle.std.specs.Prelude.{ℕ, true, List, [], ◌∷◌, ◌++◌, Option, Some, None}
use Rattle.puya_base.specs.declared.source.Place.{Place}
use Rattle.awst.specs.declared.statement.Stmt.{Stmt}
use Rattle.awst.specs.declared.statement.Arm.{Arm, roll-Arm}
use Rattle.path_rules.specs.declared.note.NoteArm.{NoteArm}
use Rattle.path_rules.specs.declared.note.Note.TheVariants as note
use Rattle.source_names.specs.declared.types.SourceType.{SourceType}
use Rattle.source_names.specs.Source.{Ex, place_of}
use Rattle.meaning_rules.specs.declared.meaning.Typed.{Typed}
use Rattle.meaning_rules.specs.declared.scope.Scope.{Scope}
use Rattle.meaning_rules.specs.declared.scope.Local.{Local}
use Rattle.meaning_rules.specs.Meanings.{Valued, condition, freely}
use Rattle.statement_check.specs.declared.looping.Over.{Over as Written}
use Rattle.statement_check.specs.Annotating.{differs_notes}
use Rattle.expression_check.specs.Expressions.{judge}
use Rattle.statement_check.specs.Lines.{OneBranch, Sts}
use Rattle.statement_check.specs.Looping.{for_stmt, turn_type}
use Rattle.statement_check.specs.Statements.{Done, checks, differs, done, is_true, seeing}
use Rattle.expression_check.specs.Variables.{fixed, status_at}

abbrev pub typed_arm : Option Typed → Option (List Stmt) → Option Arm
typed_arm None b = None
typed_arm (Some c) None = None
typed_arm (Some c) (Some b) = Some (roll-Arm (record { condition = c.expr; body = b }))

abbrev pub with_typed : Option (List Arm) → Option Arm → Option (List Arm)
with_typed None a = None
with_typed (Some as_) None = None
with_typed (Some as_) (Some a) = Some (as_ ++ a ∷ [])

abbrev pub test_of : Scope → List Local → Ex → Valued
test_of s ls e = condition (place_of e) (judge (seeing s ls) freely e)

abbrev pub note_of : Scope → Option SourceType → List Local → Ex → Sts → NoteArm
note_of s r ls e b = record { test = (test_of s ls e).notes; always = is_true (test_of s ls e).typed; body = (checks s r ls b).notes }

abbrev pub arm_of : Scope → Option SourceType → List Local → Ex → Sts → Option Arm
arm_of s r ls e b = typed_arm (test_of s ls e).typed (checks s r ls b).typed

-- the arms of `elif`, one after the other: the variables behind them, their notes, and what they are with those before them
abbrev pub locals_behind : Scope → Option SourceType → List Local → List OneBranch → List Local
locals_behind s r ls [] = ls
locals_behind s r ls (a ∷ as_) = locals_behind s r (checks s r ls a.block).locals as_

abbrev pub notes_behind : Scope → Option SourceType → List Local → List OneBranch → List NoteArm
notes_behind s r ls [] = []
notes_behind s r ls (a ∷ as_) = note_of s r ls a.test a.block ∷ notes_behind s r (checks s r ls a.block).locals as_

abbrev pub arms_behind : Scope → Option SourceType → List Local → Option (List Arm) → List OneBranch → Option (List Arm)
arms_behind s r ls ts [] = ts
arms_behind s r ls ts (a ∷ as_) = arms_behind s r (checks s r ls a.block).locals (with_typed ts (arm_of s r ls a.test a.block)) as_

-- the turns of a `for` over a variable, behind the notes on what it goes over
abbrev pub turns : Scope → Option SourceType → List Local → Place → Place → ℕ → Written → Sts → Done
turns s r ls p q i w b =
    let ty = turn_type w in
    let d = checks s r (fixed ls i ty) b in
    done d.locals (differs_notes (differs (status_at ls i) ty) q ++ (note.Loop [] true (note.Assign i ∷ d.notes) ∷ note.Forget i ∷ [])) (for_stmt p i (differs (status_at ls i) ty) w d.typed)
