-- Values of variables, and of other places that have a type, behind the notes on them.
use Rattle.std.proofs.Common.{◌≡◌, List, ◌++◌, Option, Result, Ok, Err, OnOk, refl, sym, ap, ◌∙◌, append_assoc, append-nil}
use Rattle.puya_base.specs.declared.source.Place.{Place}
use Rattle.path_rules.specs.declared.note.Note.{Note}
use Rattle.meaning_rules.specs.declared.meaning.Typed.{Typed}
use Rattle.meaning_rules.specs.declared.scope.Status.{Status}
use Rattle.meaning_rules.specs.declared.scope.Status.TheVariants as status
use Rattle.meaning_rules.specs.declared.scope.Local.{Local}
use Rattle.meaning_rules.specs.declared.meaning.Hope.{Hope}
use Rattle.meaning_rules.specs.declared.meaning.Lit.TheVariants as lit
use Rattle.meaning_rules.specs.declared.meaning.Meaning.{Meaning}
use Rattle.meaning_rules.specs.declared.meaning.Meaning.TheVariants as meaning
use Rattle.meaning_rules.specs.Meanings.{Judged, Valued, operand, says, settled, value}
use Rattle.statement_check.specs.Parting.{fits_status}
use Rattle.statement_check.specs.Statements.{alone_says, for_status}

-- four lists, one after another, from two pairs
pub two_and_two : {A : Type 0} (into a b tail mid all : List A) → mid ≡ into ++ a → all ≡ mid ++ (b ++ tail) → all ≡ into ++ ((a ++ b) ++ tail)
two_and_two into a b tail mid all e f =
    f ∙ ap (λ z. z ++ (b ++ tail)) e ∙ append_assoc into a (b ++ tail) ∙ ap (λ z. into ++ z) (sym (append_assoc a b tail))

status_notes : (st : Status) (v : Valued) → (for_status st v).notes ≡ v.notes ++ (fits_status st v.typed).notes
status_notes status.Unseen v = sym (append-nil v.notes)
status_notes (status.Fixed t) v = refl

pub status_told : (st : Status) (v : Valued) (t : Option Typed) (into mid all tail : List Note) → t ≡ v.typed → mid ≡ into ++ v.notes → all ≡ mid ++ ((fits_status st t).notes ++ tail)
    → all ≡ into ++ ((for_status st v).notes ++ tail)
status_told st v t into mid all tail d e f =
    two_and_two into v.notes (fits_status st v.typed).notes tail mid all e (f ∙ ap (λ z. mid ++ ((fits_status st z).notes ++ tail)) d)
    ∙ ap (λ z. into ++ (z ++ tail)) (sym (status_notes st v))

pub on_ok : {T E P : Type 0} (r : Result T E) → P → OnOk r P
on_ok (Ok x) p = p
on_ok (Err e) p = tt

-- a value, behind the notes on what it is of
pub value_told : (h : Hope) (p : Place) (j : Judged) (into mid all : List Note) → mid ≡ into ++ j.notes → all ≡ mid ++ (value h p (says j.meaning)).notes → all ≡ into ++ (value h p j).notes
value_told h p j into mid all e f = two_and_two into j.notes (operand p j.meaning).notes (settled h (operand p j.meaning).operand).notes mid all e f

-- what stands alone leaves the variables alone
pub alone_locals : (ls : List Local) (p : Place) (m : Meaning) → (alone_says ls p m).locals ≡ ls
alone_locals ls p (meaning.Value t) = refl
alone_locals ls p (meaning.Literal q (lit.Number n)) = refl
alone_locals ls p (meaning.Literal q (lit.Text b)) = refl
alone_locals ls p (meaning.Literal q (lit.Bytes b)) = refl
alone_locals ls p (meaning.Thing t) = refl
alone_locals ls p (meaning.Range r) = refl
alone_locals ls p meaning.Unknown = refl
