-- Parts of the rules on statements, each for one case, as the code goes through them.
use Rattle.std.specs.Prelude.{ℕ, Bool, if◌then◌else◌, List, [], ◌∷◌, ◌++◌, Option, Some, None}
use Rattle.puya_base.specs.declared.source.Place.{Place}
use Rattle.puya_base.specs.declared.source.Rule.TheVariants as rule
use Rattle.awst.specs.declared.ty.Ty.{Ty}
use Rattle.awst.specs.declared.statement.Stmt.{Stmt}
use Rattle.awst.specs.declared.statement.StmtKind.TheVariants as kind
use Rattle.awst.specs.declared.statement.Target.TheVariants as target
use Rattle.path_rules.specs.declared.note.Note.{Note}
use Rattle.path_rules.specs.declared.note.Note.TheVariants as note
use Rattle.source_names.specs.declared.types.SourceType.{SourceType}
use Rattle.source_names.specs.Source.{Ex, place_of}
use Rattle.meaning_rules.specs.declared.meaning.Meaning.{Meaning}
use Rattle.meaning_rules.specs.declared.meaning.Typed.{Typed}
use Rattle.meaning_rules.specs.declared.scope.Local.{Local}
use Rattle.meaning_rules.specs.declared.scope.Scope.{Scope}
use Rattle.meaning_rules.specs.declared.scope.Status.{Status}
use Rattle.meaning_rules.specs.declared.scope.Status.TheVariants as status
use Rattle.meaning_rules.specs.Meanings.{Valued, broken, fits_when, freely}
use Rattle.expression_check.specs.Expressions.{judge}
use Rattle.statement_check.specs.Targets.{target_name}
use Rattle.statement_check.specs.Statements.{Done, done, first_type, is_known, none_taken, of_typed, slot_notes, taken, type_in, variable_of}
use Rattle.expression_check.specs.Variables.{fixed, status_at}

-- statements behind others, where all are known
abbrev pub joined : Option (List Stmt) → Option (List Stmt) → Option (List Stmt)
joined None b = None
joined (Some a) None = None
joined (Some a) (Some b) = Some (a ++ b)

abbrev pub known_nothing : Bool → Option (List Stmt)
known_nothing b = if b then Some [] else None

-- P16 on a target that can't be assigned, where its names are known
abbrev pub bad_notes : Place → Meaning → List Note
bad_notes p m = if is_known m then broken rule.P16 p ∷ [] else []

-- a value for a variable whose status is this, where the value is known: of its type, where that is fixed
abbrev pub fits_status : Status → Option Typed → Valued
fits_status status.Unseen t = record { notes = []; typed = t }
fits_status (status.Fixed u) t = fits_when u t

-- an assignment of a value, behind the notes on it
abbrev pub assigned_when : List Local → Place → ℕ → Option Typed → Done
assigned_when ls p i t =
    let w = fits_status (status_at ls i) t in
    done (fixed ls i (type_in w.typed)) (w.notes ++ note.Assign i ∷ []) (of_typed p w.typed (kind.Assign (target.Local i ∷ []) None))

-- a target of an unpacking
abbrev pub slot_number : Scope → Ex → Option ℕ
slot_number s e = variable_of s (target_name e)

abbrev pub slot_told : Scope → Ex → List Note
slot_told s e = slot_notes (slot_number s e) (place_of e) (judge s freely e)

-- the variables once each has its part of a tuple, or none
abbrev pub taken_tuple : List Local → List (Option ℕ) → Option (List SourceType) → List Local
taken_tuple ls is None = none_taken ls is
taken_tuple ls is (Some ts) = (taken ls is ts).locals

abbrev pub taken_all : List Local → List (Option ℕ) → Option (List SourceType) → Option Bool
taken_all ls is None = None
taken_all ls is (Some ts) = Some (taken ls is ts).all

-- the type of the first part, where there are parts
abbrev pub first_of_parts : Option (List SourceType) → Option Ty
first_of_parts None = None
first_of_parts (Some ts) = first_type ts
