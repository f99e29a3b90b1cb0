-- Augmented assignments are sound.
use Rattle.std.proofs.Common.{◌≡◌, ℕ, Bool, true, false, List, [], ◌∷◌, Option, Some, None, refl, sym, ap, ◌∙◌, subst}
use Rattle.std.specs.Prelude.{IsTrue, if◌then◌else◌, slice_get}
use Rattle.std.proofs.lemmas.Option.{same_Some}
use Rattle.puya_base.specs.declared.source.Place.{Place}
use Rattle.puya_base.specs.declared.source.Rule.TheVariants as rule
use Rattle.awst.specs.Sound.{Names, Within}
use Rattle.awst.specs.Shapes.{Fits, shape_of}
use Rattle.algopy_library.specs.declared.operator.Operator.{Operator}
use Rattle.algopy_library.specs.declared.operator.Operation.{Operation}
use Rattle.source_names.specs.declared.types.SourceType.{SourceType}
use Rattle.source_names.specs.Types.{same_type, scalar_of, is_nothing}
use Rattle.source_names.specs.Source.{Ex, does, place_of}
use Rattle.awst.specs.declared.expression.ExprKind.TheVariants as value_kind
use Rattle.meaning_rules.specs.declared.meaning.Hope.TheVariants as hope
use Rattle.meaning_rules.specs.declared.meaning.Lit.{Lit}
use Rattle.meaning_rules.specs.declared.meaning.Typed.{Typed}
use Rattle.meaning_rules.specs.declared.operand.Operand.{Operand}
use Rattle.meaning_rules.specs.declared.operand.Operand.TheVariants.{Value as a_value, Literal as a_literal, Missing as missing}
use Rattle.meaning_rules.specs.declared.scope.Scope.{Scope}
use Rattle.meaning_rules.specs.declared.scope.Local.{Local}
use Rattle.meaning_rules.specs.declared.scope.Status.{Status}
use Rattle.meaning_rules.specs.declared.scope.Status.TheVariants as status
use Rattle.meaning_rules.specs.Meanings.{a_node, a_typed, literal, kept, operand_of, freely, value_breaks}
use Rattle.meaning_rules.specs.Operations.{has_between, operation_at, read_status}
use Rattle.expression_check.specs.Expressions.{judge}
use Rattle.statement_check.specs.Statements.{agreed, augmented, augmented_by, augmented_when, augment_variable}
use Rattle.typing_laws.proofs.Good.{value_type, GoodTyped, GoodLit, GoodOption, GoodOperand, GoodScope, Sees, SeenType}
use Rattle.typing_laws.proofs.TypeLaws.{same_value}
use Rattle.typing_laws.proofs.Meanings.{literal_good, literal_type}
use Rattle.typing_laws.proofs.Updates.{is_update, FitsUpdate, update_fits}
use Rattle.typing_laws.proofs.Anywhere.{anywhere, allows_all, operand_given}
use Rattle.typing_laws.proofs.StatementNodes.{SoundWhen, update_sound}

-- ---- the variable that is read

abbrev pub IsReadOf : Names → ℕ → Operand → Type 0
IsReadOf names i (a_value t) = slice_get names.variables i ≡ Some (value_type t.ty)
IsReadOf names i (a_literal p l) = Unit {0}
IsReadOf names i missing = Unit {0}

kept_read : (names : Names) (i : ℕ) (p : Place) (t : Typed) (b : Bool) → is_nothing t.ty ≡ b → slice_get names.variables i ≡ Some (value_type t.ty) → IsReadOf names i (kept p t).operand
kept_read names i p t true e h = rw e tt
kept_read names i p t false e h = rw e h

read_fixed : (names : Names) (p : Place) (i : ℕ) (n : List ℕ) (t : Option SourceType) → SeenType names i t → IsReadOf names i (operand_of p (read_status p i (Some (record { name = n; status = status.Fixed t })))).operand
read_fixed names p i n None s = tt
read_fixed names p i n (Some u) s =
    kept_read names i p (a_node p u (value_kind.Local i)) (is_nothing u) refl (s.at ∙ ap (λ (z : SourceType). Some (value_type z)) (same_Some s.ty u (sym s.is)))

read_by : (names : Names) (p : Place) (i : ℕ) (n : List ℕ) (s : Status) → ((t : Option SourceType) → s ≡ status.Fixed t → SeenType names i t) → IsReadOf names i (operand_of p (read_status p i (Some (record { name = n; status = s })))).operand
read_by names p i n status.Unseen f = tt
read_by names p i n (status.Fixed t) f = read_fixed names p i n t (f t refl)

variable_read : (names : Names) (p : Place) (i : ℕ) (ls : List Local) (o : Option Local) → slice_get ls i ≡ o → Sees names ls → IsReadOf names i (operand_of p (read_status p i o)).operand
variable_read names p i ls None e h = tt
variable_read names p i ls (Some l) e h = read_by names p i l.name l.status (λ t f. h i l t e f)

-- ---- the value beside it

-- a value of that type, where it is known
abbrev pub Agrees : Names → SourceType → Option Typed → Type 0
Agrees names t None = Unit {0}
Agrees names t (Some u) = GoodTyped (anywhere names) u × (value_type u.ty ≡ value_type t)

same_agrees : (names : Names) (t : SourceType) (u : Typed) (c : Bool) → same_type t u.ty ≡ c → GoodTyped (anywhere names) u → Agrees names t (if c then a_typed u else value_breaks rule.P14 u.expr.place).typed
same_agrees names t u true e g = (g, sym (same_value t u.ty e))
same_agrees names t u false e g = tt

value_agrees : (names : Names) (p : Place) (o : Operator) (a u : Typed) (b : Bool) → GoodTyped (anywhere names) u
    → Agrees names a.ty (if b then (if same_type a.ty u.ty then a_typed u else value_breaks rule.P14 u.expr.place) else value_breaks rule.P14 p).typed
value_agrees names p o a u true g = same_agrees names a.ty u (same_type a.ty u.ty) refl g
value_agrees names p o a u false g = tt

option_agrees : (names : Names) (t : SourceType) (o : Option Typed) → GoodOption (anywhere names) o → ((u : Typed) → o ≡ Some u → value_type u.ty ≡ value_type t) → Agrees names t o
option_agrees names t None g f = tt
option_agrees names t (Some u) g f = (g.0, f u refl)

literal_agrees : (names : Names) (p : Place) (t : SourceType) (q : Place) (l : Lit) (b : Bool) → GoodLit l → Agrees names t (if b then literal (hope.Wants t) q l else value_breaks rule.P14 p).typed
literal_agrees names p t q l true g =
    option_agrees names t (literal (hope.Wants t) q l).typed ((literal_good (anywhere names) (hope.Wants t) q l).holds g (allows_all (literal (hope.Wants t) q l).notes)) (literal_type t q l)
literal_agrees names p t q l false g = tt

agreed_agrees : (names : Names) (p : Place) (o : Operator) (a : Typed) (b : Operand) → GoodOperand (anywhere names) b → Agrees names a.ty (agreed p o a b).typed
agreed_agrees names p o a (a_value u) g = value_agrees names p o a u (has_between (does o) a.ty) g.0
agreed_agrees names p o a (a_literal q l) g = literal_agrees names p a.ty q l (has_between (does o) a.ty) g
agreed_agrees names p o a missing g = tt

-- ---- the statement

by_sound : (names : Names) (within : Within) (p : Place) (i : ℕ) (o : Option Operation) (t : SourceType) (u : Typed) → FitsUpdate o (value_type t) → slice_get names.variables i ≡ Some (value_type t) → GoodTyped (anywhere names) u
    → value_type u.ty ≡ value_type t → SoundWhen names within (augmented_by p i o u)
by_sound names within p i None t u f h g e = tt
by_sound names within p i (Some o) t u f h g e =
    update_sound names within p i o.prim u.expr g.sound (h ∙ ap Some (sym (g.type_is ∙ e))) (subst (λ z. Fits (shape_of o.prim) (z ∷ z ∷ []) z) (sym (g.type_is ∙ e)) f)

when_sound : (names : Names) (within : Within) (p : Place) (i : ℕ) (o : Operator) (a : Typed) (b : Option Typed) → IsTrue (is_update o) → slice_get names.variables i ≡ Some (value_type a.ty) → Agrees names a.ty b
    → SoundWhen names within (augmented_when p i o a b)
when_sound names within p i o a None k h g = tt
when_sound names within p i o a (Some u) k h g = by_sound names within p i (operation_at o (scalar_of a.ty)) a.ty u (update_fits o a.ty k) h g.0 g.1

augmented_sound : (names : Names) (within : Within) (p : Place) (i : ℕ) (o : Operator) (a b : Operand) → IsTrue (is_update o) → IsReadOf names i a → GoodOperand (anywhere names) b → SoundWhen names within (augmented p i o a b).typed
augmented_sound names within p i o (a_value a) b k h g = when_sound names within p i o a (agreed p o a b).typed k h (agreed_agrees names p o a b g)
augmented_sound names within p i o (a_literal q l) b k h g = tt
augmented_sound names within p i o missing b k h g = tt

pub augment_sound : (names : Names) (within : Within) (s : Scope) (p : Place) (i : ℕ) (o : Operator) (e : Ex) → IsTrue (is_update o) → GoodScope names s → SoundWhen names within (augment_variable s p i o e).typed
augment_sound names within s p i o e k g =
    augmented_sound names within p i o (operand_of p (read_status p i (slice_get s.locals i))).operand (operand_of (place_of e) (judge s freely e)).operand k
    (variable_read names p i s.locals (slice_get s.locals i) refl g.locals) (operand_given names s (place_of e) freely e g)
