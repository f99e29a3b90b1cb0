-- Literals, values and conditions that tell of no broken rule are known.
use Rattle.std.proofs.Common.{◌≡◌, Bool, true, false, List, [], ◌∷◌, ◌++◌, Option, Some, None, refl, subst}
use Rattle.std.specs.Prelude.{if◌then◌else◌}
use Rattle.puya_base.specs.declared.source.Place.{Place}
use Rattle.puya_base.specs.declared.source.Refusal.{Refusal}
use Rattle.puya_base.specs.declared.source.Rule.{Rule}
use Rattle.puya_base.specs.declared.source.Rule.TheVariants as rule
use Rattle.path_rules.specs.declared.note.Note.{Note}
use Rattle.path_rules.specs.declared.note.Note.TheVariants as note
use Rattle.path_rules.proofs.Equations.{step-Broken}
use Rattle.algopy_library.specs.declared.scalar.Scalar.{Scalar}
use Rattle.algopy_library.specs.declared.scalar.Scalar.TheVariants as scalar
use Rattle.algopy_library.specs.Operators.{has_truth}
use Rattle.source_names.specs.declared.types.SourceType.{SourceType}
use Rattle.source_names.specs.Types.{same_type, scalar_of, is_nothing}
use Rattle.meaning_rules.specs.declared.meaning.Hope.{Hope}
use Rattle.meaning_rules.specs.declared.meaning.Hope.TheVariants as hope
use Rattle.meaning_rules.specs.declared.meaning.Lit.{Lit}
use Rattle.meaning_rules.specs.declared.meaning.Typed.{Typed}
use Rattle.meaning_rules.specs.declared.meaning.Meaning.{Meaning}
use Rattle.meaning_rules.specs.declared.meaning.Meaning.TheVariants as meaning
use Rattle.meaning_rules.specs.declared.operand.Operand.{Operand}
use Rattle.meaning_rules.specs.declared.operand.Operand.TheVariants.{Value as a_value, Literal as a_literal, Missing as missing}
use Rattle.meaning_rules.specs.declared.scope.Scope.{Scope}
use Rattle.meaning_rules.specs.Meanings.{Judged, Valued, broken, breaks, literal, lit_node, lit_type, value_breaks, a_typed, kept, operand, operand_of, settled, value, fits_type, fits_when, required, truth_of, condition_at, condition_of, condition}
use Rattle.typing_laws.proofs.Giving.{each_front, each_behind}
use Rattle.typing_laws.proofs.Known.{IsUnbroken, Unbroken, IsHope, KnownMeaning, KnownOperand, KnownTyped, KnownJudged, KnownOperated, KnownValued}

-- ---- notes

-- a broken rule is told
pub not_unbroken : (r : Refusal) (ns : List Note) → Unbroken (note.Broken r ∷ ns) → ⊥
not_unbroken r ns u = subst IsUnbroken (step-Broken r) u.0

-- where a rule is broken nothing is asked
pub broken_says : (P : Type 0) (r : Rule) (p : Place) → Unbroken (broken r p ∷ []) → P
broken_says P r p u = absurd (not_unbroken (record { rule = r; place = p }) [] u)

pub unbroken_front : (a b : List Note) → Unbroken (a ++ b) → Unbroken a
unbroken_front a b u = each_front IsUnbroken a b u

pub unbroken_behind : (a b : List Note) → Unbroken (a ++ b) → Unbroken b
unbroken_behind a b u = each_behind IsUnbroken a b u

-- what notes say is what those behind them ask for
pub says_then : (P Q : Type 0) (a b : List Note) → (Unbroken a → P) → (P → Unbroken b → Q) → Unbroken (a ++ b) → Q
says_then P Q a b g h u = h (g (unbroken_front a b u)) (unbroken_behind a b u)

-- both of them
pub says_both : (P Q : Type 0) (a b : List Note) → (Unbroken a → P) → (Unbroken b → Q) → Unbroken (a ++ b) → P × Q
says_both P Q a b g h u = (g (unbroken_front a b u), h (unbroken_behind a b u))

pub known_breaks : (s : Scope) (r : Rule) (p : Place) → KnownJudged s (breaks r p)
known_breaks s r p u = broken_says ⊥ r p u

-- one or the other
pub either_known : (s : Scope) (b : Bool) (x y : Judged) → KnownJudged s x → KnownJudged s y → KnownJudged s (if b then x else y)
either_known s true x y g h = g
either_known s false x y g h = h

-- ---- literals

literal_by : (p : Place) (l : Lit) (b : Bool) → KnownValued (if b then a_typed (lit_node p l) else value_breaks rule.P14 p)
literal_by p l true u = tt
literal_by p l false u = broken_says ⊥ rule.P14 p u

pub literal_known : (h : Hope) (p : Place) (l : Lit) → IsHope h → KnownValued (literal h p l)
literal_known (hope.Wants t) p l k = literal_by p l (same_type t (lit_type l))
literal_known hope.Free p l k = broken_says ⊥ rule.P14 p
literal_known hope.Unknown p l k = absurd k

-- ---- values

kept_by : (p : Place) (t : Typed) (b : Bool) → is_nothing t.ty ≡ b → KnownOperated (kept p t)
kept_by p t true e = rw e (broken_says ⊥ rule.P14 p)
kept_by p t false e = rw e (λ u. tt)

pub operand_says : (s : Scope) (p : Place) (m : Meaning) → KnownMeaning s m → KnownOperated (operand p m)
operand_says s p (meaning.Value t) k = kept_by p t (is_nothing t.ty) refl
operand_says s p (meaning.Literal q l) k = λ u. tt
operand_says s p (meaning.Thing t) k = broken_says ⊥ rule.P14 p
operand_says s p (meaning.Range r) k = broken_says ⊥ rule.P14 p
operand_says s p meaning.Unknown k = absurd k

pub operand_is_known : (s : Scope) (p : Place) (j : Judged) → KnownJudged s j → KnownOperated (operand_of p j)
operand_is_known s p j k = says_then (KnownMeaning s j.meaning) (KnownOperand (operand p j.meaning).operand) j.notes (operand p j.meaning).notes k (operand_says s p j.meaning)

pub settled_known : (h : Hope) (o : Operand) → IsHope h → KnownOperand o → KnownValued (settled h o)
settled_known h (a_value t) g k = λ u. tt
settled_known h (a_literal q l) g k = literal_known h q l g
settled_known h missing g k = absurd k

pub value_is_known : (s : Scope) (h : Hope) (p : Place) (j : Judged) → IsHope h → KnownJudged s j → KnownValued (value h p j)
value_is_known s h p j g k =
    let o = operand_of p j in
    says_then (KnownOperand o.operand) (KnownTyped (settled h o.operand).typed) o.notes (settled h o.operand).notes (operand_is_known s p j k) (settled_known h o.operand g)

fits_by : (t : SourceType) (e : Typed) (b : Bool) → KnownValued (if b then a_typed e else value_breaks rule.P14 e.expr.place)
fits_by t e true u = tt
fits_by t e false u = broken_says ⊥ rule.P14 e.expr.place u

pub fits_known : (t : SourceType) (e : Typed) → KnownValued (fits_type t e)
fits_known t e = fits_by t e (same_type e.ty t)

fits_when_known : (t : SourceType) (o : Option Typed) → KnownTyped o → KnownValued (fits_when (Some t) o)
fits_when_known t (Some e) k = fits_known t e
fits_when_known t None k = absurd k

pub required_is_known : (t : SourceType) (v : Valued) → KnownValued v → KnownValued (required (Some t) v)
required_is_known t v k =
    let f = fits_when (Some t) v.typed in says_then (KnownTyped v.typed) (KnownTyped f.typed) v.notes f.notes k (fits_when_known t v.typed)

-- ---- conditions

truth_by : (t : Typed) (b : Bool) → KnownValued (if b then a_typed (truth_of t) else value_breaks rule.P14 t.expr.place)
truth_by t true u = tt
truth_by t false u = broken_says ⊥ rule.P14 t.expr.place u

condition_at_known : (t : Typed) (s : Option Scalar) → KnownValued (condition_at t s)
condition_at_known t None = broken_says ⊥ rule.P14 t.expr.place
condition_at_known t (Some scalar.Bool) = λ u. tt
condition_at_known t (Some scalar.UInt64) = truth_by t (has_truth scalar.UInt64)
condition_at_known t (Some scalar.Bytes) = truth_by t (has_truth scalar.Bytes)
condition_at_known t (Some scalar.Text) = truth_by t (has_truth scalar.Text)
condition_at_known t (Some scalar.Account) = truth_by t (has_truth scalar.Account)

condition_of_known : (o : Option Typed) → KnownTyped o → KnownValued (condition_of o)
condition_of_known None k = absurd k
condition_of_known (Some t) k = condition_at_known t (scalar_of t.ty)

pub condition_is_known : (s : Scope) (p : Place) (j : Judged) → KnownJudged s j → KnownValued (condition p j)
condition_is_known s p j k =
    let v = value hope.Free p j in
    says_then (KnownTyped v.typed) (KnownTyped (condition_of v.typed).typed) v.notes (condition_of v.typed).notes (value_is_known s hope.Free p j tt k) (condition_of_known v.typed)
