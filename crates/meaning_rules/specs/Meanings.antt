-- What is said of expressions and their parts: notes and meanings. A rule is judged on a node only where its parts are known, which is: each of
-- them is a value or a literal.
use Rattle.std.specs.Prelude.{ℕ, Bool, false, if◌then◌else◌, List, [], ◌∷◌, ◌++◌, map, Option, Some, None, slice_get}
use Rattle.puya_base.specs.declared.source.Place.{Place}
use Rattle.puya_base.specs.declared.source.Rule.{Rule}
use Rattle.puya_base.specs.declared.source.Rule.TheVariants as rule
use Rattle.puya_base.specs.declared.source.Refusal.{Refusal}
use Rattle.awst.specs.declared.expression.ExprKind.{ExprKind}
use Rattle.awst.specs.declared.expression.ExprKind.TheVariants as kind
use Rattle.awst.specs.declared.primitive.Primitive.TheVariants as prim
use Rattle.algopy_library.specs.declared.scalar.Scalar.{Scalar}
use Rattle.algopy_library.specs.declared.scalar.Scalar.TheVariants as scalar
use Rattle.algopy_library.specs.Operators.{has_truth}
use Rattle.path_rules.specs.declared.note.Note.{Note}
use Rattle.path_rules.specs.declared.note.Note.TheVariants as note
use Rattle.source_names.specs.declared.types.SourceType.{SourceType}
use Rattle.source_names.specs.declared.types.SourceType.TheVariants as ty
use Rattle.source_names.specs.Types.{typed, same_type, scalar_of, tuple_parts, is_nothing, same_scalar}
use Rattle.meaning_rules.specs.declared.meaning.Hope.{Hope}
use Rattle.meaning_rules.specs.declared.meaning.Hope.TheVariants as hope
use Rattle.meaning_rules.specs.declared.meaning.Expect.{Expect}
use Rattle.meaning_rules.specs.declared.meaning.Expect.TheVariants as expect
use Rattle.meaning_rules.specs.declared.meaning.Context.{Context}
use Rattle.meaning_rules.specs.declared.meaning.Typed.{Typed}
use Rattle.meaning_rules.specs.declared.meaning.Lit.{Lit}
use Rattle.meaning_rules.specs.declared.meaning.Lit.TheVariants as lit
use Rattle.meaning_rules.specs.declared.meaning.Meaning.{Meaning}
use Rattle.meaning_rules.specs.declared.meaning.Meaning.TheVariants as meaning
use Rattle.meaning_rules.specs.declared.operand.Operand.{Operand}
use Rattle.meaning_rules.specs.declared.operand.Operand.TheVariants.{Value as a_value, Literal as a_literal, Missing as missing}

-- what is said of an expression
pub record Judged : Type 0 where
  pub notes : List Note
  pub meaning : Meaning

-- what is said of a part that has to be a value
pub record Valued : Type 0 where
  pub notes : List Note
  pub typed : Option Typed

pub record Operated : Type 0 where
  pub notes : List Note
  pub operand : Operand

abbrev pub broken : Rule → Place → Note
broken r p = note.Broken (record { rule = r; place = p })

abbrev pub broken_all : List Refusal → List Note
broken_all fs = map (λ (f : Refusal). note.Broken f) fs

abbrev pub unknown : Judged
unknown = record { notes = []; meaning = meaning.Unknown }

abbrev pub breaks : Rule → Place → Judged
breaks r p = record { notes = broken r p ∷ []; meaning = meaning.Unknown }

abbrev pub says : Meaning → Judged
says m = record { notes = []; meaning = m }

abbrev pub after : List Note → Judged → Judged
after ns j = record { notes = ns ++ j.notes; meaning = j.meaning }

abbrev pub a_node : Place → SourceType → ExprKind → Typed
a_node p t k = record { ty = t; expr = record { place = p; ty = typed t; kind = k } }

abbrev pub node : Place → SourceType → ExprKind → Judged
node p t k = says (meaning.Value (a_node p t k))

abbrev pub no_value : Valued
no_value = record { notes = []; typed = None }

abbrev pub value_breaks : Rule → Place → Valued
value_breaks r p = record { notes = broken r p ∷ []; typed = None }

abbrev pub a_typed : Typed → Valued
a_typed t = record { notes = []; typed = Some t }

abbrev pub is_scalar : Option Scalar → Scalar → Bool
is_scalar None s = false
is_scalar (Some t) s = same_scalar t s

-- ---- literals

abbrev pub lit_type : Lit → SourceType
lit_type (lit.Number n) = ty.Scalar scalar.UInt64
lit_type (lit.Text b) = ty.Scalar scalar.Text
lit_type (lit.Bytes b) = ty.Scalar scalar.Bytes

abbrev pub lit_kind : Lit → ExprKind
lit_kind (lit.Number n) = kind.Int n
lit_kind (lit.Text b) = kind.Data b
lit_kind (lit.Bytes b) = kind.Data b

abbrev pub lit_node : Place → Lit → Typed
lit_node p l = a_node p (lit_type l) (lit_kind l)

-- P14: a literal takes the type that is hoped for, and has none of its own
abbrev pub literal : Hope → Place → Lit → Valued
literal (hope.Wants t) p l = if same_type t (lit_type l) then a_typed (lit_node p l) else value_breaks rule.P14 p
literal hope.Free p l = value_breaks rule.P14 p
literal hope.Unknown p l = no_value

-- ---- values

abbrev pub kept : Place → Typed → Operated
kept p t = if is_nothing t.ty then record { notes = broken rule.P14 p ∷ []; operand = missing } else record { notes = []; operand = a_value t }

-- P14 on what is no value: a name that is none, a call that gives nothing, a range
abbrev pub operand : Place → Meaning → Operated
operand p (meaning.Value t) = kept p t
operand p (meaning.Literal q l) = record { notes = []; operand = a_literal q l }
operand p (meaning.Thing t) = record { notes = broken rule.P14 p ∷ []; operand = missing }
operand p (meaning.Range r) = record { notes = broken rule.P14 p ∷ []; operand = missing }
operand p meaning.Unknown = record { notes = []; operand = missing }

abbrev pub settled : Hope → Operand → Valued
settled h (a_value t) = a_typed t
settled h (a_literal q l) = literal h q l
settled h missing = no_value

abbrev pub operand_of : Place → Judged → Operated
operand_of p j = let o = operand p j.meaning in record { notes = j.notes ++ o.notes; operand = o.operand }

-- a part that has to be a value, where this is hoped for
abbrev pub value : Hope → Place → Judged → Valued
value h p j =
    let o = operand_of p j in
    let v = settled h o.operand in
    record { notes = o.notes ++ v.notes; typed = v.typed }

abbrev pub fits_type : SourceType → Typed → Valued
fits_type t e = if same_type e.ty t then a_typed e else value_breaks rule.P14 e.expr.place

abbrev pub fits_when : Option SourceType → Option Typed → Valued
fits_when (Some t) (Some e) = fits_type t e
fits_when (Some t) None = no_value
fits_when None e = no_value

-- P14: a value of another type than required
abbrev pub required : Option SourceType → Valued → Valued
required t v = let w = fits_when t v.typed in record { notes = v.notes ++ w.notes; typed = w.typed }

-- what is hoped for where a type is required, which may be unknown
abbrev pub hoped : Option SourceType → Hope
hoped None = hope.Unknown
hoped (Some t) = hope.Wants t

-- ---- contexts

abbrev pub context : Bool → Hope → Context
context c h = record { expect = expect.One h; copying = c }

abbrev pub freely : Context
freely = context false hope.Free

abbrev pub wants : Option SourceType → Hope
wants None = hope.Free
wants (Some t) = hope.Wants t

abbrev pub part_wanted : Option (List SourceType) → ℕ → Hope
part_wanted None i = hope.Free
part_wanted (Some ts) i = wants (slice_get ts i)

abbrev pub hope_or_free : Option Hope → Hope
hope_or_free None = hope.Free
hope_or_free (Some h) = h

abbrev pub part_of_hope : Hope → ℕ → Hope
part_of_hope (hope.Wants t) i = part_wanted (tuple_parts t) i
part_of_hope hope.Free i = hope.Free
part_of_hope hope.Unknown i = hope.Unknown

-- what is hoped of a part of a tuple
abbrev pub part_hope : Expect → ℕ → Hope
part_hope (expect.One h) i = part_of_hope h i
part_hope (expect.Each hs) i = hope_or_free (slice_get hs i)

-- what is hoped of a whole
abbrev pub whole_hope : Expect → Hope
whole_hope (expect.One h) = h
whole_hope (expect.Each hs) = hope.Free

-- ---- conditions

abbrev pub truth_of : Typed → Typed
truth_of t = a_node t.expr.place (ty.Scalar scalar.Bool) (kind.Prim prim.Truth (t.expr ∷ []))

abbrev pub condition_at : Typed → Option Scalar → Valued
condition_at t None = value_breaks rule.P14 t.expr.place
condition_at t (Some scalar.Bool) = a_typed t
condition_at t (Some s) = if has_truth s then a_typed (truth_of t) else value_breaks rule.P14 t.expr.place

abbrev pub condition_of : Option Typed → Valued
condition_of None = no_value
condition_of (Some t) = condition_at t (scalar_of t.ty)

-- P14 on a condition: a bool, a number (not 0), bytes or a text (not empty); a literal has no type there
abbrev pub condition : Place → Judged → Valued
condition p j =
    let v = value hope.Free p j in
    let c = condition_of v.typed in
    record { notes = v.notes ++ c.notes; typed = c.typed }
