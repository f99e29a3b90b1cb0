-- What the types of the language have: each operator and member fits the types of its parts.
use Rattle.std.proofs.Common.{◌≡◌, ℕ, Bool, true, false, List, [], ◌∷◌, ◌++◌, Option, Some, None, refl, sym, subst}
use Rattle.std.specs.Prelude.{IsTrue, if◌then◌else◌, bytes_eq, codes}
use Rattle.puya_base.specs.declared.source.Place.{Place}
use Rattle.awst.specs.declared.primitive.Primitive.{Primitive}
use Rattle.awst.specs.declared.primitive.Primitive.TheVariants as prim
use Rattle.awst.specs.declared.expression.ExprKind.TheVariants as kind
use Rattle.awst.specs.Types.{ValueType}
use Rattle.awst.specs.Shapes.{Fits, shape_of, is_compared, is_joined}
use Rattle.algopy_library.specs.declared.scalar.Scalar.{Scalar}
use Rattle.algopy_library.specs.declared.scalar.Scalar.TheVariants as scalar
use Rattle.algopy_library.specs.declared.operator.Operator.{Operator}
use Rattle.algopy_library.specs.declared.operator.Operator.TheVariants as op
use Rattle.algopy_library.specs.declared.operator.Operation.{Operation}
use Rattle.algopy_library.specs.Operators.{gives, equality, joining, arithmetic, between, inverted, value_member}
use Rattle.path_rules.specs.declared.note.Note.{Note}
use Rattle.source_names.specs.declared.types.SourceType.TheVariants as ty
use Rattle.meaning_rules.specs.declared.meaning.Typed.{Typed}
use Rattle.meaning_rules.specs.Meanings.{Judged, a_node}
use Rattle.meaning_rules.specs.Operations.{exprs_in}
use Rattle.typing_laws.proofs.Good.{World, value_type, IsKeptType, GoodJudged, IsReading, IsAllowed, Gives, GoodTyped, GoodTypeds}
use Rattle.typing_laws.proofs.Giving.{each_append, each_front, each_behind}
use Rattle.typing_laws.proofs.TypeLaws.{scalar_type, scalar_is}
use Rattle.typing_laws.proofs.Nodes.{part_types, prim_good, scalar_kept}

-- what notes give stands beside what was there
pub gives_with : (w : World) (P Q R S : Type 0) (a b : List Note) → (P → Q) → Gives w Q a R → Gives w (P × R) b S → Gives w P (a ++ b) S
gives_with w P Q R S a b f g h = record {
  reading = each_append IsReading a b g.reading h.reading;
  holds = λ p k. h.holds (p, g.holds (f p) (each_front (IsAllowed w.reads) a b k)) (each_behind (IsAllowed w.reads) a b k);
}

abbrev pub GoodValue : World → Typed → Type 0
GoodValue w t = GoodTyped w t × IsKeptType t.ty

-- one or the other
pub either_good : (w : World) (P : Type 0) (b : Bool) (x y : Judged) → GoodJudged w P x → GoodJudged w P y → GoodJudged w P (if b then x else y)
either_good w P true x y g h = g
either_good w P false x y g h = h

-- where it holds, this follows
pub when_good : (w : World) (P : Type 0) (b : Bool) (x y : Judged) → (b ≡ true → GoodJudged w P x) → GoodJudged w P y → GoodJudged w P (if b then x else y)
when_good w P true x y g h = g refl
when_good w P false x y g h = h

-- an operation takes parts of these types, where there is one
abbrev pub FitsWhen : List ValueType → Option Operation → Type 0
FitsWhen ts None = Unit {0}
FitsWhen ts (Some o) = Fits (shape_of o.prim) ts (scalar_type o.result)

abbrev pub twice : Scalar → List ValueType
twice s = scalar_type s ∷ scalar_type s ∷ []

compared : (s : Scalar) → IsTrue (is_compared (scalar_type s))
compared scalar.UInt64 = refl
compared scalar.Bool = refl
compared scalar.Bytes = refl
compared scalar.Text = refl
compared scalar.Account = refl

equality_fits : (o : Operator) (s : Scalar) → FitsWhen (twice s) (equality o)
equality_fits op.Equal s = (scalar_type s, refl, compared s, refl)
equality_fits op.NotEqual s = (scalar_type s, refl, compared s, refl)
equality_fits _ s = tt

joining_fits : (o : Operator) (s : Scalar) → IsTrue (is_joined (scalar_type s)) → FitsWhen (twice s) (joining o s)
joining_fits op.Add s h = (scalar_type s, refl, h, refl)
joining_fits op.Equal s h = equality_fits op.Equal s
joining_fits op.NotEqual s h = equality_fits op.NotEqual s
joining_fits _ s h = tt

arithmetic_fits : (o : Operator) → FitsWhen (twice scalar.UInt64) (arithmetic o)
arithmetic_fits op.Div = tt
arithmetic_fits op.Equal = equality_fits op.Equal scalar.UInt64
arithmetic_fits op.NotEqual = equality_fits op.NotEqual scalar.UInt64
arithmetic_fits _ = (refl, refl)

-- what an operator does between two values of a type
pub between_fits : (o : Operator) (s : Scalar) → FitsWhen (twice s) (between o s)
between_fits o scalar.UInt64 = arithmetic_fits o
between_fits o scalar.Bytes = joining_fits o scalar.Bytes refl
between_fits o scalar.Text = joining_fits o scalar.Text refl
between_fits o scalar.Bool = equality_fits o scalar.Bool
between_fits o scalar.Account = equality_fits o scalar.Account

pub inverted_fits : (s : Scalar) → FitsWhen (scalar_type s ∷ []) (inverted s)
inverted_fits scalar.UInt64 = (refl, refl)
inverted_fits scalar.Bool = tt
inverted_fits scalar.Bytes = tt
inverted_fits scalar.Text = tt
inverted_fits scalar.Account = tt

when_fits : (ts : List ValueType) (o : Option Operation) (b : Bool) → FitsWhen ts o → FitsWhen ts (if b then o else None)
when_fits ts o true h = h
when_fits ts o false h = tt

-- what a member of a value does
pub member_fits : (s : Scalar) (n : List ℕ) → FitsWhen (scalar_type s ∷ []) (value_member s n)
member_fits scalar.Bytes n = when_fits (scalar_type scalar.Bytes ∷ []) (gives prim.Length scalar.UInt64) (bytes_eq n (codes "length")) (refl, refl)
member_fits scalar.Text n = when_fits (scalar_type scalar.Text ∷ []) (gives prim.BytesOf scalar.Bytes) (bytes_eq n (codes "bytes")) (scalar_type scalar.Text, refl, refl, refl)
member_fits scalar.Account n = when_fits (scalar_type scalar.Account ∷ []) (gives prim.BytesOf scalar.Bytes) (bytes_eq n (codes "bytes")) (scalar_type scalar.Account, refl, refl, refl)
member_fits scalar.UInt64 n = tt
member_fits scalar.Bool n = tt

-- an operation is good where its parts are and have the types that it takes
pub operation_good : (w : World) (p : Place) (q : Primitive) (s : Scalar) (ts : List Typed) (types : List ValueType) → GoodTypeds w ts → part_types ts ≡ types → Fits (shape_of q) types (scalar_type s) → GoodTyped w (a_node p (ty.Scalar s) (kind.Prim q (exprs_in ts)))
operation_good w p q s ts types g e f =
    prim_good w p (ty.Scalar s) q ts g (subst (λ z. Fits (shape_of q) z (value_type (ty.Scalar s))) (sym e) (subst (Fits (shape_of q) types) (sym (scalar_is s)) f)) (scalar_kept s)
