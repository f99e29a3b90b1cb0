-- Which types of plain trees the types of the source have: those of scalars and of tuples, the same for the same type, and which are types of values.
use Rattle.std.proofs.Common.{◌≡◌, ◌∙◌, List, [], ◌∷◌, map, true, Some, refl, sym, ap, ap₂, subst}
use Rattle.std.specs.Prelude.{IsTrue}
use Rattle.std.proofs.lemmas.Bool.{and_from}
use denote.Enum.Bare.{same_true}
use borrow.Author.Rules.{rules}
use Rattle.awst.specs.declared.ty.Ty.{Ty}
use Rattle.awst.specs.declared.ty.Ty.TheVariants as awst
use Rattle.awst.specs.declared.ty.Ty.TheOpen.{Ty-F}
use Rattle.awst.specs.declared.ty.Ty.TheFolds.{fold-roll-Ty}
use Rattle.awst.specs.Types.{ValueType, uint64, bool, bytes, text, account, nothing, tuple, Types, no_types, a_type, types_of, type_of, is_kept, are_kept}
use Rattle.awst.specs.Types as types
use Rattle.awst.proofs.Equations.{type-Tuple}
use Rattle.algopy_library.specs.declared.scalar.Scalar.{Scalar}
use Rattle.algopy_library.specs.declared.scalar.Scalar.TheVariants as scalar
use Rattle.algopy_library.specs.contracts.scalar.Scalar.{the_type}
use Rattle.source_names.specs.declared.types.SourceType.{SourceType, out-SourceType, roll-SourceType}
use Rattle.source_names.specs.declared.types.SourceType.TheVariants as ty
use Rattle.source_names.specs.declared.types.SourceType.TheOpen.{SourceType-F}
use Rattle.source_names.specs.declared.types.SourceType.TheViews.{roll-out-SourceType}
use Rattle.source_names.specs.declared.types.SourceType.TheFolds.{ind-SourceType, fold-roll-SourceType, map-SourceType}
use Rattle.source_names.specs.Types.{T, Ts, one, ts_of, plain, same, sames, same_type, same_scalar, typed, typed_scalar, typed_layer, type_layer, scalar_in, scalar_of, nothing_in, parts_in, tuple_parts, is_nothing}
use Rattle.source_names.specs.Types as source
use Rattle.source_names.specs.Equations.{typed-Scalar, typed-Nothing, typed-Tuple}
use Rattle.typing_laws.proofs.Truths.{and_left, and_right}
use Rattle.typing_laws.proofs.Good.{value_type, IsKeptType, EachKept}

-- ---- types of one value

abbrev pub scalar_type : Scalar → ValueType
scalar_type scalar.UInt64 = uint64
scalar_type scalar.Bool = bool
scalar_type scalar.Bytes = bytes
scalar_type scalar.Text = text
scalar_type scalar.Account = account

type_scalar : (s : Scalar) → type_of (typed_scalar s) ≡ scalar_type s
type_scalar scalar.UInt64 = ap type_of (sym awst.rolls-UInt64) ∙ fold-roll-Ty ValueType types.type_layer Ty-F.UInt64
type_scalar scalar.Bool = ap type_of (sym awst.rolls-Bool) ∙ fold-roll-Ty ValueType types.type_layer Ty-F.Bool
type_scalar scalar.Bytes = ap type_of (sym awst.rolls-Bytes) ∙ fold-roll-Ty ValueType types.type_layer Ty-F.Bytes
type_scalar scalar.Text = ap type_of (sym awst.rolls-Text) ∙ fold-roll-Ty ValueType types.type_layer Ty-F.Text
type_scalar scalar.Account = ap type_of (sym awst.rolls-Account) ∙ fold-roll-Ty ValueType types.type_layer Ty-F.Account

pub scalar_is : (s : Scalar) → value_type (ty.Scalar s) ≡ scalar_type s
scalar_is s = ap type_of (typed-Scalar s) ∙ type_scalar s

type_nothing : type_of awst.Nothing ≡ nothing
type_nothing = ap type_of (sym awst.rolls-Nothing) ∙ fold-roll-Ty ValueType types.type_layer Ty-F.Nothing

pub value_nothing : value_type ty.Nothing ≡ nothing
value_nothing = ap type_of typed-Nothing ∙ type_nothing

-- ---- a type is what its plain form says

abbrev mutual
  value_of : T → ValueType
  value_of (one s) = scalar_type s
  value_of source.nothing = nothing
  value_of (source.tuple ts) = tuple (values_of ts)

  values_of : Ts → Types
  values_of source.no_types = no_types
  values_of (source.a_type t ts) = a_type (value_of t) (values_of ts)

abbrev IsPlain : SourceType → Type 0
IsPlain t = value_type t ≡ value_of (plain t)

plains_are : (es : List ((t : SourceType) × IsPlain t)) → types_of (map type_of (map typed (map (λ e. e.0) es))) ≡ values_of (ts_of (map plain (map (λ e. e.0) es)))
plains_are [] = refl
plains_are (e ∷ es) = ap₂ a_type e.1 (plains_are es)

layer_is : (y : SourceType-F ((t : SourceType) × IsPlain t)) → IsPlain (roll-SourceType (map-SourceType ((t : SourceType) × IsPlain t) SourceType (λ e. e.0) y))
layer_is (SourceType-F.Scalar s) =
    ap type_of (fold-roll-SourceType Ty typed_layer (SourceType-F.Scalar s)) ∙ type_scalar s ∙ ap value_of (sym (fold-roll-SourceType T type_layer (SourceType-F.Scalar s)))
layer_is SourceType-F.Nothing =
    ap type_of (fold-roll-SourceType Ty typed_layer SourceType-F.Nothing) ∙ type_nothing ∙ ap value_of (sym (fold-roll-SourceType T type_layer SourceType-F.Nothing))
layer_is (SourceType-F.Tuple es) =
    ap type_of (fold-roll-SourceType Ty typed_layer (SourceType-F.Tuple (map (λ e. e.0) es))) ∙ type-Tuple (map typed (map (λ e. e.0) es)) ∙ ap tuple (plains_are es)
    ∙ ap value_of (sym (fold-roll-SourceType T type_layer (SourceType-F.Tuple (map (λ e. e.0) es))))

plain_is : (t : SourceType) → IsPlain t
plain_is = ind-SourceType IsPlain (λ x y is. subst (λ z. IsPlain (roll-SourceType z)) is (layer_is y))

-- ---- types that are one

mutual
  same_plain : (t u : T) → same t u ≡ true → t ≡ u
  same_plain (one s) (one r) h = ap one (same_true the_type (search rules) s r h)
  same_plain (one s) source.nothing h = cc
  same_plain (one s) (source.tuple us) h = cc
  same_plain source.nothing (one r) h = cc
  same_plain source.nothing source.nothing h = refl
  same_plain source.nothing (source.tuple us) h = cc
  same_plain (source.tuple ts) (one r) h = cc
  same_plain (source.tuple ts) source.nothing h = cc
  same_plain (source.tuple ts) (source.tuple us) h = ap source.tuple (same_plains ts us h)

  same_plains : (ts us : Ts) → sames ts us ≡ true → ts ≡ us
  same_plains source.no_types source.no_types h = refl
  same_plains source.no_types (source.a_type u us) h = cc
  same_plains (source.a_type t ts) source.no_types h = cc
  same_plains (source.a_type t ts) (source.a_type u us) h =
      ap₂ source.a_type (same_plain t u (and_left (same t u) (sames ts us) h)) (same_plains ts us (and_right (same t u) (sames ts us) h))

pub same_value : (t u : SourceType) → same_type t u ≡ true → value_type t ≡ value_type u
same_value t u h = plain_is t ∙ ap value_of (same_plain (plain t) (plain u) h) ∙ sym (plain_is u)

in_scalar : (t : T) (s : Scalar) → scalar_in t ≡ Some s → t ≡ one s
in_scalar (one r) s h = cc
in_scalar source.nothing s h = cc
in_scalar (source.tuple ts) s h = cc

pub scalar_value_is : (t : SourceType) (s : Scalar) → scalar_of t ≡ Some s → value_type t ≡ scalar_type s
scalar_value_is t s h = plain_is t ∙ ap value_of (in_scalar (plain t) s h)

pub scalar_value : (t : SourceType) (s : Scalar) → scalar_of t ≡ Some s → value_type t ≡ value_type (ty.Scalar s)
scalar_value t s h = scalar_value_is t s h ∙ sym (scalar_is s)

in_nothing : (t : T) → nothing_in t ≡ true → value_of t ≡ nothing
in_nothing (one r) h = cc
in_nothing source.nothing h = refl
in_nothing (source.tuple ts) h = cc

pub nothing_value : (t : SourceType) → is_nothing t ≡ true → value_type t ≡ nothing
nothing_value t h = plain_is t ∙ in_nothing (plain t) h

-- ---- types of values

type_is_kept : (s : Scalar) → IsTrue (is_kept (scalar_type s))
type_is_kept scalar.UInt64 = refl
type_is_kept scalar.Bool = refl
type_is_kept scalar.Bytes = refl
type_is_kept scalar.Text = refl
type_is_kept scalar.Account = refl

pub kept_scalar : (s : Scalar) → IsKeptType (ty.Scalar s)
kept_scalar s = subst (λ z. IsTrue (is_kept z)) (sym (scalar_is s)) (type_is_kept s)

types_same : (ts : List SourceType) → types_of (map type_of (map typed ts)) ≡ types_of (map value_type ts)
types_same [] = refl
types_same (t ∷ ts) = ap (a_type (value_type t)) (types_same ts)

pub tuple_value : (ts : List SourceType) → value_type (ty.Tuple ts) ≡ tuple (types_of (map value_type ts))
tuple_value ts = ap type_of (typed-Tuple ts) ∙ type-Tuple (map typed ts) ∙ ap tuple (types_same ts)

in_parts : (x : SourceType-F SourceType) (ts : List SourceType) → parts_in x ≡ Some ts → x ≡ SourceType-F.Tuple ts
in_parts (SourceType-F.Scalar s) ts h = cc
in_parts SourceType-F.Nothing ts h = cc
in_parts (SourceType-F.Tuple us) ts h = cc

-- a type with parts is a tuple of them
pub parts_tuple : (t : SourceType) (ts : List SourceType) → tuple_parts t ≡ Some ts → t ≡ ty.Tuple ts
parts_tuple t ts h = sym (roll-out-SourceType t) ∙ ap roll-SourceType (in_parts (out-SourceType t) ts h) ∙ ty.rolls-Tuple ts

pub parts_value : (t : SourceType) (ts : List SourceType) → tuple_parts t ≡ Some ts → value_type t ≡ tuple (types_of (map value_type ts))
parts_value t ts h = ap value_type (parts_tuple t ts h) ∙ tuple_value ts

each_kept : (ts : List SourceType) → IsTrue (are_kept (types_of (map value_type ts))) → EachKept ts
each_kept [] h = tt
each_kept (t ∷ ts) h =
    (and_left (is_kept (value_type t)) (are_kept (types_of (map value_type ts))) h, each_kept ts (and_right (is_kept (value_type t)) (are_kept (types_of (map value_type ts))) h))

pub kept_parts : (t : SourceType) (ts : List SourceType) → tuple_parts t ≡ Some ts → IsKeptType t → EachKept ts
kept_parts t ts h k = each_kept ts (subst (λ z. IsTrue (is_kept z)) (parts_value t ts h) k)

all_kept : (ts : List SourceType) → EachKept ts → IsTrue (are_kept (types_of (map value_type ts)))
all_kept [] k = refl
all_kept (t ∷ ts) k = and_from (is_kept (value_type t)) (are_kept (types_of (map value_type ts))) k.0 (all_kept ts k.1)

pub kept_tuple : (ts : List SourceType) → EachKept ts → IsKeptType (ty.Tuple ts)
kept_tuple ts k = subst (λ z. IsTrue (is_kept z)) (sym (tuple_value ts)) (all_kept ts k)
