-- Forms of the library give their results for what they take: one lemma for each list of what the arguments admit.
use Rattle.std.proofs.Common.{◌≡◌, ◌∙◌, true, List, [], ◌∷◌, map, length, Option, Some, None, refl, ap, arith}
use Rattle.std.specs.Prelude.{IsTrue}
use Rattle.awst.specs.declared.primitive.Primitive.{Primitive}
use Rattle.awst.specs.Types.{ValueType, uint64, bytes, tuple, types_of}
use Rattle.awst.specs.Shapes.{Fits, takes, measures, reads_bit, two_words, four_words, shape_of, is_measured}
use Rattle.algopy_library.specs.declared.scalar.Scalar.{Scalar}
use Rattle.algopy_library.specs.declared.scalar.Scalar.TheVariants as scalar
use Rattle.algopy_library.specs.declared.form.Admits.TheVariants as admits
use Rattle.algopy_library.specs.declared.form.Form.{Form}
use Rattle.algopy_library.specs.declared.member.Member.TheVariants as member
use Rattle.algopy_library.specs.Members.{form_of}
use Rattle.source_names.specs.declared.types.SourceType.{SourceType}
use Rattle.source_names.specs.declared.types.SourceType.TheVariants as ty
use Rattle.source_names.specs.Types.{scalar_of}
use Rattle.call_rules.specs.Calls.{admits_scalar, results_type}
use Rattle.typing_laws.proofs.Good.{Admitted, GoodMember, value_type}
use Rattle.typing_laws.proofs.TypeLaws.{tuple_value, kept_scalar, kept_tuple, scalar_value_is, scalar_type, scalar_is}

-- ---- what is admitted

number_at : (t : SourceType) (o : Option Scalar) → scalar_of t ≡ o → admits_scalar admits.Number o ≡ true → value_type t ≡ uint64
number_at t (Some scalar.UInt64) e h = scalar_value_is t scalar.UInt64 e
number_at t (Some scalar.Bool) e h = cc
number_at t (Some scalar.Bytes) e h = cc
number_at t (Some scalar.Text) e h = cc
number_at t (Some scalar.Account) e h = cc
number_at t None e h = cc

a_number : (t : SourceType) → admits_scalar admits.Number (scalar_of t) ≡ true → value_type t ≡ uint64
a_number t h = number_at t (scalar_of t) refl h

bytes_at : (t : SourceType) (o : Option Scalar) → scalar_of t ≡ o → admits_scalar admits.Bytes o ≡ true → value_type t ≡ bytes
bytes_at t (Some scalar.UInt64) e h = cc
bytes_at t (Some scalar.Bool) e h = cc
bytes_at t (Some scalar.Bytes) e h = scalar_value_is t scalar.Bytes e
bytes_at t (Some scalar.Text) e h = cc
bytes_at t (Some scalar.Account) e h = cc
bytes_at t None e h = cc

some_bytes : (t : SourceType) → admits_scalar admits.Bytes (scalar_of t) ≡ true → value_type t ≡ bytes
some_bytes t h = bytes_at t (scalar_of t) refl h

either_at : (t : SourceType) (o : Option Scalar) → scalar_of t ≡ o → admits_scalar admits.Either o ≡ true → IsTrue (is_measured (value_type t))
either_at t (Some scalar.UInt64) e h = ap is_measured (scalar_value_is t scalar.UInt64 e)
either_at t (Some scalar.Bool) e h = cc
either_at t (Some scalar.Bytes) e h = ap is_measured (scalar_value_is t scalar.Bytes e)
either_at t (Some scalar.Text) e h = cc
either_at t (Some scalar.Account) e h = cc
either_at t None e h = cc

either : (t : SourceType) → admits_scalar admits.Either (scalar_of t) ≡ true → IsTrue (is_measured (value_type t))
either t h = either_at t (scalar_of t) refl h

-- ---- as many arguments

one_type : (P : List SourceType → Type 0) → ((t : SourceType) → P (t ∷ [])) → (ts : List SourceType) → length ts ≡ 1 → P ts
one_type P h [] l = absurd (omega (arith, l))
one_type P h (t ∷ []) l = h t
one_type P h (t ∷ u ∷ ts) l = absurd (omega (arith, l))

two_types : (P : List SourceType → Type 0) → ((t u : SourceType) → P (t ∷ u ∷ [])) → (ts : List SourceType) → length ts ≡ 2 → P ts
two_types P h [] l = absurd (omega (arith, l))
two_types P h (t ∷ ts) l = one_type (λ us. P (t ∷ us)) (h t) ts (omega (arith, l))

three_types : (P : List SourceType → Type 0) → ((t u v : SourceType) → P (t ∷ u ∷ v ∷ [])) → (ts : List SourceType) → length ts ≡ 3 → P ts
three_types P h [] l = absurd (omega (arith, l))
three_types P h (t ∷ ts) l = two_types (λ us. P (t ∷ us)) (h t) ts (omega (arith, l))

four_types : (P : List SourceType → Type 0) → ((t u v x : SourceType) → P (t ∷ u ∷ v ∷ x ∷ [])) → (ts : List SourceType) → length ts ≡ 4 → P ts
four_types P h [] l = absurd (omega (arith, l))
four_types P h (t ∷ ts) l = three_types (λ us. P (t ∷ us)) (h t) ts (omega (arith, l))

-- what a form gives for types that it admits
abbrev Given : Form → ValueType → List SourceType → Type 0
Given f r ts = Admitted f 0 ts → Fits (shape_of f.prim) (map value_type ts) r

same_one : (a b : ValueType) → a ≡ b → a ∷ [] ≡ b ∷ []
same_one a b h = ap (λ z. z ∷ []) h

same_more : (a b : ValueType) (as_ bs : List ValueType) → a ≡ b → as_ ≡ bs → a ∷ as_ ≡ b ∷ bs
same_more a b as_ bs h k = ap (λ z. z ∷ as_) h ∙ ap (λ z. b ∷ z) k

-- ---- one scalar as the result

pub of_number : (p : Primitive) (s : Scalar) → shape_of p ≡ takes (uint64 ∷ []) (scalar_type s) → GoodMember (member.Form (form_of p admits.Number admits.Nothing admits.Nothing admits.Nothing 1 s))
of_number p s e = (
  one_type (Given (form_of p admits.Number admits.Nothing admits.Nothing admits.Nothing 1 s) (value_type (ty.Scalar s)))
      (λ t a. rw e (same_one (value_type t) uint64 (a_number t a.0), scalar_is s)),
  λ h. kept_scalar s,
)

pub of_bytes : (p : Primitive) (s : Scalar) → shape_of p ≡ takes (bytes ∷ []) (scalar_type s) → GoodMember (member.Form (form_of p admits.Bytes admits.Nothing admits.Nothing admits.Nothing 1 s))
of_bytes p s e = (
  one_type (Given (form_of p admits.Bytes admits.Nothing admits.Nothing admits.Nothing 1 s) (value_type (ty.Scalar s)))
      (λ t a. rw e (same_one (value_type t) bytes (some_bytes t a.0), scalar_is s)),
  λ h. kept_scalar s,
)

pub of_numbers : (p : Primitive) (s : Scalar) → shape_of p ≡ takes (uint64 ∷ uint64 ∷ []) (scalar_type s) → GoodMember (member.Form (form_of p admits.Number admits.Number admits.Nothing admits.Nothing 1 s))
of_numbers p s e = (
  two_types (Given (form_of p admits.Number admits.Number admits.Nothing admits.Nothing 1 s) (value_type (ty.Scalar s)))
      (λ t u a. rw e (same_more (value_type t) uint64 (value_type u ∷ []) (uint64 ∷ []) (a_number t a.0) (same_one (value_type u) uint64 (a_number u a.1.0)), scalar_is s)),
  λ h. kept_scalar s,
)

pub of_place : (p : Primitive) (s : Scalar) → shape_of p ≡ takes (bytes ∷ uint64 ∷ []) (scalar_type s) → GoodMember (member.Form (form_of p admits.Bytes admits.Number admits.Nothing admits.Nothing 1 s))
of_place p s e = (
  two_types (Given (form_of p admits.Bytes admits.Number admits.Nothing admits.Nothing 1 s) (value_type (ty.Scalar s)))
      (λ t u a. rw e (same_more (value_type t) bytes (value_type u ∷ []) (uint64 ∷ []) (some_bytes t a.0) (same_one (value_type u) uint64 (a_number u a.1.0)), scalar_is s)),
  λ h. kept_scalar s,
)

pub of_two_bytes : (p : Primitive) (s : Scalar) → shape_of p ≡ takes (bytes ∷ bytes ∷ []) (scalar_type s) → GoodMember (member.Form (form_of p admits.Bytes admits.Bytes admits.Nothing admits.Nothing 1 s))
of_two_bytes p s e = (
  two_types (Given (form_of p admits.Bytes admits.Bytes admits.Nothing admits.Nothing 1 s) (value_type (ty.Scalar s)))
      (λ t u a. rw e (same_more (value_type t) bytes (value_type u ∷ []) (bytes ∷ []) (some_bytes t a.0) (same_one (value_type u) bytes (some_bytes u a.1.0)), scalar_is s)),
  λ h. kept_scalar s,
)

pub of_three_numbers : (p : Primitive) (s : Scalar) → shape_of p ≡ takes (uint64 ∷ uint64 ∷ uint64 ∷ []) (scalar_type s) → GoodMember (member.Form (form_of p admits.Number admits.Number admits.Number admits.Nothing 1 s))
of_three_numbers p s e = (
  three_types (Given (form_of p admits.Number admits.Number admits.Number admits.Nothing 1 s) (value_type (ty.Scalar s)))
      (λ t u v a. rw e (same_more (value_type t) uint64 (value_type u ∷ value_type v ∷ []) (uint64 ∷ uint64 ∷ []) (a_number t a.0) (same_more (value_type u) uint64 (value_type v ∷ []) (uint64 ∷ []) (a_number u a.1.0) (same_one (value_type v) uint64 (a_number v a.1.1.0))), scalar_is s)),
  λ h. kept_scalar s,
)

pub of_places : (p : Primitive) (s : Scalar) → shape_of p ≡ takes (bytes ∷ uint64 ∷ uint64 ∷ []) (scalar_type s) → GoodMember (member.Form (form_of p admits.Bytes admits.Number admits.Number admits.Nothing 1 s))
of_places p s e = (
  three_types (Given (form_of p admits.Bytes admits.Number admits.Number admits.Nothing 1 s) (value_type (ty.Scalar s)))
      (λ t u v a. rw e (same_more (value_type t) bytes (value_type u ∷ value_type v ∷ []) (uint64 ∷ uint64 ∷ []) (some_bytes t a.0) (same_more (value_type u) uint64 (value_type v ∷ []) (uint64 ∷ []) (a_number u a.1.0) (same_one (value_type v) uint64 (a_number v a.1.1.0))), scalar_is s)),
  λ h. kept_scalar s,
)

pub of_replaced : (p : Primitive) (s : Scalar) → shape_of p ≡ takes (bytes ∷ uint64 ∷ bytes ∷ []) (scalar_type s) → GoodMember (member.Form (form_of p admits.Bytes admits.Number admits.Bytes admits.Nothing 1 s))
of_replaced p s e = (
  three_types (Given (form_of p admits.Bytes admits.Number admits.Bytes admits.Nothing 1 s) (value_type (ty.Scalar s)))
      (λ t u v a. rw e (same_more (value_type t) bytes (value_type u ∷ value_type v ∷ []) (uint64 ∷ bytes ∷ []) (some_bytes t a.0) (same_more (value_type u) uint64 (value_type v ∷ []) (bytes ∷ []) (a_number u a.1.0) (same_one (value_type v) bytes (some_bytes v a.1.1.0))), scalar_is s)),
  λ h. kept_scalar s,
)

pub of_measured : (p : Primitive) → shape_of p ≡ measures → GoodMember (member.Form (form_of p admits.Either admits.Nothing admits.Nothing admits.Nothing 1 scalar.UInt64))
of_measured p e = (
  one_type (Given (form_of p admits.Either admits.Nothing admits.Nothing admits.Nothing 1 scalar.UInt64) (value_type (ty.Scalar scalar.UInt64)))
      (λ t a. rw e (value_type t, refl, either t a.0, scalar_is scalar.UInt64)),
  λ h. kept_scalar scalar.UInt64,
)

pub of_bit : (p : Primitive) → shape_of p ≡ reads_bit → GoodMember (member.Form (form_of p admits.Either admits.Number admits.Nothing admits.Nothing 1 scalar.UInt64))
of_bit p e = (
  two_types (Given (form_of p admits.Either admits.Number admits.Nothing admits.Nothing 1 scalar.UInt64) (value_type (ty.Scalar scalar.UInt64)))
      (λ t u a. rw e (value_type t, ap (λ z. value_type t ∷ z ∷ []) (a_number u a.1.0), either t a.0, scalar_is scalar.UInt64)),
  λ h. kept_scalar scalar.UInt64,
)

-- ---- several numbers as the result

two_words_is : value_type (results_type 2 scalar.UInt64) ≡ two_words
two_words_is = tuple_value (ty.Scalar scalar.UInt64 ∷ ty.Scalar scalar.UInt64 ∷ []) ∙ ap (λ z. tuple (types_of (z ∷ z ∷ []))) (scalar_is scalar.UInt64)

four_words_is : value_type (results_type 4 scalar.UInt64) ≡ four_words
four_words_is = tuple_value (ty.Scalar scalar.UInt64 ∷ ty.Scalar scalar.UInt64 ∷ ty.Scalar scalar.UInt64 ∷ ty.Scalar scalar.UInt64 ∷ []) ∙ ap (λ z. tuple (types_of (z ∷ z ∷ z ∷ z ∷ []))) (scalar_is scalar.UInt64)

pub of_numbers_two : (p : Primitive) → shape_of p ≡ takes (uint64 ∷ uint64 ∷ []) two_words → GoodMember (member.Form (form_of p admits.Number admits.Number admits.Nothing admits.Nothing 2 scalar.UInt64))
of_numbers_two p e = (
  two_types (Given (form_of p admits.Number admits.Number admits.Nothing admits.Nothing 2 scalar.UInt64) (value_type (results_type 2 scalar.UInt64)))
      (λ t u a. rw e (same_more (value_type t) uint64 (value_type u ∷ []) (uint64 ∷ []) (a_number t a.0) (same_one (value_type u) uint64 (a_number u a.1.0)), two_words_is)),
  λ h. kept_tuple (ty.Scalar scalar.UInt64 ∷ ty.Scalar scalar.UInt64 ∷ []) (kept_scalar scalar.UInt64, (kept_scalar scalar.UInt64, tt)),
)

pub of_numbers_four : (p : Primitive) → shape_of p ≡ takes (uint64 ∷ uint64 ∷ uint64 ∷ uint64 ∷ []) four_words → GoodMember (member.Form (form_of p admits.Number admits.Number admits.Number admits.Number 4 scalar.UInt64))
of_numbers_four p e = (
  four_types (Given (form_of p admits.Number admits.Number admits.Number admits.Number 4 scalar.UInt64) (value_type (results_type 4 scalar.UInt64)))
      (λ t u v x a. rw e (same_more (value_type t) uint64 (value_type u ∷ value_type v ∷ value_type x ∷ []) (uint64 ∷ uint64 ∷ uint64 ∷ []) (a_number t a.0) (same_more (value_type u) uint64 (value_type v ∷ value_type x ∷ []) (uint64 ∷ uint64 ∷ []) (a_number u a.1.0) (same_more (value_type v) uint64 (value_type x ∷ []) (uint64 ∷ []) (a_number v a.1.1.0) (same_one (value_type x) uint64 (a_number x a.1.1.1.0)))), four_words_is)),
  λ h. kept_tuple (ty.Scalar scalar.UInt64 ∷ ty.Scalar scalar.UInt64 ∷ ty.Scalar scalar.UInt64 ∷ ty.Scalar scalar.UInt64 ∷ []) (kept_scalar scalar.UInt64, (kept_scalar scalar.UInt64, (kept_scalar scalar.UInt64, (kept_scalar scalar.UInt64, tt)))),
)
