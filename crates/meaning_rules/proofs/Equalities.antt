-- What the forms of a type are.
use Rattle.std.proofs.Common.{◌≡◌, ◌∙◌, true, false, List, map, Some, None, ap, sym}
use Rattle.algopy_library.specs.declared.scalar.Scalar.{Scalar}
use Rattle.puya_base.specs.declared.source.Place.{Place}
use Rattle.awst.specs.declared.expression.ExprKind.{ExprKind}
use Rattle.awst.specs.declared.ty.Ty.{Ty}
use Rattle.awst.specs.declared.ty.Ty.TheVariants as awst
use Rattle.source_names.specs.declared.types.SourceType.{SourceType}
use Rattle.source_names.specs.declared.types.SourceType.TheVariants as ty
use Rattle.source_names.specs.Types.{scalar_in, scalar_of, nothing_in, is_nothing, tuple_parts, typed, typed_scalar, plain, plains, same, same_type, same_scalar, one, nothing, tuple}
use Rattle.meaning_rules.specs.declared.meaning.Typed.{Typed}
use Rattle.meaning_rules.specs.Meanings.{a_node}
use Rattle.source_names.specs.Equations.{plain-Scalar, plain-Nothing, plain-Tuple, typed-Scalar, typed-Nothing, typed-Tuple, parts-Scalar, parts-Nothing, parts-Tuple}

pub scalar_of-Scalar : (t : SourceType) (s : Scalar) → t ≡ ty.Scalar s → scalar_of t ≡ Some s
scalar_of-Scalar t s h = ap scalar_of h ∙ ap scalar_in (plain-Scalar s)

pub scalar_of-Nothing : (t : SourceType) → t ≡ ty.Nothing → scalar_of t ≡ None
scalar_of-Nothing t h = ap scalar_of h ∙ ap scalar_in plain-Nothing

pub scalar_of-Tuple : (t : SourceType) (ts : List SourceType) → t ≡ ty.Tuple ts → scalar_of t ≡ None
scalar_of-Tuple t ts h = ap scalar_of h ∙ ap scalar_in (plain-Tuple ts)

pub is_nothing-Scalar : (t : SourceType) (s : Scalar) → t ≡ ty.Scalar s → is_nothing t ≡ false
is_nothing-Scalar t s h = ap is_nothing h ∙ ap nothing_in (plain-Scalar s)

pub is_nothing-Nothing : (t : SourceType) → t ≡ ty.Nothing → is_nothing t ≡ true
is_nothing-Nothing t h = ap is_nothing h ∙ ap nothing_in plain-Nothing

pub is_nothing-Tuple : (t : SourceType) (ts : List SourceType) → t ≡ ty.Tuple ts → is_nothing t ≡ false
is_nothing-Tuple t ts h = ap is_nothing h ∙ ap nothing_in (plain-Tuple ts)

pub tuple_parts-Scalar : (t : SourceType) (s : Scalar) → t ≡ ty.Scalar s → tuple_parts t ≡ None
tuple_parts-Scalar t s h = ap tuple_parts h ∙ parts-Scalar s

pub tuple_parts-Nothing : (t : SourceType) → t ≡ ty.Nothing → tuple_parts t ≡ None
tuple_parts-Nothing t h = ap tuple_parts h ∙ parts-Nothing

pub tuple_parts-Tuple : (t : SourceType) (ts us : List SourceType) → t ≡ ty.Tuple ts → us ≡ ts → tuple_parts t ≡ Some us
tuple_parts-Tuple t ts us h e = ap tuple_parts (h ∙ ap ty.Tuple (sym e)) ∙ parts-Tuple us

pub typed-of_Scalar : (t : SourceType) (s : Scalar) → t ≡ ty.Scalar s → typed t ≡ typed_scalar s
typed-of_Scalar t s h = ap typed h ∙ typed-Scalar s

pub typed-of_Nothing : (t : SourceType) → t ≡ ty.Nothing → typed t ≡ awst.Nothing
typed-of_Nothing t h = ap typed h ∙ typed-Nothing

pub typed-of_Tuple : (t : SourceType) (ts us : List SourceType) → t ≡ ty.Tuple ts → us ≡ ts → typed t ≡ awst.Tuple (map typed us)
typed-of_Tuple t ts us h e = ap typed (h ∙ ap ty.Tuple (sym e)) ∙ typed-Tuple us

-- a type beside one of one value
pub same_type-Scalar : (t : SourceType) (s u : Scalar) → t ≡ ty.Scalar s → same_type t (ty.Scalar u) ≡ same_scalar s u
same_type-Scalar t s u h = ap (λ x. same_type x (ty.Scalar u)) h ∙ ap (λ x. same x (plain (ty.Scalar u))) (plain-Scalar s) ∙ ap (same (one s)) (plain-Scalar u)

pub same_type-Nothing : (t : SourceType) (u : Scalar) → t ≡ ty.Nothing → same_type t (ty.Scalar u) ≡ false
same_type-Nothing t u h = ap (λ x. same_type x (ty.Scalar u)) h ∙ ap (λ x. same x (plain (ty.Scalar u))) plain-Nothing ∙ ap (same nothing) (plain-Scalar u)

pub same_type-Tuple : (t : SourceType) (ts : List SourceType) (u : Scalar) → t ≡ ty.Tuple ts → same_type t (ty.Scalar u) ≡ false
same_type-Tuple t ts u h = ap (λ x. same_type x (ty.Scalar u)) h ∙ ap (λ x. same x (plain (ty.Scalar u))) (plain-Tuple ts) ∙ ap (same (tuple (plains ts))) (plain-Scalar u)

abbrev of_type : Place → SourceType → Ty → ExprKind → Typed
of_type p t u k = record { ty = t; expr = record { place = p; ty = u; kind = k } }

-- a node of one value
pub a_node-Scalar : (p : Place) (s : Scalar) (u : Ty) (k : ExprKind) → u ≡ typed_scalar s → of_type p (ty.Scalar s) u k ≡ a_node p (ty.Scalar s) k
a_node-Scalar p s u k h = ap (λ z. of_type p (ty.Scalar s) z k) (h ∙ sym (typed-Scalar s))

pub ruleset alike = (same_type-Scalar, same_type-Nothing, same_type-Tuple)
