-- The types that annotations write are types of values, or what a function without a result gives.
use Rattle.std.proofs.Common.{◌≡◌, ℕ, Bool, true, false, List, [], ◌∷◌, map, Option, Some, None, refl, sym, ◌∙◌, ap, subst}
use Rattle.std.specs.Prelude.{if◌then◌else◌}
use Rattle.puya_base.specs.declared.source.Place.{Place}
use Rattle.py_grammar.specs.declared.type_tree.TypeTree.{TypeTree, map-TypeTree}
use Rattle.py_grammar.specs.declared.type_tree.TypeArg.{TypeArg, map-TypeArg}
use Rattle.py_grammar.specs.declared.type_tree.TypeArg.TheOpen.{TypeTree-F, TypeArg-F}
use Rattle.py_grammar.specs.declared.type_tree.TypeArg.TheFolds.{ind-TypeTree, fold-roll-TypeTree, fold-roll-TypeArg, fold-TypeArg}
use Rattle.algopy_library.specs.declared.scalar.Scalar.{Scalar}
use Rattle.algopy_library.specs.declared.scalar.Scalar.TheVariants as scalar
use Rattle.algopy_library.specs.declared.row.Row.{Row}
use Rattle.algopy_library.specs.declared.row.Row.TheVariants as row
use Rattle.source_names.specs.declared.types.SourceType.{SourceType}
use Rattle.source_names.specs.declared.types.SourceType.TheVariants as ty
use Rattle.source_names.specs.declared.named.Thing.{Thing}
use Rattle.source_names.specs.declared.named.Thing.TheVariants as thing
use Rattle.source_names.specs.declared.named.Entry.{Entry}
use Rattle.source_names.specs.Types.{T, one, nothing, tuple, plain, nothing_in, is_nothing, fits_limits}
use Rattle.source_names.specs.Things.{dotted}
use Rattle.source_names.specs.Equations.{plain-Nothing}
use Rattle.source_names.specs.Annotations.{Written, writes, no_type, row_type, thing_type, kept, of_value_when, of_value, both, Argument, a_type, a_number, Arguments, arguments, tuple_type, applied_row, applied, written_layer, argument_layer, written}
use Rattle.source_names.specs.Annotations as annotations
use Rattle.typing_laws.proofs.Good.{IsKeptType, IsResultType, EachKept}
use Rattle.typing_laws.proofs.TypeLaws.{kept_scalar, kept_tuple}

-- ---- what is written

abbrev GoodWritten : Option SourceType → Type 0
GoodWritten o = (t : SourceType) → o ≡ Some t → IsResultType t

abbrev GoodValue : Option SourceType → Type 0
GoodValue o = (t : SourceType) → o ≡ Some t → IsKeptType t

some_is : (P : SourceType → Type 0) (u t : SourceType) → P u → Some u ≡ Some t → P t
some_is P u t h e = let same : u ≡ t = cc in subst P same h

none_good : GoodWritten None
none_good t h = cc

scalar_good : (s : Scalar) → GoodWritten (Some (ty.Scalar s))
scalar_good s t h = some_is IsResultType (ty.Scalar s) t (λ e. kept_scalar s) h

row_good : (p : Place) (r : Row) → GoodWritten (row_type p r).ty
row_good p row.UInt64 = scalar_good scalar.UInt64
row_good p row.Bool = scalar_good scalar.Bool
row_good p row.Bytes = scalar_good scalar.Bytes
row_good p row.Text = scalar_good scalar.Text
row_good p row.Account = scalar_good scalar.Account
row_good p _ = none_good

thing_good : (p : Place) (t : Thing) → GoodWritten (thing_type p t).ty
thing_good p (thing.Library r) = row_good p r
thing_good p thing.Unknown = none_good
thing_good p _ = none_good

-- ---- the types of values

same_nothing : (t : T) → annotations.is_nothing t ≡ nothing_in t
same_nothing (one s) = refl
same_nothing nothing = refl
same_nothing (tuple ts) = refl

kept_good : (w : Written) (u : SourceType) → w.ty ≡ Some u → IsResultType u → (b : Bool) → annotations.is_nothing (plain u) ≡ b → GoodValue (kept w u).ty
kept_good w u e g true h = rw h (λ t k. cc)
kept_good w u e g false h = rw h (λ t k. some_is IsKeptType u t (g (sym (same_nothing (plain u)) ∙ h)) (sym e ∙ k))

value_by : (w : Written) (o : Option SourceType) → w.ty ≡ o → GoodWritten o → GoodValue (of_value_when w o).ty
value_by w None e g = λ t k. let no : None ≡ Some t = sym e ∙ k in cc
value_by w (Some u) e g = kept_good w u e (g u refl) (annotations.is_nothing (plain u)) refl

value_good : (w : Written) → GoodWritten w.ty → GoodValue (of_value w).ty
value_good w g = value_by w w.ty refl g

-- ---- what stands in brackets

abbrev GoodArgument : Argument → Type 0
GoodArgument (a_type w) = GoodWritten w.ty
GoodArgument a_number = Unit {0}

abbrev GoodArguments : List Argument → Type 0
GoodArguments [] = Unit {0}
GoodArguments (a ∷ as_) = GoodArgument a × GoodArguments as_

abbrev GoodTypes : Option (List SourceType) → Type 0
GoodTypes o = (ts : List SourceType) → o ≡ Some ts → EachKept ts

types_is : (us ts : List SourceType) → EachKept us → Some us ≡ Some ts → EachKept ts
types_is us ts h e = let same : us ≡ ts = cc in subst EachKept same h

no_parts_kept : GoodTypes (Some [])
no_parts_kept ts h = types_is [] ts tt h

both_good : (o : Option SourceType) (os : Option (List SourceType)) → GoodValue o → GoodTypes os → GoodTypes (both o os)
both_good None os g h = λ ts e. cc
both_good (Some t) None g h = λ ts e. cc
both_good (Some t) (Some us) g h = λ ts e. types_is (t ∷ us) ts (g t refl, h us refl) e

arguments_good : (as_ : List Argument) → GoodArguments as_ → GoodTypes (arguments as_).types
arguments_good [] g = no_parts_kept
arguments_good (a_type w ∷ as_) g = both_good (of_value w).ty (arguments as_).types (value_good w g.0) (arguments_good as_ g.1)
arguments_good (a_number ∷ as_) g = λ ts h. cc

tuple_when : (p : Place) (u : SourceType) (b : Bool) → IsKeptType u → GoodWritten (if b then writes p u else no_type p).ty
tuple_when p u true k = λ t h. some_is IsResultType u t (λ e. k) h
tuple_when p u false k = none_good

tuple_good : (p : Place) (o : Option (List SourceType)) → GoodTypes o → GoodWritten (tuple_type p o).ty
tuple_good p None g = none_good
tuple_good p (Some ts) g = tuple_when p (ty.Tuple ts) (fits_limits (ty.Tuple ts)) (kept_tuple ts (g ts refl))

applied_row_good : (p : Place) (r : Row) (o : Option (List SourceType)) → GoodTypes o → GoodWritten (applied_row p r o).ty
applied_row_good p row.Tuple o g = tuple_good p o g
applied_row_good p _ o g = none_good

library_good : (p : Place) (r : Row) (as_ : Arguments) → GoodTypes as_.types → (b : Bool) → GoodWritten (if b then applied_row p r as_.types else annotations.unknown p).ty
library_good p r as_ g true = applied_row_good p r as_.types g
library_good p r as_ g false = none_good

nothing_written : (p : Place) (b : Bool) → GoodWritten (if b then no_type p else annotations.unknown p).ty
nothing_written p true = none_good
nothing_written p false = none_good

applied_good : (p : Place) (t : Thing) (as_ : Arguments) → GoodTypes as_.types → GoodWritten (applied p t as_).ty
applied_good p (thing.Library r) as_ g = library_good p r as_ g as_.known
applied_good p thing.Unknown as_ g = none_good
applied_good p _ as_ g = nothing_written p as_.known

-- ---- annotations

nothing_is : is_nothing ty.Nothing ≡ true
nothing_is = ap nothing_in plain-Nothing

abbrev arg_of : List Entry → List (List ℕ) → TypeArg → Argument
arg_of es vs = fold-TypeArg Argument Written argument_layer (written_layer es vs)

abbrev GoodTree : List Entry → List (List ℕ) → TypeTree → Type 0
GoodTree es vs a = GoodWritten (written es vs a).ty

abbrev GoodArg : List Entry → List (List ℕ) → TypeArg → Type 0
GoodArg es vs a = GoodArgument (arg_of es vs a)

abbrev AnArg : List Entry → List (List ℕ) → Type 0
AnArg es vs = (a : TypeArg) × GoodArg es vs a

abbrev ATree : List Entry → List (List ℕ) → Type 0
ATree es vs = (a : TypeTree) × GoodTree es vs a

argument_layer_good : (es : List Entry) (vs : List (List ℕ)) (y : TypeArg-F (AnArg es vs) (ATree es vs)) → GoodArgument (argument_layer (map-TypeArg TypeArg TypeTree Argument Written (arg_of es vs) (written es vs) (map-TypeArg (AnArg es vs) (ATree es vs) TypeArg TypeTree (λ e. e.0) (λ e. e.0) y)))
argument_layer_good es vs (TypeArg-F.Type w) = w.1
argument_layer_good es vs (TypeArg-F.Number n) = tt

all_good : (es : List Entry) (vs : List (List ℕ)) (as_ : List (AnArg es vs)) → GoodArguments (map (arg_of es vs) (map (λ e. e.0) as_))
all_good es vs [] = tt
all_good es vs (a ∷ as_) = (a.1, all_good es vs as_)

written_layer_good : (es : List Entry) (vs : List (List ℕ)) (y : TypeTree-F (AnArg es vs) (ATree es vs)) → GoodWritten (written_layer es vs (map-TypeTree TypeArg TypeTree Argument Written (arg_of es vs) (written es vs) (map-TypeTree (AnArg es vs) (ATree es vs) TypeArg TypeTree (λ e. e.0) (λ e. e.0) y))).ty
written_layer_good es vs (TypeTree-F.None p) = λ t h. some_is IsResultType ty.Nothing t (λ e. let no : true ≡ false = sym nothing_is ∙ e in cc) h
written_layer_good es vs (TypeTree-F.Named p ws) = thing_good p (dotted es vs ws).thing
written_layer_good es vs (TypeTree-F.Of p ws as_ c) = applied_good p (dotted es vs ws).thing (arguments (map (arg_of es vs) (map (λ e. e.0) as_))) (arguments_good (map (arg_of es vs) (map (λ e. e.0) as_)) (all_good es vs as_))

tree_good : (es : List Entry) (vs : List (List ℕ)) (a : TypeTree) → GoodTree es vs a
tree_good es vs = ind-TypeTree (GoodArg es vs) (GoodTree es vs)
    (λ x y is. subst GoodArgument (sym (fold-roll-TypeArg Argument Written argument_layer (written_layer es vs) x)) (subst (λ z. GoodArgument (argument_layer (map-TypeArg TypeArg TypeTree Argument Written (arg_of es vs) (written es vs) z))) is (argument_layer_good es vs y)))
    (λ x y is. subst (λ w. GoodWritten w.ty) (sym (fold-roll-TypeTree Argument Written argument_layer (written_layer es vs) x)) (subst (λ z. GoodWritten (written_layer es vs (map-TypeTree TypeArg TypeTree Argument Written (arg_of es vs) (written es vs) z)).ty) is (written_layer_good es vs y)))

pub annotation_result : (es : List Entry) (vs : List (List ℕ)) (a : TypeTree) (t : SourceType) → (written es vs a).ty ≡ Some t → IsResultType t
annotation_result es vs a t h = tree_good es vs a t h

pub annotation_kept : (es : List Entry) (vs : List (List ℕ)) (a : TypeTree) (t : SourceType) → (of_value (written es vs a)).ty ≡ Some t → IsKeptType t
annotation_kept es vs a t h = value_good (written es vs a) (tree_good es vs a) t h
