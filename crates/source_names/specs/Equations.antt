-- The equations of the folds over source types, one for each variant.
use Rattle.std.proofs.Common.{◌≡◌, ◌∙◌, List, map, Some, None, ap, sym}
use Rattle.algopy_library.specs.declared.scalar.Scalar.{Scalar}
use Rattle.awst.specs.declared.ty.Ty.{Ty}
use Rattle.awst.specs.declared.ty.Ty.TheVariants as awst
use Rattle.source_names.specs.declared.types.SourceType.{SourceType}
use Rattle.source_names.specs.declared.types.SourceType.TheViews.{out-roll-SourceType}
use Rattle.source_names.specs.declared.types.SourceType.TheVariants.{Scalar as OneScalar, Nothing, Tuple, rolls-Scalar, rolls-Nothing, rolls-Tuple}
use Rattle.source_names.specs.declared.types.SourceType.TheOpen.{SourceType-F}
use Rattle.source_names.specs.declared.types.SourceType.TheFolds.{fold-roll-SourceType}
use Rattle.source_names.specs.Types.{T, one, nothing, tuple, plain, plains, type_layer, typed, typed_layer, typed_scalar, tuple_parts, parts_in}

pub plain-Scalar : (s : Scalar) → plain (OneScalar s) ≡ one s
plain-Scalar s = ap plain (sym (rolls-Scalar s)) ∙ fold-roll-SourceType T type_layer (SourceType-F.Scalar s)

pub plain-Nothing : plain Nothing ≡ nothing
plain-Nothing = ap plain (sym rolls-Nothing) ∙ fold-roll-SourceType T type_layer SourceType-F.Nothing

pub plain-Tuple : (ts : List SourceType) → plain (Tuple ts) ≡ tuple (plains ts)
plain-Tuple ts = ap plain (sym (rolls-Tuple ts)) ∙ fold-roll-SourceType T type_layer (SourceType-F.Tuple ts)

pub typed-Scalar : (s : Scalar) → typed (OneScalar s) ≡ typed_scalar s
typed-Scalar s = ap typed (sym (rolls-Scalar s)) ∙ fold-roll-SourceType Ty typed_layer (SourceType-F.Scalar s)

pub typed-Nothing : typed Nothing ≡ awst.Nothing
typed-Nothing = ap typed (sym rolls-Nothing) ∙ fold-roll-SourceType Ty typed_layer SourceType-F.Nothing

pub typed-Tuple : (ts : List SourceType) → typed (Tuple ts) ≡ awst.Tuple (map typed ts)
typed-Tuple ts = ap typed (sym (rolls-Tuple ts)) ∙ fold-roll-SourceType Ty typed_layer (SourceType-F.Tuple ts)

pub parts-Scalar : (s : Scalar) → tuple_parts (OneScalar s) ≡ None
parts-Scalar s = ap tuple_parts (sym (rolls-Scalar s)) ∙ ap parts_in (out-roll-SourceType (SourceType-F.Scalar s))

pub parts-Nothing : tuple_parts Nothing ≡ None
parts-Nothing = ap tuple_parts (sym rolls-Nothing) ∙ ap parts_in (out-roll-SourceType SourceType-F.Nothing)

pub parts-Tuple : (ts : List SourceType) → tuple_parts (Tuple ts) ≡ Some ts
parts-Tuple ts = ap tuple_parts (sym (rolls-Tuple ts)) ∙ ap parts_in (out-roll-SourceType (SourceType-F.Tuple ts))
