-- Subscripts and slices are good where their parts are.
use Rattle.std.proofs.Common.{◌≡◌, ◌∙◌, ℕ, Bool, true, false, List, [], ◌∷◌, ◌++◌, Option, Some, None, refl, ap, ap₂}
use Rattle.std.specs.Prelude.{◌||◌, if◌then◌else◌, slice_get}
use Rattle.puya_base.specs.declared.source.Place.{Place}
use Rattle.puya_base.specs.declared.source.Rule.TheVariants as rule
use Rattle.awst.specs.Types.{uint64, bytes}
use Rattle.awst.specs.declared.primitive.Primitive.TheVariants as prim
use Rattle.algopy_library.specs.declared.scalar.Scalar.{Scalar}
use Rattle.algopy_library.specs.declared.scalar.Scalar.TheVariants as scalar
use Rattle.source_names.specs.declared.types.SourceType.{SourceType}
use Rattle.source_names.specs.declared.types.SourceType.TheVariants as ty
use Rattle.source_names.specs.Types.{scalar_of, tuple_parts}
use Rattle.meaning_rules.specs.declared.meaning.Hope.TheVariants as hope
use Rattle.meaning_rules.specs.declared.meaning.Lit.{Lit}
use Rattle.meaning_rules.specs.declared.meaning.Lit.TheVariants as lit
use Rattle.meaning_rules.specs.declared.meaning.Typed.{Typed}
use Rattle.meaning_rules.specs.declared.operand.Operand.{Operand}
use Rattle.meaning_rules.specs.declared.operand.Operand.TheVariants.{Value as a_value, Literal as a_literal, Missing as missing}
use Rattle.meaning_rules.specs.declared.operand.End.{End}
use Rattle.meaning_rules.specs.declared.operand.End.TheVariants.{Absent as no_end, Number as an_end, Broken as broken_end}
use Rattle.meaning_rules.specs.Meanings.{Judged, Valued, Operated, unknown, breaks, fits_when, operand_of, settled}
use Rattle.meaning_rules.specs.Operations.{Ended, is_missing, a_number, based, byte_at, byte_index, tuple_item, literal_item, item_of, tuple_index, index_of, index_when, judge_index, slice_prim, sliced, is_broken, slice_of, slice_when, end_of_value, end_of_bytes, other_end, end_of, judge_slice}
use Rattle.typing_laws.proofs.Good.{World, Always, Gives, value_type, GoodOption, GoodOperand, GoodJudged, GoodOperated, GoodValued, GoodEnd, GoodEnded}
use Rattle.typing_laws.proofs.Giving.{gives_none, gives_broken, gives_then, gives_pair, gives_map}
use Rattle.typing_laws.proofs.TypeLaws.{scalar_value_is, scalar_is}
use Rattle.typing_laws.proofs.Nodes.{strict_good, item_good, scalar_kept}
use Rattle.typing_laws.proofs.Meanings.{operand_good, settled_good, settled_gives, fits_when_good, required_type}
use Rattle.typing_laws.proofs.Fitting.{gives_with, GoodValue, either_good, operation_good}

-- ---- numbers

abbrev GoodNumber : World → Option Typed → Type 0
GoodNumber w None = Unit {0}
GoodNumber w (Some t) = GoodValue w t × (value_type t.ty ≡ uint64)

number_is : (w : World) (o : Option Typed) → ((u : Typed) → o ≡ Some u → value_type u.ty ≡ value_type (ty.Scalar scalar.UInt64)) → GoodOption w o → GoodNumber w o
number_is w None f g = tt
number_is w (Some t) f g = (g, f t refl ∙ scalar_is scalar.UInt64)

a_number_good : (w : World) (o : Operand) → Gives w (GoodOperand w o) (a_number o).notes (GoodNumber w (a_number o).typed)
a_number_good w o =
    let v = settled (hope.Wants (ty.Scalar scalar.UInt64)) o in
    gives_map w (GoodOperand w o) (GoodOption w (a_number o).typed) _ _ (a_number o).notes (λ g. g) (number_is w (a_number o).typed (required_type (ty.Scalar scalar.UInt64) v))
    (gives_then w _ _ _ v.notes (fits_when (Some (ty.Scalar scalar.UInt64)) v.typed).notes (settled_gives w (hope.Wants (ty.Scalar scalar.UInt64)) o) (fits_when_good w (Some (ty.Scalar scalar.UInt64)) v.typed))

-- ---- subscripts

pub based_is_good : (w : World) (o : Operated) → GoodOperated w Always o → GoodValued w Always (based o)
based_is_good w o g = gives_then w _ _ _ o.notes (settled hope.Free o.operand).notes g (settled_good w hope.Free o)

byte_at_good : (w : World) (p : Place) (b : Typed) (o : Option Typed) → value_type b.ty ≡ bytes → GoodJudged w (GoodValue w b × GoodNumber w o) (byte_at p b o)
byte_at_good w p b None e = gives_none w _ _ (λ g. tt)
byte_at_good w p b (Some i) e =
    gives_none w _ _ (λ g. operation_good w p prim.ByteAt scalar.Bytes (b ∷ i ∷ []) (bytes ∷ uint64 ∷ []) (g.0, (g.1.0, tt)) (ap₂ (λ x y. x ∷ y ∷ []) e g.1.1) (refl, refl))

abbrev GoodBased : World → Typed → Operand → Type 0
GoodBased w b i = GoodValue w b × GoodOperand w i

byte_index_good : (w : World) (p : Place) (b : Typed) (i : Operand) → scalar_of b.ty ≡ Some scalar.Bytes → GoodJudged w (GoodBased w b i) (byte_index p b (a_number i))
byte_index_good w p b i e =
    let v = a_number i in
    gives_with w _ (GoodOperand w i) _ _ v.notes (byte_at p b v.typed).notes (λ g. g.1) (a_number_good w i)
    (gives_map w (GoodValue w b × GoodNumber w v.typed) _ _ _ _ (λ g. (g.0.0, g.1)) (λ g. g) (byte_at_good w p b v.typed (scalar_value_is b.ty scalar.Bytes e)))

tuple_item_good : (w : World) (P : Type 0) (p q : Place) (b : Typed) (ts : List SourceType) (n : ℕ) (t : Option SourceType) → tuple_parts b.ty ≡ Some ts → slice_get ts n ≡ t → GoodJudged w (GoodValue w b × P) (tuple_item p q b n t)
tuple_item_good w P p q b ts n None e h = gives_broken w _ _ rule.P14 q (λ g. tt)
tuple_item_good w P p q b ts n (Some t) e h = gives_none w _ _ (λ g. item_good w p b ts n t g.0.0 g.0.1 e h)

literal_item_good : (w : World) (P : Type 0) (p q : Place) (b : Typed) (ts : List SourceType) (l : Lit) → tuple_parts b.ty ≡ Some ts → GoodJudged w (GoodValue w b × P) (literal_item p q b ts l)
literal_item_good w P p q b ts (lit.Number n) e = tuple_item_good w P p q b ts n (slice_get ts n) e refl
literal_item_good w P p q b ts (lit.Text x) e = gives_broken w _ _ rule.P14 q (λ g. tt)
literal_item_good w P p q b ts (lit.Bytes x) e = gives_broken w _ _ rule.P14 q (λ g. tt)

item_of_good : (w : World) (p q : Place) (b : Typed) (ts : List SourceType) (i : Operand) → tuple_parts b.ty ≡ Some ts → GoodJudged w (GoodBased w b i) (item_of p q b ts i)
item_of_good w p q b ts (a_value t) e = gives_broken w _ _ rule.P14 q (λ g. tt)
item_of_good w p q b ts (a_literal r l) e = literal_item_good w _ p q b ts l e
item_of_good w p q b ts missing e = gives_none w _ _ (λ g. tt)

tuple_index_good : (w : World) (p q : Place) (b : Typed) (ts : Option (List SourceType)) (i : Operand) → tuple_parts b.ty ≡ ts → GoodJudged w (GoodBased w b i) (tuple_index p q b ts i)
tuple_index_good w p q b None i e = either_good w _ (is_missing i) unknown (breaks rule.P14 p) (gives_none w _ _ (λ g. tt)) (gives_broken w _ _ rule.P14 p (λ g. tt))
tuple_index_good w p q b (Some ts) i e = item_of_good w p q b ts i e

index_of_good : (w : World) (p q : Place) (b : Typed) (s : Option Scalar) (i : Operand) → scalar_of b.ty ≡ s → GoodJudged w (GoodBased w b i) (index_of p q b s i)
index_of_good w p q b (Some scalar.Bytes) i e = byte_index_good w p b i e
index_of_good w p q b None i e = tuple_index_good w p q b (tuple_parts b.ty) i refl
index_of_good w p q b (Some scalar.UInt64) i e = tuple_index_good w p q b (tuple_parts b.ty) i refl
index_of_good w p q b (Some scalar.Bool) i e = tuple_index_good w p q b (tuple_parts b.ty) i refl
index_of_good w p q b (Some scalar.Text) i e = tuple_index_good w p q b (tuple_parts b.ty) i refl
index_of_good w p q b (Some scalar.Account) i e = tuple_index_good w p q b (tuple_parts b.ty) i refl

index_when_good : (w : World) (p q : Place) (b : Option Typed) (i : Operand) → GoodJudged w (GoodOption w b × GoodOperand w i) (index_when p q b i)
index_when_good w p q None i = gives_none w _ _ (λ g. tt)
index_when_good w p q (Some b) i = index_of_good w p q b (scalar_of b.ty) i refl

pub index_is_good : (w : World) (p q : Place) (o : Operated) (j : Judged) → GoodOperated w Always o → GoodJudged w Always j → GoodJudged w Always (judge_index p q o j)
index_is_good w p q o j g h =
    let b = based o in let i = operand_of q j in
    gives_then w _ _ _ (b.notes ++ i.notes) (index_when p q b.typed i.operand).notes (gives_pair w _ _ _ b.notes i.notes (based_is_good w o g) (operand_good w q j h)) (index_when_good w p q b.typed i.operand)

-- ---- slices

end_value_good : (w : World) (o : Option Typed) → GoodNumber w o → GoodEnd w (end_of_value o)
end_value_good w None g = tt
end_value_good w (Some t) g = ((g.0.0.sound, g.0.0.type_is ∙ g.1), g.0.0.reads)

other_is_good : (w : World) (b : Bool) → GoodEnd w (if b then broken_end else no_end)
other_is_good w true = tt
other_is_good w false = tt

end_by : (w : World) (b : Bool) (o : Operand) → Gives w (GoodOperand w o) (if b then end_of_bytes o else other_end o).notes (GoodEnd w (if b then end_of_bytes o else other_end o).end)
end_by w true o = gives_map w (GoodOperand w o) (GoodNumber w (a_number o).typed) _ _ (a_number o).notes (λ g. g) (end_value_good w (a_number o).typed) (a_number_good w o)
end_by w false o = gives_none w _ _ (λ g. other_is_good w (is_missing o))

pub end_is_good : (w : World) (b : Bool) (o : Operated) → GoodOperated w Always o → GoodEnded w (end_of b o)
end_is_good w b o g = gives_then w _ _ _ o.notes (if b then end_of_bytes o.operand else other_end o.operand).notes g (end_by w b o.operand)

abbrev GoodSlice : World → Typed → End → End → Type 0
GoodSlice w b i j = GoodValue w b × (GoodEnd w i × GoodEnd w j)

sliced_good : (w : World) (p : Place) (b : Typed) (i j : End) → value_type b.ty ≡ bytes → GoodJudged w (GoodSlice w b i j) (sliced p b (slice_prim i j))
sliced_good w p b no_end no_end e = gives_none w _ _ (λ g. strict_good w p (ty.Scalar scalar.Bytes) prim.SliceAll (b.expr ∷ []) (g.0.0.sound, tt) (g.0.0.reads, tt) (ap (λ x. x ∷ []) (g.0.0.type_is ∙ e), scalar_is scalar.Bytes) (scalar_kept scalar.Bytes))
sliced_good w p b (an_end i) no_end e = gives_none w _ _ (λ g. strict_good w p (ty.Scalar scalar.Bytes) prim.SliceFrom (b.expr ∷ i ∷ []) (g.0.0.sound, (g.1.0.0.0, tt)) (g.0.0.reads, (g.1.0.1, tt)) (ap₂ (λ x y. x ∷ y ∷ []) (g.0.0.type_is ∙ e) g.1.0.0.1, scalar_is scalar.Bytes) (scalar_kept scalar.Bytes))
sliced_good w p b no_end (an_end j) e = gives_none w _ _ (λ g. strict_good w p (ty.Scalar scalar.Bytes) prim.SliceTo (b.expr ∷ j ∷ []) (g.0.0.sound, (g.1.1.0.0, tt)) (g.0.0.reads, (g.1.1.1, tt)) (ap₂ (λ x y. x ∷ y ∷ []) (g.0.0.type_is ∙ e) g.1.1.0.1, scalar_is scalar.Bytes) (scalar_kept scalar.Bytes))
sliced_good w p b (an_end i) (an_end j) e =
    gives_none w _ _ (λ g. strict_good w p (ty.Scalar scalar.Bytes) prim.SliceBetween (b.expr ∷ i ∷ j ∷ []) (g.0.0.sound, (g.1.0.0.0, (g.1.1.0.0, tt))) (g.0.0.reads, (g.1.0.1, (g.1.1.1, tt)))
    (ap₂ ◌∷◌ (g.0.0.type_is ∙ e) (ap₂ (λ x y. x ∷ y ∷ []) g.1.0.0.1 g.1.1.0.1), scalar_is scalar.Bytes) (scalar_kept scalar.Bytes))
sliced_good w p b broken_end no_end e = gives_none w _ _ (λ g. tt)
sliced_good w p b broken_end (an_end j) e = gives_none w _ _ (λ g. tt)
sliced_good w p b broken_end broken_end e = gives_none w _ _ (λ g. tt)
sliced_good w p b no_end broken_end e = gives_none w _ _ (λ g. tt)
sliced_good w p b (an_end i) broken_end e = gives_none w _ _ (λ g. tt)

not_sliced : (w : World) (P : Type 0) (p : Place) (i j : End) → GoodJudged w P (if is_broken i || is_broken j then unknown else breaks rule.P14 p)
not_sliced w P p i j = either_good w P (is_broken i || is_broken j) unknown (breaks rule.P14 p) (gives_none w _ _ (λ g. tt)) (gives_broken w _ _ rule.P14 p (λ g. tt))

slice_of_good : (w : World) (p : Place) (b : Typed) (s : Option Scalar) (i j : End) → scalar_of b.ty ≡ s → GoodJudged w (GoodSlice w b i j) (slice_of p b s i j)
slice_of_good w p b (Some scalar.Bytes) i j e = sliced_good w p b i j (scalar_value_is b.ty scalar.Bytes e)
slice_of_good w p b None i j e = not_sliced w _ p i j
slice_of_good w p b (Some scalar.UInt64) i j e = not_sliced w _ p i j
slice_of_good w p b (Some scalar.Bool) i j e = not_sliced w _ p i j
slice_of_good w p b (Some scalar.Text) i j e = not_sliced w _ p i j
slice_of_good w p b (Some scalar.Account) i j e = not_sliced w _ p i j

slice_when_good : (w : World) (p : Place) (b : Option Typed) (i j : End) → GoodJudged w (GoodOption w b × (GoodEnd w i × GoodEnd w j)) (slice_when p b i j)
slice_when_good w p None i j = gives_none w _ _ (λ g. tt)
slice_when_good w p (Some b) i j = slice_of_good w p b (scalar_of b.ty) i j refl

pub slice_is_good : (w : World) (p : Place) (b : Valued) (i j : Ended) → GoodValued w Always b → GoodEnded w i → GoodEnded w j → GoodJudged w Always (judge_slice p b i j)
slice_is_good w p b i j g h k =
    gives_then w _ _ _ (b.notes ++ (i.notes ++ j.notes)) (slice_when p b.typed i.end j.end).notes
    (gives_pair w _ _ _ b.notes (i.notes ++ j.notes) g (gives_pair w _ _ _ i.notes j.notes h k))
    (slice_when_good w p b.typed i.end j.end)
