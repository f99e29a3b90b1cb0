-- Subscripts and slices that tell of no broken rule are known.
use Rattle.std.proofs.Common.{ℕ, Bool, true, false, List, ◌++◌, Option, Some, None}
use Rattle.std.specs.Prelude.{if◌then◌else◌, ◌||◌, slice_get}
use Rattle.puya_base.specs.declared.source.Place.{Place}
use Rattle.puya_base.specs.declared.source.Rule.TheVariants as rule
use Rattle.algopy_library.specs.declared.scalar.Scalar.{Scalar}
use Rattle.algopy_library.specs.declared.scalar.Scalar.TheVariants as scalar
use Rattle.source_names.specs.declared.types.SourceType.{SourceType}
use Rattle.source_names.specs.declared.types.SourceType.TheVariants as ty
use Rattle.source_names.specs.Types.{scalar_of, tuple_parts}
use Rattle.meaning_rules.specs.declared.meaning.Hope.TheVariants as hope
use Rattle.meaning_rules.specs.declared.meaning.Lit.{Lit}
use Rattle.meaning_rules.specs.declared.meaning.Lit.TheVariants as lit
use Rattle.meaning_rules.specs.declared.meaning.Typed.{Typed}
use Rattle.meaning_rules.specs.declared.operand.Operand.{Operand}
use Rattle.meaning_rules.specs.declared.operand.Operand.TheVariants.{Value as a_value, Literal as a_literal, Missing as missing}
use Rattle.meaning_rules.specs.declared.operand.End.{End}
use Rattle.meaning_rules.specs.declared.operand.End.TheVariants.{Absent as no_end, Number as an_end, Broken as broken_end}
use Rattle.meaning_rules.specs.declared.scope.Scope.{Scope}
use Rattle.meaning_rules.specs.Meanings.{Judged, Valued, Operated, unknown, breaks, operand_of, settled}
use Rattle.meaning_rules.specs.Operations.{Ended, a_number, index_scalar, index_hope, based, byte_at, byte_index, tuple_item, literal_item, item_of, no_index, tuple_index, index_of, index_when, judge_index, slice_prim, sliced, is_broken, slice_of, slice_when, end_of_value, end_of_bytes, other_end, end_of, absent_end, judge_slice}
use Rattle.typing_laws.proofs.Known.{Unbroken, IsHope, KnownMeaning, KnownOperand, KnownTyped, KnownJudged, KnownOperated, KnownValued}
use Rattle.typing_laws.proofs.KnownParts.{unbroken_front, says_then, says_both, known_breaks, settled_known, required_is_known, operand_is_known}

-- ---- numbers and what is hoped of them

number_known : (o : Operand) → KnownOperand o → KnownValued (a_number o)
number_known o k =
    required_is_known (ty.Scalar scalar.UInt64) (settled (hope.Wants (ty.Scalar scalar.UInt64)) o) (settled_known (hope.Wants (ty.Scalar scalar.UInt64)) o tt k)

scalar_hope : (s : Option Scalar) → IsHope (index_scalar s)
scalar_hope None = tt
scalar_hope (Some scalar.UInt64) = tt
scalar_hope (Some scalar.Bool) = tt
scalar_hope (Some scalar.Bytes) = tt
scalar_hope (Some scalar.Text) = tt
scalar_hope (Some scalar.Account) = tt

pub index_hope_is : (o : Operand) → KnownOperand o → IsHope (index_hope o)
index_hope_is (a_value t) k = scalar_hope (scalar_of t.ty)
index_hope_is (a_literal q l) k = tt
index_hope_is missing k = absurd k

pub based_known : (o : Operated) → KnownOperated o → KnownValued (based o)
based_known o k =
    let v = settled hope.Free o.operand in says_then (KnownOperand o.operand) (KnownTyped v.typed) o.notes v.notes k (settled_known hope.Free o.operand tt)

-- ---- subscripts

byte_at_known : (s : Scope) (p : Place) (b : Typed) (o : Option Typed) → KnownTyped o → KnownJudged s (byte_at p b o)
byte_at_known s p b None k = absurd k
byte_at_known s p b (Some i) k = λ u. tt

byte_index_known : (s : Scope) (p : Place) (b : Typed) (v : Valued) → KnownValued v → KnownJudged s (byte_index p b v)
byte_index_known s p b v k = let j = byte_at p b v.typed in says_then (KnownTyped v.typed) (KnownMeaning s j.meaning) v.notes j.notes k (byte_at_known s p b v.typed)

tuple_item_known : (s : Scope) (p q : Place) (b : Typed) (n : ℕ) (t : Option SourceType) → KnownJudged s (tuple_item p q b n t)
tuple_item_known s p q b n None = known_breaks s rule.P14 q
tuple_item_known s p q b n (Some t) = λ u. tt

literal_item_known : (s : Scope) (p q : Place) (b : Typed) (ts : List SourceType) (l : Lit) → KnownJudged s (literal_item p q b ts l)
literal_item_known s p q b ts (lit.Number n) = tuple_item_known s p q b n (slice_get ts n)
literal_item_known s p q b ts (lit.Text x) = known_breaks s rule.P14 q
literal_item_known s p q b ts (lit.Bytes x) = known_breaks s rule.P14 q

item_known : (s : Scope) (p q : Place) (b : Typed) (ts : List SourceType) (i : Operand) → KnownOperand i → KnownJudged s (item_of p q b ts i)
item_known s p q b ts (a_value t) k = known_breaks s rule.P14 q
item_known s p q b ts (a_literal r l) k = literal_item_known s p q b ts l
item_known s p q b ts missing k = absurd k

no_index_known : (s : Scope) (p : Place) (i : Operand) → KnownOperand i → KnownJudged s (no_index p i)
no_index_known s p (a_value t) k = known_breaks s rule.P14 p
no_index_known s p (a_literal r l) k = known_breaks s rule.P14 p
no_index_known s p missing k = absurd k

tuple_index_known : (s : Scope) (p q : Place) (b : Typed) (ts : Option (List SourceType)) (i : Operand) → KnownOperand i → KnownJudged s (tuple_index p q b ts i)
tuple_index_known s p q b None i k = no_index_known s p i k
tuple_index_known s p q b (Some ts) i k = item_known s p q b ts i k

index_of_known : (s : Scope) (p q : Place) (b : Typed) (o : Option Scalar) (i : Operand) → KnownOperand i → KnownJudged s (index_of p q b o i)
index_of_known s p q b (Some scalar.Bytes) i k = byte_index_known s p b (a_number i) (number_known i k)
index_of_known s p q b None i k = tuple_index_known s p q b (tuple_parts b.ty) i k
index_of_known s p q b (Some scalar.UInt64) i k = tuple_index_known s p q b (tuple_parts b.ty) i k
index_of_known s p q b (Some scalar.Bool) i k = tuple_index_known s p q b (tuple_parts b.ty) i k
index_of_known s p q b (Some scalar.Text) i k = tuple_index_known s p q b (tuple_parts b.ty) i k
index_of_known s p q b (Some scalar.Account) i k = tuple_index_known s p q b (tuple_parts b.ty) i k

index_when_known : (s : Scope) (p q : Place) (b : Option Typed) (i : Operand) → KnownTyped b × KnownOperand i → KnownJudged s (index_when p q b i)
index_when_known s p q None i k = absurd k.0
index_when_known s p q (Some b) i k = index_of_known s p q b (scalar_of b.ty) i k.1

-- what is indexed is known, and so is what is hoped of the index
pub index_known : (s : Scope) (p q : Place) (o : Operated) (j : Judged) → KnownOperated o → (IsHope (index_hope o.operand) → KnownJudged s j) → KnownJudged s (judge_index p q o j)
index_known s p q o j g h u =
    let b = based o in let i = operand_of q j in let x = index_when p q b.typed i.operand in
    let o_is = g (unbroken_front o.notes (settled hope.Free o.operand).notes (unbroken_front b.notes i.notes (unbroken_front (b.notes ++ i.notes) x.notes u))) in
    says_then (KnownTyped b.typed × KnownOperand i.operand) (KnownMeaning s x.meaning) (b.notes ++ i.notes) x.notes
    (says_both (KnownTyped b.typed) (KnownOperand i.operand) b.notes i.notes (based_known o g) (operand_is_known s q j (h (index_hope_is o.operand o_is))))
    (index_when_known s p q b.typed i.operand) u

-- ---- slices

abbrev pub KnownEnd : End → Type 0
KnownEnd broken_end = ⊥
KnownEnd _ = Unit {0}

abbrev pub KnownEnded : Ended → Type 0
KnownEnded e = Unbroken e.notes → KnownEnd e.end

end_value_known : (o : Option Typed) → KnownTyped o → KnownEnd (end_of_value o)
end_value_known None k = absurd k
end_value_known (Some t) k = tt

other_known : (o : Operand) → KnownOperand o → KnownEnd (other_end o).end
other_known (a_value t) k = tt
other_known (a_literal q l) k = tt
other_known missing k = absurd k

end_by : (b : Bool) (o : Operand) → KnownOperand o → KnownEnded (if b then end_of_bytes o else other_end o)
end_by true o k u = end_value_known (a_number o).typed (number_known o k u)
end_by false o k u = other_known o k

pub end_known : (b : Bool) (o : Operated) → KnownOperated o → KnownEnded (end_of b o)
end_known b o k = let e = if b then end_of_bytes o.operand else other_end o.operand in says_then (KnownOperand o.operand) (KnownEnd e.end) o.notes e.notes k (end_by b o.operand)

pub absent_known : KnownEnded absent_end
absent_known u = tt

sliced_known : (s : Scope) (p : Place) (b : Typed) (i j : End) → KnownEnd i → KnownEnd j → KnownJudged s (sliced p b (slice_prim i j))
sliced_known s p b no_end no_end g h = λ u. tt
sliced_known s p b (an_end i) no_end g h = λ u. tt
sliced_known s p b no_end (an_end j) g h = λ u. tt
sliced_known s p b (an_end i) (an_end j) g h = λ u. tt
sliced_known s p b broken_end j g h = absurd g
sliced_known s p b no_end broken_end g h = absurd h
sliced_known s p b (an_end i) broken_end g h = absurd h

not_sliced : (s : Scope) (p : Place) (i j : End) → KnownEnd i → KnownEnd j → KnownJudged s (if is_broken i || is_broken j then unknown else breaks rule.P14 p)
not_sliced s p no_end no_end g h = known_breaks s rule.P14 p
not_sliced s p (an_end i) no_end g h = known_breaks s rule.P14 p
not_sliced s p no_end (an_end j) g h = known_breaks s rule.P14 p
not_sliced s p (an_end i) (an_end j) g h = known_breaks s rule.P14 p
not_sliced s p broken_end j g h = absurd g
not_sliced s p no_end broken_end g h = absurd h
not_sliced s p (an_end i) broken_end g h = absurd h

slice_of_known : (s : Scope) (p : Place) (b : Typed) (o : Option Scalar) (i j : End) → KnownEnd i → KnownEnd j → KnownJudged s (slice_of p b o i j)
slice_of_known s p b (Some scalar.Bytes) i j g h = sliced_known s p b i j g h
slice_of_known s p b None i j g h = not_sliced s p i j g h
slice_of_known s p b (Some scalar.UInt64) i j g h = not_sliced s p i j g h
slice_of_known s p b (Some scalar.Bool) i j g h = not_sliced s p i j g h
slice_of_known s p b (Some scalar.Text) i j g h = not_sliced s p i j g h
slice_of_known s p b (Some scalar.Account) i j g h = not_sliced s p i j g h

slice_when_known : (s : Scope) (p : Place) (b : Option Typed) (i j : End) → KnownTyped b × (KnownEnd i × KnownEnd j) → KnownJudged s (slice_when p b i j)
slice_when_known s p None i j k = absurd k.0
slice_when_known s p (Some b) i j k = slice_of_known s p b (scalar_of b.ty) i j k.1.0 k.1.1

-- what is sliced is known, and so is what is hoped of the ends
pub slice_known : (s : Scope) (p : Place) (o : Operated) (i j : Ended) → KnownOperated o → (IsHope (index_hope o.operand) → KnownEnded i) → (IsHope (index_hope o.operand) → KnownEnded j)
    → KnownJudged s (judge_slice p (based o) i j)
slice_known s p o i j g h k u =
    let b = based o in let x = slice_when p b.typed i.end j.end in
    let o_is = g (unbroken_front o.notes (settled hope.Free o.operand).notes (unbroken_front b.notes (i.notes ++ j.notes) (unbroken_front (b.notes ++ (i.notes ++ j.notes)) x.notes u))) in
    let hoped = index_hope_is o.operand o_is in
    says_then (KnownTyped b.typed × (KnownEnd i.end × KnownEnd j.end)) (KnownMeaning s x.meaning) (b.notes ++ (i.notes ++ j.notes)) x.notes
    (says_both (KnownTyped b.typed) (KnownEnd i.end × KnownEnd j.end) b.notes (i.notes ++ j.notes) (based_known o g) (says_both (KnownEnd i.end) (KnownEnd j.end) i.notes j.notes (h hoped) (k hoped)))
    (slice_when_known s p b.typed i.end j.end) u
