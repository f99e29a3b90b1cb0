-- Operators, conditional expressions and tuples that tell of no broken rule are known.
use Rattle.std.proofs.Common.{◌≡◌, Bool, true, false, List, [], ◌∷◌, ◌++◌, Option, Some, None}
use Rattle.std.specs.Prelude.{if◌then◌else◌}
use Rattle.puya_base.specs.declared.source.Place.{Place}
use Rattle.puya_base.specs.declared.source.Rule.TheVariants as rule
use Rattle.py_grammar.specs.declared.expression.UnaryOp.{UnaryOp}
use Rattle.py_grammar.specs.declared.expression.UnaryOp.TheVariants as op
use Rattle.awst.specs.declared.primitive.Primitive.TheVariants as prim
use Rattle.awst.specs.declared.expression.ExprKind.TheVariants as kind
use Rattle.algopy_library.specs.declared.scalar.Scalar.TheVariants as scalar
use Rattle.algopy_library.specs.declared.operator.Operation.{Operation}
use Rattle.source_names.specs.declared.types.SourceType.{SourceType}
use Rattle.source_names.specs.declared.types.SourceType.TheVariants as ty
use Rattle.source_names.specs.Types.{same_type, scalar_of, fits_limits}
use Rattle.source_names.specs.Source.{Between, does, and_then, or_else, is_in}
use Rattle.meaning_rules.specs.declared.meaning.Hope.{Hope}
use Rattle.meaning_rules.specs.declared.meaning.Hope.TheVariants as hope
use Rattle.meaning_rules.specs.declared.meaning.Typed.{Typed}
use Rattle.meaning_rules.specs.declared.operand.Operand.{Operand}
use Rattle.meaning_rules.specs.declared.operand.Operand.TheVariants.{Value as a_value, Literal as a_literal, Missing as missing}
use Rattle.meaning_rules.specs.declared.scope.Scope.{Scope}
use Rattle.meaning_rules.specs.Meanings.{Judged, Valued, Operated, unknown, breaks, node, literal, operand_of, condition}
use Rattle.meaning_rules.specs.Operations.{Parts, Items, operation_at, operated, has_between, joined_by, two_values, with_left, with_right, left_literal, right_literal, two_operands, is_missing, contained, between_operands, judge_binary, one_operated, inverted_at, has_truth_at, unary_value, unary_literal, unary_operand, judge_unary, chosen_when, chosen, choose_two, beside, choose_literal, choose_first, choose_literals, choose_values, judge_choose, both, and_part, types_in, exprs_in, tuple_of, tuple_when, judge_tuple, and_item, judge_display}
use Rattle.typing_laws.proofs.Known.{Unbroken, IsHope, KnownMeaning, KnownOperand, KnownTyped, KnownJudged, KnownOperated, KnownValued}
use Rattle.typing_laws.proofs.KnownParts.{says_then, says_both, known_breaks, either_known, literal_known, operand_is_known, condition_is_known}

-- ---- operators between two values

operated_known : (s : Scope) (p : Place) (a b : Typed) (o : Option Operation) → KnownJudged s (operated p a b o)
operated_known s p a b None = known_breaks s rule.P14 p
operated_known s p a b (Some o) = λ u. tt

joined_known : (s : Scope) (p : Place) (o : Between) (a b : Typed) → KnownJudged s (joined_by p o a b)
joined_known s p (does o) a b = operated_known s p a b (operation_at o (scalar_of a.ty))
joined_known s p and_then a b = λ u. tt
joined_known s p or_else a b = λ u. tt
joined_known s p is_in a b = known_breaks s rule.P14 b.expr.place

two_values_known : (s : Scope) (p : Place) (o : Between) (a b : Typed) → KnownJudged s (two_values p o a b)
two_values_known s p o a b =
    either_known s (has_between o a.ty) (if same_type a.ty b.ty then joined_by p o a b else breaks rule.P14 b.expr.place) (breaks rule.P14 p)
    (either_known s (same_type a.ty b.ty) (joined_by p o a b) (breaks rule.P14 b.expr.place) (joined_known s p o a b) (known_breaks s rule.P14 b.expr.place))
    (known_breaks s rule.P14 p)

left_known : (s : Scope) (p : Place) (o : Between) (a : Option Typed) (b : Typed) → KnownTyped a → KnownJudged s (with_left p o a b)
left_known s p o None b k = absurd k
left_known s p o (Some a) b k = two_values_known s p o a b

right_known : (s : Scope) (p : Place) (o : Between) (a : Typed) (b : Option Typed) → KnownTyped b → KnownJudged s (with_right p o a b)
right_known s p o a None k = absurd k
right_known s p o a (Some b) k = two_values_known s p o a b

left_literal_known : (s : Scope) (p : Place) (o : Between) (v : Valued) (b : Typed) → KnownValued v → KnownJudged s (left_literal p o v b)
left_literal_known s p o v b k = let j = with_left p o v.typed b in says_then (KnownTyped v.typed) (KnownMeaning s j.meaning) v.notes j.notes k (left_known s p o v.typed b)

right_literal_known : (s : Scope) (p : Place) (o : Between) (a : Typed) (v : Valued) → KnownValued v → KnownJudged s (right_literal p o a v)
right_literal_known s p o a v k = let j = with_right p o a v.typed in says_then (KnownTyped v.typed) (KnownMeaning s j.meaning) v.notes j.notes k (right_known s p o a v.typed)

abbrev pub BothKnown : Operand → Operand → Type 0
BothKnown a b = KnownOperand a × KnownOperand b

two_operands_known : (s : Scope) (p : Place) (o : Between) (a b : Operand) → BothKnown a b → KnownJudged s (two_operands p o a b)
two_operands_known s p o (a_value a) (a_value b) k = two_values_known s p o a b
two_operands_known s p o (a_value a) (a_literal q l) k =
    either_known s (has_between o a.ty) (right_literal p o a (literal (hope.Wants a.ty) q l)) (breaks rule.P14 p)
    (right_literal_known s p o a (literal (hope.Wants a.ty) q l) (literal_known (hope.Wants a.ty) q l tt)) (known_breaks s rule.P14 p)
two_operands_known s p o (a_value a) missing k = absurd k.1
two_operands_known s p o (a_literal q l) (a_value b) k = left_literal_known s p o (literal (hope.Wants b.ty) q l) b (literal_known (hope.Wants b.ty) q l tt)
two_operands_known s p o (a_literal q l) (a_literal r m) k = known_breaks s rule.P14 q
two_operands_known s p o (a_literal q l) missing k = absurd k.1
two_operands_known s p o missing b k = absurd k.0

contained_known : (s : Scope) (q : Place) (a b : Operand) → BothKnown a b → KnownJudged s (contained q a b)
contained_known s q (a_value a) (a_value b) k = known_breaks s rule.P14 q
contained_known s q (a_value a) (a_literal r l) k = known_breaks s rule.P14 q
contained_known s q (a_value a) missing k = absurd k.1
contained_known s q (a_literal r l) (a_value b) k = known_breaks s rule.P14 q
contained_known s q (a_literal r l) (a_literal r2 m) k = known_breaks s rule.P14 q
contained_known s q (a_literal r l) missing k = absurd k.1
contained_known s q missing b k = absurd k.0

between_known : (s : Scope) (p q : Place) (o : Between) (a b : Operand) → BothKnown a b → KnownJudged s (between_operands p q o a b)
between_known s p q is_in a b k = contained_known s q a b k
between_known s p q (does o) a b k = two_operands_known s p (does o) a b k
between_known s p q and_then a b k = two_operands_known s p and_then a b k
between_known s p q or_else a b k = two_operands_known s p or_else a b k

pub binary_known : (s : Scope) (p pa pb : Place) (o : Between) (x y : Judged) → KnownJudged s x → KnownJudged s y → KnownJudged s (judge_binary p pa pb o x y)
binary_known s p pa pb o x y g h =
    let a = operand_of pa x in let b = operand_of pb y in
    let j = between_operands p pb o a.operand b.operand in
    says_then (BothKnown a.operand b.operand) (KnownMeaning s j.meaning) (a.notes ++ b.notes) j.notes
    (says_both (KnownOperand a.operand) (KnownOperand b.operand) a.notes b.notes (operand_is_known s pa x g) (operand_is_known s pb y h))
    (between_known s p pb o a.operand b.operand)

-- ---- operators on one value

one_known : (s : Scope) (p : Place) (a : Typed) (o : Option Operation) → KnownJudged s (one_operated p a o)
one_known s p a None = known_breaks s rule.P14 p
one_known s p a (Some o) = λ u. tt

unary_value_known : (s : Scope) (p : Place) (o : UnaryOp) (a : Typed) → KnownJudged s (unary_value p o a)
unary_value_known s p op.Plus a = known_breaks s rule.P14 p
unary_value_known s p op.Minus a = known_breaks s rule.P14 p
unary_value_known s p op.Invert a = one_known s p a (inverted_at (scalar_of a.ty))
unary_value_known s p op.Not a =
    either_known s (has_truth_at (scalar_of a.ty)) (node p (ty.Scalar scalar.Bool) (kind.Prim prim.Not (a.expr ∷ []))) (breaks rule.P14 p) (λ u. tt) (known_breaks s rule.P14 p)

unary_literal_known : (s : Scope) (p : Place) (o : UnaryOp) (q : Place) → KnownJudged s (unary_literal p o q)
unary_literal_known s p op.Plus q = known_breaks s rule.P14 p
unary_literal_known s p op.Minus q = known_breaks s rule.P14 p
unary_literal_known s p op.Invert q = known_breaks s rule.P14 q
unary_literal_known s p op.Not q = known_breaks s rule.P14 q

unary_operand_known : (s : Scope) (p : Place) (o : UnaryOp) (a : Operand) → KnownOperand a → KnownJudged s (unary_operand p o a)
unary_operand_known s p o (a_value a) k = unary_value_known s p o a
unary_operand_known s p o (a_literal q l) k = unary_literal_known s p o q
unary_operand_known s p o missing k = absurd k

pub unary_known : (s : Scope) (p pa : Place) (o : UnaryOp) (x : Judged) → KnownJudged s x → KnownJudged s (judge_unary p pa o x)
unary_known s p pa o x g =
    let a = operand_of pa x in let j = unary_operand p o a.operand in
    says_then (KnownOperand a.operand) (KnownMeaning s j.meaning) a.notes j.notes (operand_is_known s pa x g) (unary_operand_known s p o a.operand)

-- ---- conditional expressions

chosen_when_known : (s : Scope) (p : Place) (c : Option Typed) (a b : Typed) → KnownTyped c → KnownJudged s (chosen_when p c a b)
chosen_when_known s p None a b k = absurd k
chosen_when_known s p (Some c) a b k = λ u. tt

chosen_known : (s : Scope) (p q : Place) (c : Option Typed) (a b : Typed) → KnownTyped c → KnownJudged s (chosen p q c a b)
chosen_known s p q c a b k = either_known s (same_type a.ty b.ty) (chosen_when p c a b) (breaks rule.P14 q) (chosen_when_known s p c a b k) (known_breaks s rule.P14 q)

choose_two_known : (s : Scope) (p q : Place) (c a b : Option Typed) → KnownTyped c → KnownTyped a → KnownTyped b → KnownJudged s (choose_two p q c a b)
choose_two_known s p q c (Some a) (Some b) k g h = chosen_known s p q c a b k
choose_two_known s p q c (Some a) None k g h = absurd h
choose_two_known s p q c None b k g h = absurd g

beside_hope : (h : Hope) (t : SourceType) → IsHope h → IsHope (beside h t)
beside_hope (hope.Wants u) t k = tt
beside_hope hope.Free t k = tt
beside_hope hope.Unknown t k = absurd k

choose_literal_known : (s : Scope) (p q : Place) (c : Option Typed) (a : Typed) (v : Valued) → KnownTyped c → KnownValued v → KnownJudged s (choose_literal p q c a v)
choose_literal_known s p q c a v k h =
    let j = choose_two p q c (Some a) v.typed in says_then (KnownTyped v.typed) (KnownMeaning s j.meaning) v.notes j.notes h (choose_two_known s p q c (Some a) v.typed k tt)

choose_first_known : (s : Scope) (p q : Place) (c : Option Typed) (v : Valued) (b : Typed) → KnownTyped c → KnownValued v → KnownJudged s (choose_first p q c v b)
choose_first_known s p q c v b k h =
    let j = choose_two p q c v.typed (Some b) in says_then (KnownTyped v.typed) (KnownMeaning s j.meaning) v.notes j.notes h (λ g. choose_two_known s p q c v.typed (Some b) k g tt)

choose_literals_known : (s : Scope) (p q : Place) (c : Option Typed) (v w : Valued) → KnownTyped c → KnownValued v → KnownValued w → KnownJudged s (choose_literals p q c v w)
choose_literals_known s p q c v w k g h =
    let j = choose_two p q c v.typed w.typed in
    says_then (KnownTyped v.typed × KnownTyped w.typed) (KnownMeaning s j.meaning) (v.notes ++ w.notes) j.notes
    (says_both (KnownTyped v.typed) (KnownTyped w.typed) v.notes w.notes g h) (λ m. choose_two_known s p q c v.typed w.typed k m.0 m.1)

choose_values_known : (s : Scope) (p pb : Place) (h : Hope) (c : Option Typed) (a b : Operand) → IsHope h → KnownTyped c → KnownOperand a → KnownOperand b → KnownJudged s (choose_values p pb h c a b)
choose_values_known s p pb h c (a_value a) (a_value b) i k g m = chosen_known s p pb c a b k
choose_values_known s p pb h c (a_value a) (a_literal q l) i k g m =
    choose_literal_known s p q c a (literal (beside h a.ty) q l) k (literal_known (beside h a.ty) q l (beside_hope h a.ty i))
choose_values_known s p pb h c (a_literal q l) (a_value b) i k g m =
    choose_first_known s p q c (literal (beside h b.ty) q l) b k (literal_known (beside h b.ty) q l (beside_hope h b.ty i))
choose_values_known s p pb h c (a_literal q l) (a_literal r n) i k g m = choose_literals_known s p r c (literal h q l) (literal h r n) k (literal_known h q l i) (literal_known h r n i)
choose_values_known s p pb h c (a_value a) missing i k g m = absurd m
choose_values_known s p pb h c (a_literal q l) missing i k g m = absurd m
choose_values_known s p pb h c missing b i k g m = absurd g

pub choose_known : (s : Scope) (p pa pc pb : Place) (h : Hope) (x z y : Judged) → IsHope h → KnownJudged s x → KnownJudged s z → KnownJudged s y → KnownJudged s (judge_choose p pa pc pb h x z y)
choose_known s p pa pc pb h x z y i g k m =
    let c = condition pc z in let a = operand_of pa x in let b = operand_of pb y in
    let j = choose_values p pb h c.typed a.operand b.operand in
    says_then (KnownOperand a.operand × (KnownTyped c.typed × KnownOperand b.operand)) (KnownMeaning s j.meaning) (a.notes ++ (c.notes ++ b.notes)) j.notes
    (says_both (KnownOperand a.operand) (KnownTyped c.typed × KnownOperand b.operand) a.notes (c.notes ++ b.notes) (operand_is_known s pa x g)
    (says_both (KnownTyped c.typed) (KnownOperand b.operand) c.notes b.notes (condition_is_known s pc z k) (operand_is_known s pb y m)))
    (λ n. choose_values_known s p pb h c.typed a.operand b.operand i n.1.0 n.0 n.1.1)

-- ---- tuples and lists

abbrev pub KnownTupleParts : Parts → Type 0
KnownTupleParts r = Unbroken r.notes → KnownTyped r.typed

both_known : (o : Option Typed) (r : Option (List Typed)) → KnownTyped o × KnownTyped r → KnownTyped (both o r)
both_known (Some t) (Some ts) k = tt
both_known (Some t) None k = absurd k.1
both_known None r k = absurd k.0

pub and_part_known : (v : Valued) (r : Parts) → KnownValued v → KnownTupleParts r → KnownTupleParts (and_part v r)
and_part_known v r g h u = both_known v.typed r.typed (says_both (KnownTyped v.typed) (KnownTyped r.typed) v.notes r.notes g h u)

tuple_of_known : (s : Scope) (p : Place) (ts : List Typed) → KnownJudged s (tuple_of p ts)
tuple_of_known s p [] = known_breaks s rule.P13 p
tuple_of_known s p (t ∷ ts) =
    either_known s (fits_limits (ty.Tuple (types_in (t ∷ ts)))) (node p (ty.Tuple (types_in (t ∷ ts))) (kind.Tuple (exprs_in (t ∷ ts)))) (breaks rule.P13 p) (λ u. tt) (known_breaks s rule.P13 p)

tuple_when_known : (s : Scope) (p : Place) (o : Option (List Typed)) → KnownTyped o → KnownJudged s (tuple_when p o)
tuple_when_known s p None k = absurd k
tuple_when_known s p (Some ts) k = tuple_of_known s p ts

pub tuple_known : (s : Scope) (p : Place) (r : Parts) → KnownTupleParts r → KnownJudged s (judge_tuple p r)
tuple_known s p r k = let j = tuple_when p r.typed in says_then (KnownTyped r.typed) (KnownMeaning s j.meaning) r.notes j.notes k (tuple_when_known s p r.typed)

abbrev pub KnownItems : Items → Type 0
KnownItems r = Unbroken r.notes → r.known ≡ true

item_by : (o : Operand) (b : Bool) → KnownOperand o → b ≡ true → (if is_missing o then false else b) ≡ true
item_by (a_value t) b k e = e
item_by (a_literal q l) b k e = e
item_by missing b k e = absurd k

pub and_item_known : (o : Operated) (r : Items) → KnownOperated o → KnownItems r → KnownItems (and_item o r)
and_item_known o r g h u = let m = says_both (KnownOperand o.operand) (r.known ≡ true) o.notes r.notes g h u in item_by o.operand r.known m.0 m.1

display_when_known : (s : Scope) (p : Place) (b : Bool) → b ≡ true → KnownJudged s (if b then breaks rule.P14 p else unknown)
display_when_known s p true e = known_breaks s rule.P14 p
display_when_known s p false e = cc

pub display_known : (s : Scope) (p : Place) (r : Items) → KnownItems r → KnownJudged s (judge_display p r)
display_known s p r k =
    let j = if r.known then breaks rule.P14 p else unknown in says_then (r.known ≡ true) (KnownMeaning s j.meaning) r.notes j.notes k (display_when_known s p r.known)
