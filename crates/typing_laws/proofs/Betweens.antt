-- Operators are good where their operands are.
use Rattle.std.proofs.Common.{◌≡◌, ◌∙◌, true, [], ◌∷◌, ◌++◌, Option, Some, None, refl, sym, ap, ap₂}
use Rattle.std.specs.Prelude.{IsTrue, ◌||◌, if◌then◌else◌}
use Rattle.puya_base.specs.declared.source.Place.{Place}
use Rattle.puya_base.specs.declared.source.Rule.TheVariants as rule
use Rattle.py_grammar.specs.declared.expression.UnaryOp.{UnaryOp}
use Rattle.py_grammar.specs.declared.expression.UnaryOp.TheVariants as op
use Rattle.awst.specs.Types.{bool}
use Rattle.awst.specs.Shapes as shapes
use Rattle.awst.specs.declared.primitive.Primitive.TheVariants as prim
use Rattle.awst.specs.declared.expression.ExprKind.TheVariants as kind
use Rattle.algopy_library.specs.declared.scalar.Scalar.{Scalar}
use Rattle.algopy_library.specs.declared.scalar.Scalar.TheVariants as scalar
use Rattle.algopy_library.specs.declared.operator.Operator.{Operator}
use Rattle.algopy_library.specs.declared.operator.Operation.{Operation}
use Rattle.algopy_library.specs.Operators.{between, inverted}
use Rattle.source_names.specs.declared.types.SourceType.{SourceType}
use Rattle.source_names.specs.declared.types.SourceType.TheVariants as ty
use Rattle.source_names.specs.Types.{scalar_of, same_type}
use Rattle.source_names.specs.Source.{Between, does, and_then, or_else, is_in}
use Rattle.meaning_rules.specs.declared.meaning.Hope.TheVariants as hope
use Rattle.meaning_rules.specs.declared.meaning.Lit.{Lit}
use Rattle.meaning_rules.specs.declared.meaning.Typed.{Typed}
use Rattle.meaning_rules.specs.declared.operand.Operand.{Operand}
use Rattle.meaning_rules.specs.declared.operand.Operand.TheVariants.{Value as a_value, Literal as a_literal, Missing as missing}
use Rattle.meaning_rules.specs.Meanings.{Judged, unknown, breaks, node, literal, operand_of}
use Rattle.meaning_rules.specs.Operations.{operation_at, is_bool, operated, has_between, joined_by, two_values, with_left, with_right, left_literal, right_literal, two_operands, is_missing, contained, between_operands, judge_binary, one_operated, inverted_at, has_truth_at, negated, unary_value, unary_literal, unary_operand, judge_unary}
use Rattle.typing_laws.proofs.Good.{World, Always, value_type, GoodLit, GoodOption, GoodOperand, GoodJudged}
use Rattle.typing_laws.proofs.Giving.{gives_none, gives_broken, gives_then, gives_pair, gives_map}
use Rattle.typing_laws.proofs.TypeLaws.{same_value, scalar_type, scalar_value_is, scalar_is}
use Rattle.typing_laws.proofs.Nodes.{prim_good, scalar_kept, and_good, or_good}
use Rattle.typing_laws.proofs.Meanings.{literal_good, operand_good}
use Rattle.typing_laws.proofs.Fitting.{gives_with, GoodValue, either_good, when_good, FitsWhen, twice, between_fits, inverted_fits, operation_good}

-- ---- operators between two values

abbrev GoodTwo : World → Typed → Typed → Type 0
GoodTwo w a b = GoodValue w a × GoodValue w b

operation_two : (w : World) (p : Place) (a b : Typed) (s : Scalar) (o : Option Operation) → scalar_of a.ty ≡ Some s → value_type a.ty ≡ value_type b.ty → FitsWhen (twice s) o → GoodJudged w (GoodTwo w a b) (operated p a b o)
operation_two w p a b s None e h f = gives_broken w _ _ rule.P14 p (λ g. tt)
operation_two w p a b s (Some o) e h f =
    let k : value_type a.ty ≡ scalar_type s = scalar_value_is a.ty s e in
    gives_none w _ _ (λ g. operation_good w p o.prim o.result (a ∷ b ∷ []) (twice s) (g.0, (g.1, tt)) (ap₂ (λ x y. x ∷ y ∷ []) k (sym h ∙ k)) f)

does_good : (w : World) (p : Place) (o : Operator) (a b : Typed) (s : Option Scalar) → scalar_of a.ty ≡ s → value_type a.ty ≡ value_type b.ty → GoodJudged w (GoodTwo w a b) (operated p a b (operation_at o s))
does_good w p o a b None e h = gives_broken w _ _ rule.P14 p (λ g. tt)
does_good w p o a b (Some s) e h = operation_two w p a b s (between o s) e h (between_fits o s)

bool_is : (t : SourceType) (s : Option Scalar) → scalar_of t ≡ s → is_bool s ≡ true → value_type t ≡ bool
bool_is t None e h = cc
bool_is t (Some scalar.Bool) e h = scalar_value_is t scalar.Bool e
bool_is t (Some scalar.UInt64) e h = cc
bool_is t (Some scalar.Bytes) e h = cc
bool_is t (Some scalar.Text) e h = cc
bool_is t (Some scalar.Account) e h = cc

joined_good : (w : World) (p : Place) (o : Between) (a b : Typed) → has_between o a.ty ≡ true → value_type a.ty ≡ value_type b.ty → GoodJudged w (GoodTwo w a b) (joined_by p o a b)
joined_good w p (does o) a b h e = does_good w p o a b (scalar_of a.ty) refl e
joined_good w p and_then a b h e = let k = bool_is a.ty (scalar_of a.ty) refl h in gives_none w _ _ (λ g. and_good w p a b g.0.0 g.1.0 k (sym e ∙ k))
joined_good w p or_else a b h e = let k = bool_is a.ty (scalar_of a.ty) refl h in gives_none w _ _ (λ g. or_good w p a b g.0.0 g.1.0 k (sym e ∙ k))
joined_good w p is_in a b h e = gives_broken w _ _ rule.P14 b.expr.place (λ g. tt)

two_values_good : (w : World) (p : Place) (o : Between) (a b : Typed) → GoodJudged w (GoodTwo w a b) (two_values p o a b)
two_values_good w p o a b =
    when_good w _ (has_between o a.ty) (if same_type a.ty b.ty then joined_by p o a b else breaks rule.P14 b.expr.place) (breaks rule.P14 p)
    (λ h. when_good w _ (same_type a.ty b.ty) (joined_by p o a b) (breaks rule.P14 b.expr.place) (λ e. joined_good w p o a b h (same_value a.ty b.ty e)) (gives_broken w _ _ rule.P14 b.expr.place (λ g. tt)))
    (gives_broken w _ _ rule.P14 p (λ g. tt))

left_good : (w : World) (p : Place) (o : Between) (a : Option Typed) (b : Typed) → GoodJudged w (GoodValue w b × GoodOption w a) (with_left p o a b)
left_good w p o None b = gives_none w _ _ (λ g. tt)
left_good w p o (Some a) b = gives_map w _ _ _ _ _ (λ g. (g.1, g.0)) (λ g. g) (two_values_good w p o a b)

right_good : (w : World) (p : Place) (o : Between) (a : Typed) (b : Option Typed) → GoodJudged w (GoodValue w a × GoodOption w b) (with_right p o a b)
right_good w p o a None = gives_none w _ _ (λ g. tt)
right_good w p o a (Some b) = two_values_good w p o a b

left_literal_good : (w : World) (p : Place) (o : Between) (q : Place) (l : Lit) (b : Typed) → GoodJudged w (GoodLit l × GoodValue w b) (left_literal p o (literal (hope.Wants b.ty) q l) b)
left_literal_good w p o q l b =
    let v = literal (hope.Wants b.ty) q l in
    gives_with w _ (GoodLit l) _ _ v.notes (with_left p o v.typed b).notes (λ g. g.0) (literal_good w (hope.Wants b.ty) q l)
    (gives_map w (GoodValue w b × GoodOption w v.typed) _ _ _ _ (λ g. (g.0.1, g.1)) (λ g. g) (left_good w p o v.typed b))

right_literal_good : (w : World) (p : Place) (o : Between) (a : Typed) (q : Place) (l : Lit) → GoodJudged w (GoodValue w a × GoodLit l) (right_literal p o a (literal (hope.Wants a.ty) q l))
right_literal_good w p o a q l =
    let v = literal (hope.Wants a.ty) q l in
    gives_with w _ (GoodLit l) _ _ v.notes (with_right p o a v.typed).notes (λ g. g.1) (literal_good w (hope.Wants a.ty) q l)
    (gives_map w (GoodValue w a × GoodOption w v.typed) _ _ _ _ (λ g. (g.0.0, g.1)) (λ g. g) (right_good w p o a v.typed))

abbrev GoodOperands : World → Operand → Operand → Type 0
GoodOperands w a b = GoodOperand w a × GoodOperand w b

two_operands_good : (w : World) (p : Place) (o : Between) (a b : Operand) → GoodJudged w (GoodOperands w a b) (two_operands p o a b)
two_operands_good w p o (a_value a) (a_value b) = two_values_good w p o a b
two_operands_good w p o (a_value a) (a_literal q l) = when_good w _ (has_between o a.ty) (right_literal p o a (literal (hope.Wants a.ty) q l)) (breaks rule.P14 p) (λ h. right_literal_good w p o a q l) (gives_broken w _ _ rule.P14 p (λ g. tt))
two_operands_good w p o (a_value a) missing = gives_none w _ _ (λ g. tt)
two_operands_good w p o (a_literal q l) (a_value b) = left_literal_good w p o q l b
two_operands_good w p o (a_literal q l) (a_literal r k) = gives_broken w _ _ rule.P14 q (λ g. tt)
two_operands_good w p o (a_literal q l) missing = gives_none w _ _ (λ g. tt)
two_operands_good w p o missing b = gives_none w _ _ (λ g. tt)

contained_good : (w : World) (P : Type 0) (q : Place) (a b : Operand) → GoodJudged w P (contained q a b)
contained_good w P q a b = either_good w P (is_missing a || is_missing b) unknown (breaks rule.P14 q) (gives_none w _ _ (λ g. tt)) (gives_broken w _ _ rule.P14 q (λ g. tt))

between_good : (w : World) (p q : Place) (o : Between) (a b : Operand) → GoodJudged w (GoodOperands w a b) (between_operands p q o a b)
between_good w p q is_in a b = contained_good w _ q a b
between_good w p q (does o) a b = two_operands_good w p (does o) a b
between_good w p q and_then a b = two_operands_good w p and_then a b
between_good w p q or_else a b = two_operands_good w p or_else a b

pub binary_is_good : (w : World) (p pa pb : Place) (o : Between) (x y : Judged) → GoodJudged w Always x → GoodJudged w Always y → GoodJudged w Always (judge_binary p pa pb o x y)
binary_is_good w p pa pb o x y g h =
    let a = operand_of pa x in let b = operand_of pb y in
    gives_then w _ _ _ (a.notes ++ b.notes) (between_operands p pb o a.operand b.operand).notes
    (gives_pair w _ _ _ a.notes b.notes (operand_good w pa x g) (operand_good w pb y h))
    (between_good w p pb o a.operand b.operand)

-- ---- operators on one value

one_operation : (w : World) (p : Place) (a : Typed) (s : Scalar) (o : Option Operation) → scalar_of a.ty ≡ Some s → FitsWhen (scalar_type s ∷ []) o → GoodJudged w (GoodValue w a) (one_operated p a o)
one_operation w p a s None e f = gives_broken w _ _ rule.P14 p (λ g. tt)
one_operation w p a s (Some o) e f =
    gives_none w _ _ (λ g. operation_good w p o.prim o.result (a ∷ []) (scalar_type s ∷ []) (g, tt) (ap (λ z. z ∷ []) (scalar_value_is a.ty s e)) f)

inverted_good : (w : World) (p : Place) (a : Typed) (s : Option Scalar) → scalar_of a.ty ≡ s → GoodJudged w (GoodValue w a) (one_operated p a (inverted_at s))
inverted_good w p a None e = gives_broken w _ _ rule.P14 p (λ g. tt)
inverted_good w p a (Some s) e = one_operation w p a s (inverted s) e (inverted_fits s)

truth_fits : (t : SourceType) (s : Option Scalar) → scalar_of t ≡ s → has_truth_at s ≡ true → IsTrue (shapes.has_truth (value_type t))
truth_fits t None e h = cc
truth_fits t (Some scalar.UInt64) e h = rw (scalar_value_is t scalar.UInt64 e) refl
truth_fits t (Some scalar.Bool) e h = rw (scalar_value_is t scalar.Bool e) refl
truth_fits t (Some scalar.Bytes) e h = rw (scalar_value_is t scalar.Bytes e) refl
truth_fits t (Some scalar.Text) e h = rw (scalar_value_is t scalar.Text e) refl
truth_fits t (Some scalar.Account) e h = cc

negated_good : (w : World) (p : Place) (a : Typed) → GoodJudged w (GoodValue w a) (negated p a)
negated_good w p a =
    when_good w _ (has_truth_at (scalar_of a.ty)) (node p (ty.Scalar scalar.Bool) (kind.Prim prim.Not (a.expr ∷ []))) (breaks rule.P14 p)
    (λ h. gives_none w _ _ (λ g. prim_good w p (ty.Scalar scalar.Bool) prim.Not (a ∷ []) (g, tt) (value_type a.ty, refl, truth_fits a.ty (scalar_of a.ty) refl h, scalar_is scalar.Bool) (scalar_kept scalar.Bool)))
    (gives_broken w _ _ rule.P14 p (λ g. tt))

unary_value_good : (w : World) (p : Place) (o : UnaryOp) (a : Typed) → GoodJudged w (GoodValue w a) (unary_value p o a)
unary_value_good w p op.Plus a = gives_broken w _ _ rule.P14 p (λ g. tt)
unary_value_good w p op.Minus a = gives_broken w _ _ rule.P14 p (λ g. tt)
unary_value_good w p op.Invert a = inverted_good w p a (scalar_of a.ty) refl
unary_value_good w p op.Not a = negated_good w p a

unary_literal_good : (w : World) (P : Type 0) (p : Place) (o : UnaryOp) (q : Place) → GoodJudged w P (unary_literal p o q)
unary_literal_good w P p op.Plus q = gives_broken w _ _ rule.P14 p (λ g. tt)
unary_literal_good w P p op.Minus q = gives_broken w _ _ rule.P14 p (λ g. tt)
unary_literal_good w P p op.Invert q = gives_broken w _ _ rule.P14 q (λ g. tt)
unary_literal_good w P p op.Not q = gives_broken w _ _ rule.P14 q (λ g. tt)

unary_operand_good : (w : World) (p : Place) (o : UnaryOp) (a : Operand) → GoodJudged w (GoodOperand w a) (unary_operand p o a)
unary_operand_good w p o (a_value a) = unary_value_good w p o a
unary_operand_good w p o (a_literal q l) = unary_literal_good w _ p o q
unary_operand_good w p o missing = gives_none w _ _ (λ g. tt)

pub unary_is_good : (w : World) (p pa : Place) (o : UnaryOp) (x : Judged) → GoodJudged w Always x → GoodJudged w Always (judge_unary p pa o x)
unary_is_good w p pa o x g =
    let a = operand_of pa x in gives_then w _ _ _ a.notes (unary_operand p o a.operand).notes (operand_good w pa x g) (unary_operand_good w p o a.operand)
