-- Calls that tell of no broken rule are known, where what is called is.
use Rattle.std.proofs.Common.{ℕ, zero, suc, Bool, true, false, List, [], ◌∷◌, ◌++◌, length, Option, Some, None}
use Rattle.std.specs.Prelude.{◌==◌, nat_le, slice_get}
use Rattle.puya_base.specs.declared.source.Place.{Place}
use Rattle.puya_base.specs.declared.source.Rule.TheVariants as rule
use Rattle.awst.specs.declared.expression.Expr.{Expr}
use Rattle.awst.specs.declared.expression.ExprKind.TheVariants as kind
use Rattle.awst.specs.declared.primitive.Primitive.TheVariants as prim
use Rattle.algopy_library.specs.declared.scalar.Scalar.{Scalar}
use Rattle.algopy_library.specs.declared.scalar.Scalar.TheVariants as scalar
use Rattle.algopy_library.specs.declared.form.Form.{Form}
use Rattle.algopy_library.specs.Forms.{admitted}
use Rattle.algopy_library.specs.Operators.{has_truth}
use Rattle.source_names.specs.declared.types.SourceType.{SourceType}
use Rattle.source_names.specs.declared.types.SourceType.TheVariants as ty
use Rattle.source_names.specs.declared.signature.Parameter.{Parameter}
use Rattle.source_names.specs.declared.signature.Signature.{Signature}
use Rattle.source_names.specs.Types.{scalar_of}
use Rattle.meaning_rules.specs.declared.meaning.Hope.TheVariants as hope
use Rattle.meaning_rules.specs.declared.meaning.Lit.{Lit}
use Rattle.meaning_rules.specs.declared.meaning.Lit.TheVariants as lit
use Rattle.meaning_rules.specs.declared.meaning.Typed.{Typed}
use Rattle.meaning_rules.specs.declared.meaning.Meaning.TheVariants as meaning
use Rattle.meaning_rules.specs.declared.scope.Scope.{Scope}
use Rattle.meaning_rules.specs.Meanings.{Judged, Valued, breaks, says, node, lit_node}
use Rattle.call_rules.specs.declared.arguments.Known.{Known}
use Rattle.call_rules.specs.declared.arguments.Known.TheVariants.{Value as value_at, Literal as literal_at}
use Rattle.call_rules.specs.Calls.{Callee, a_function, a_form, a_type, from_hex, logs, ranges, no_callee, unknown_callee, Bound, expr_of, both_exprs, passes, fitted, result_when, with_fitted, counted, fits_param, fits_parameter, param_test, called, call_function, form_count, admits_scalar, form_test, form_result, call_form, logged_when, log_test, call_log, empty_of, same_lit, number_of_value, truth_when, of_value, of_known, call_type, hex_bytes, hex_data, hex_literal, call_hex, bound, Stepped, step_number, step_literal, step_of, range_from, range_to, range_parts, step_one, call_range, applied, applied_when, call}
use Rattle.typing_laws.proofs.Known.{Unbroken, IsKnownType, KnownSignature, KnownMeaning, KnownTyped, KnownJudged, KnownValued}
use Rattle.typing_laws.proofs.KnownParts.{not_unbroken, broken_says, says_then, says_both, known_breaks, either_known, literal_known, fits_known}
use Rattle.typing_laws.proofs.KnownArguments.{KnownCallee, KnownParamWhen, param_known, KnownBound}

-- ---- arguments that fit

exprs_known : (o : Option Typed) (r : Option (List Expr)) → KnownTyped o × KnownTyped r → KnownTyped (both_exprs (expr_of o) r)
exprs_known (Some t) (Some es) h = tt
exprs_known (Some t) None h = absurd h.1
exprs_known None r h = absurd h.0

fitted_known : (test : ℕ → Typed → Valued) → ((i : ℕ) (t : Typed) → KnownValued (test i t)) → (ks : List Known) → Unbroken (fitted test ks).notes → KnownTyped (fitted test ks).exprs
fitted_known test h [] u = tt
fitted_known test h (value_at i t ∷ ks) u =
    exprs_known (test i t).typed (fitted test ks).exprs
    (says_both (KnownTyped (test i t).typed) (KnownTyped (fitted test ks).exprs) (test i t).notes (fitted test ks).notes (h i t) (fitted_known test h ks) u)
fitted_known test h (literal_at i q l ∷ ks) u = absurd (not_unbroken (record { rule = rule.P14; place = q }) (fitted test ks).notes u)

result_known : (s : Scope) (p : Place) (o : Option (List Expr)) (own : List Expr → Judged) → ((es : List Expr) → KnownJudged s (own es)) → KnownTyped o → KnownJudged s (result_when p o own)
result_known s p None own h k = absurd k
result_known s p (Some es) own h k = h es

with_known : (s : Scope) (p : Place) (test : ℕ → Typed → Valued) (ks : List Known) (own : List Expr → Judged) → ((i : ℕ) (t : Typed) → KnownValued (test i t)) → ((es : List Expr) → KnownJudged s (own es))
    → KnownJudged s (with_fitted p (fitted test ks) own)
with_known s p test ks own g h =
    let f = fitted test ks in let j = result_when p f.exprs own in
    says_then (KnownTyped f.exprs) (KnownMeaning s j.meaning) f.notes j.notes (fitted_known test g ks) (result_known s p f.exprs own h)

counted_known : (s : Scope) (p : Place) (right : Bool) (j : Judged) → KnownJudged s j → KnownJudged s (counted p right j)
counted_known s p right j k = either_known s right j (breaks rule.P15 p) k (known_breaks s rule.P15 p)

fits_param_known : (o : Option SourceType) (t : Typed) → IsKnownType o → KnownValued (fits_param o t)
fits_param_known None t k = absurd k
fits_param_known (Some u) t k = fits_known u t

fits_parameter_known : (o : Option Parameter) (t : Typed) → KnownParamWhen o → KnownValued (fits_parameter o t)
fits_parameter_known None t k = broken_says ⊥ rule.P15 t.expr.place
fits_parameter_known (Some p) t k = fits_param_known p.ty t k

called_known : (s : Scope) (p : Place) (n : ℕ) (o : Option SourceType) (order : List ℕ) (es : List Expr) → IsKnownType o → KnownJudged s (called p n o order es)
called_known s p n None order es k = absurd k
called_known s p n (Some t) order es k = λ u. tt

function_call_known : (s : Scope) (p : Place) (n : ℕ) (g : Signature) (ks : List Known) → KnownSignature g → KnownJudged s (call_function p n g ks)
function_call_known s p n g ks k =
    let f = fitted (param_test g) ks in
    counted_known s p (length ks == length g.params) (with_fitted p f (called p n g.result f.order))
    (with_known s p (param_test g) ks (called p n g.result f.order) (λ i t. fits_parameter_known (slice_get g.params i) t (param_known g.params i k.0)) (λ es. called_known s p n g.result f.order es k.1))

passes_known : (b : Bool) (t : Typed) → KnownValued (passes b t)
passes_known true t u = tt
passes_known false t u = broken_says ⊥ rule.P14 t.expr.place u

form_call_known : (s : Scope) (p : Place) (f : Form) (ks : List Known) → KnownJudged s (call_form p f ks)
form_call_known s p f ks =
    counted_known s p (length ks == form_count f) (with_fitted p (fitted (form_test f) ks) (form_result p f))
    (with_known s p (form_test f) ks (form_result p f) (λ i t. passes_known (admits_scalar (admitted f i) (scalar_of t.ty)) t) (λ es u. tt))

log_call_known : (s : Scope) (p : Place) (ks : List Known) → KnownJudged s (call_log p ks)
log_call_known s p ks =
    let own : List Expr → Judged = λ es. node p ty.Nothing (kind.Prim prim.Log es) in
    counted_known s p (nat_le 1 (length ks)) (with_fitted p (fitted log_test ks) own) (with_known s p log_test ks own (λ i t. passes_known (logged_when (scalar_of t.ty)) t) (λ es u. tt))

-- ---- types as callees

empty_known : (s : Scope) (p : Place) (t : Scalar) → KnownJudged s (empty_of p t)
empty_known s p scalar.UInt64 = λ u. tt
empty_known s p scalar.Bytes = λ u. tt
empty_known s p scalar.Text = λ u. tt
empty_known s p scalar.Bool = known_breaks s rule.P15 p
empty_known s p scalar.Account = known_breaks s rule.P15 p

number_value_known : (s : Scope) (p : Place) (t : Typed) (o : Option Scalar) → KnownJudged s (number_of_value p t o)
number_value_known s p t (Some scalar.Bool) = λ u. tt
number_value_known s p t None = known_breaks s rule.P14 t.expr.place
number_value_known s p t (Some scalar.UInt64) = known_breaks s rule.P14 t.expr.place
number_value_known s p t (Some scalar.Bytes) = known_breaks s rule.P14 t.expr.place
number_value_known s p t (Some scalar.Text) = known_breaks s rule.P14 t.expr.place
number_value_known s p t (Some scalar.Account) = known_breaks s rule.P14 t.expr.place

truth_known : (s : Scope) (p : Place) (t : Typed) (o : Option Scalar) → KnownJudged s (truth_when p t o)
truth_known s p t None = known_breaks s rule.P14 t.expr.place
truth_known s p t (Some x) =
    either_known s (has_truth x) (node p (ty.Scalar scalar.Bool) (kind.Prim prim.Truth (t.expr ∷ []))) (breaks rule.P14 t.expr.place) (λ u. tt) (known_breaks s rule.P14 t.expr.place)

of_value_known : (s : Scope) (p : Place) (x : Scalar) (t : Typed) → KnownJudged s (of_value p x t)
of_value_known s p scalar.UInt64 t = number_value_known s p t (scalar_of t.ty)
of_value_known s p scalar.Bool t = truth_known s p t (scalar_of t.ty)
of_value_known s p scalar.Bytes t = known_breaks s rule.P14 t.expr.place
of_value_known s p scalar.Text t = known_breaks s rule.P14 t.expr.place
of_value_known s p scalar.Account t = known_breaks s rule.P14 t.expr.place

of_known_known : (s : Scope) (p : Place) (x : Scalar) (k : Known) → KnownJudged s (of_known p x k)
of_known_known s p x (value_at i t) = of_value_known s p x t
of_known_known s p x (literal_at i q l) = either_known s (same_lit x l) (says (meaning.Value (lit_node p l))) (breaks rule.P14 q) (λ u. tt) (known_breaks s rule.P14 q)

type_call_known : (s : Scope) (p : Place) (x : Scalar) (ks : List Known) → KnownJudged s (call_type p x ks)
type_call_known s p x [] = empty_known s p x
type_call_known s p x (k ∷ []) = of_known_known s p x k
type_call_known s p x (k ∷ m ∷ ks) = known_breaks s rule.P15 p

-- ---- `Bytes.from_hex`

hex_data_known : (s : Scope) (p q : Place) (o : Option (List ℕ)) → KnownJudged s (hex_data p q o)
hex_data_known s p q None = known_breaks s rule.P14 q
hex_data_known s p q (Some bs) = λ u. tt

hex_literal_known : (s : Scope) (p q : Place) (l : Lit) → KnownJudged s (hex_literal p q l)
hex_literal_known s p q (lit.Text b) = hex_data_known s p q (hex_bytes b)
hex_literal_known s p q (lit.Number n) = known_breaks s rule.P14 q
hex_literal_known s p q (lit.Bytes b) = known_breaks s rule.P14 q

hex_call_known : (s : Scope) (p : Place) (ks : List Known) → KnownJudged s (call_hex p ks)
hex_call_known s p [] = known_breaks s rule.P15 p
hex_call_known s p (value_at i t ∷ []) = known_breaks s rule.P14 t.expr.place
hex_call_known s p (literal_at i q l ∷ []) = hex_literal_known s p q l
hex_call_known s p (value_at i t ∷ m ∷ ks) = known_breaks s rule.P15 p
hex_call_known s p (literal_at i q l ∷ m ∷ ks) = known_breaks s rule.P15 p

-- ---- `urange`

bound_known : (k : Known) → KnownValued (bound k)
bound_known (value_at i t) = fits_known (ty.Scalar scalar.UInt64) t
bound_known (literal_at i q l) = literal_known (hope.Wants (ty.Scalar scalar.UInt64)) q l tt

abbrev KnownStep : Stepped → Type 0
KnownStep s = Unbroken s.notes → KnownTyped s.step

number_step : (q : Place) (n : ℕ) → KnownStep (step_number q n)
number_step q zero = broken_says ⊥ rule.P15 q
number_step q (suc n) = λ u. tt

literal_step : (q : Place) (l : Lit) → KnownStep (step_literal q l)
literal_step q (lit.Number n) = number_step q n
literal_step q (lit.Text b) = broken_says ⊥ rule.P15 q
literal_step q (lit.Bytes b) = broken_says ⊥ rule.P15 q

step_known : (k : Known) → KnownStep (step_of k)
step_known (value_at i t) = broken_says ⊥ rule.P15 t.expr.place
step_known (literal_at i q l) = literal_step q l

range_to_known : (s : Scope) (o : Option Typed) → KnownTyped o → KnownMeaning s (range_to o)
range_to_known s None k = absurd k
range_to_known s (Some b) k = tt

range_from_known : (s : Scope) (a b : Option Typed) (n : Option ℕ) → KnownTyped a × (KnownTyped b × KnownTyped n) → KnownMeaning s (range_from a b n)
range_from_known s (Some a) (Some b) (Some n) k = tt
range_from_known s (Some a) (Some b) None k = absurd k.1.1
range_from_known s (Some a) None n k = absurd k.1.0
range_from_known s None b n k = absurd k.0

range_parts_known : (s : Scope) (a b : Valued) (n : Stepped) → KnownValued a → KnownValued b → KnownStep n → KnownJudged s (range_parts a b n)
range_parts_known s a b n g h k u =
    range_from_known s a.typed b.typed n.step
    (says_both (KnownTyped a.typed) (KnownTyped b.typed × KnownTyped n.step) a.notes (b.notes ++ n.notes) g (says_both (KnownTyped b.typed) (KnownTyped n.step) b.notes n.notes h k) u)

range_call_known : (s : Scope) (p : Place) (ks : List Known) → KnownJudged s (call_range p ks)
range_call_known s p [] = known_breaks s rule.P15 p
range_call_known s p (b ∷ []) = λ u. range_to_known s (bound b).typed (bound_known b u)
range_call_known s p (a ∷ b ∷ []) = range_parts_known s (bound a) (bound b) step_one (bound_known a) (bound_known b) (λ u. tt)
range_call_known s p (a ∷ b ∷ n ∷ []) = range_parts_known s (bound a) (bound b) (step_of n) (bound_known a) (bound_known b) (step_known n)
range_call_known s p (a ∷ b ∷ n ∷ t ∷ ks) = known_breaks s rule.P15 p

-- ---- calls

applied_known : (s : Scope) (p : Place) (c : Callee) (ks : List Known) → KnownCallee c → KnownJudged s (applied p c ks)
applied_known s p (a_function n g) ks k = function_call_known s p n g ks k
applied_known s p (a_form f) ks k = form_call_known s p f ks
applied_known s p (a_type x) ks k = type_call_known s p x ks
applied_known s p from_hex ks k = hex_call_known s p ks
applied_known s p logs ks k = log_call_known s p ks
applied_known s p ranges ks k = range_call_known s p ks
applied_known s p no_callee ks k = known_breaks s rule.P14 p
applied_known s p unknown_callee ks k = absurd k

applied_when_known : (s : Scope) (p : Place) (c : Callee) (o : Option (List Known)) → KnownCallee c → KnownTyped o → KnownJudged s (applied_when p c o)
applied_when_known s p c None k h = absurd h
applied_when_known s p c (Some ks) k h = applied_known s p c ks k

pub call_known : (s : Scope) (p : Place) (c : Callee) (b : Bound) → KnownCallee c → KnownBound b → KnownJudged s (call p c b)
call_known s p c b k h = let j = applied_when p c b.known in says_then (KnownTyped b.known) (KnownMeaning s j.meaning) b.notes j.notes h (applied_when_known s p c b.known k)
