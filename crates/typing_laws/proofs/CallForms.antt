-- Calls of functions, of the library's forms and of `log` are good where their arguments are.
use Rattle.std.proofs.Common.{◌≡◌, ℕ, suc, ◌≤◌, ◌∙◌, Bool, true, false, List, [], ◌∷◌, map, length, Option, Some, None, refl, sym, ap, subst, arith, eqb-true, leb-true}
use Rattle.std.proofs.lemmas.List.Elements.{All-nil, All-cons}
use Rattle.std.proofs.lemmas.Option.{none-some, same_Some}
use Rattle.std.specs.Prelude.{◌==◌, nat_le, if◌then◌else◌, slice_get, IsTrue}
use Rattle.std.specs.List.{All}
use Rattle.puya_base.specs.declared.source.Place.{Place}
use Rattle.puya_base.specs.declared.source.Rule.TheVariants as rule
use Rattle.awst.specs.declared.expression.Expr.{Expr}
use Rattle.awst.specs.declared.expression.ExprKind.TheVariants as kind
use Rattle.awst.specs.declared.primitive.Primitive.TheVariants as prim
use Rattle.awst.specs.Types.{ValueType}
use Rattle.awst.specs.Shapes.{Fits, shape_of, is_logged, logs_all}
use Rattle.awst.specs.Plain.{trees_of}
use Rattle.awst.specs.Sound.{types_in, IsCall}
use Rattle.algopy_library.specs.declared.scalar.Scalar.{Scalar}
use Rattle.algopy_library.specs.declared.scalar.Scalar.TheVariants as scalar
use Rattle.algopy_library.specs.declared.form.Form.{Form}
use Rattle.algopy_library.specs.Forms.{admitted}
use Rattle.algopy_library.specs.Operators as library
use Rattle.source_names.specs.declared.types.SourceType.{SourceType}
use Rattle.source_names.specs.declared.types.SourceType.TheVariants as ty
use Rattle.source_names.specs.declared.signature.Parameter.{Parameter}
use Rattle.source_names.specs.declared.signature.Signature.{Signature}
use Rattle.source_names.specs.Types.{same_type, scalar_of, is_nothing, nothing_in}
use Rattle.meaning_rules.specs.declared.meaning.Typed.{Typed}
use Rattle.meaning_rules.specs.Meanings.{Judged, node, a_typed, value_breaks}
use Rattle.call_rules.specs.declared.arguments.Known.{Known}
use Rattle.call_rules.specs.declared.arguments.Known.TheVariants.{Value as value_at, Literal as literal_at}
use Rattle.call_rules.specs.Fittings.{number_of}
use Rattle.call_rules.specs.Calls.{Fitted, fitted, result_when, with_fitted, counted, passes, fits_param, fits_parameter, param_test, called, call_function, admits_scalar, form_count, form_test, results_type, form_result, call_form, logged_when, log_test, call_log}
use Rattle.source_names.specs.Equations.{plain-Nothing}
use Rattle.typing_laws.proofs.Good.{World, Gives, Reading, GoodMeaning, GoodForm, Admitted, KnowsFunction, IsResultType, value_type}
use Rattle.typing_laws.proofs.Giving.{reading_broken, gives_none, gives_broken, gives_reading, gives_then}
use Rattle.typing_laws.proofs.TypeLaws.{same_value, scalar_value_is, scalar_type, value_nothing}
use Rattle.typing_laws.proofs.Nodes.{bare-Call, node_good, strict_good}
use Rattle.typing_laws.proofs.CallParts.{GoodKnowns, Passed, Tells, fitted_passed, fitted_reading, fitted_order, known_types, passed_count, passed_parts}
use Rattle.typing_laws.proofs.Ordering.{Fresh, Counting, fresh_order}

-- ---- counts and results

pub counted_good : (w : World) (P : Type 0) (p : Place) (right : Bool) (j : Judged) → (right ≡ true → Gives w P j.notes (GoodMeaning w j.meaning)) → Gives w P (counted p right j).notes (GoodMeaning w (counted p right j).meaning)
counted_good w P p true j h = h refl
counted_good w P p false j h = gives_broken w P (Unit {0}) rule.P15 p (λ t. tt)

result_good : (w : World) (P : Type 0) (p : Place) (o : Option (List Expr)) (own : List Expr → Judged) → ((es : List Expr) → o ≡ Some es → Gives w P (own es).notes (GoodMeaning w (own es).meaning))
    → Gives w P (result_when p o own).notes (GoodMeaning w (result_when p o own).meaning)
result_good w P p None own h = gives_none w P (Unit {0}) (λ t. tt)
result_good w P p (Some es) own h = h es refl

fitted_good : (w : World) (P : Type 0) (p : Place) (f : Fitted) (own : List Expr → Judged) → Reading f.notes → ((es : List Expr) → f.exprs ≡ Some es → Gives w P (own es).notes (GoodMeaning w (own es).meaning))
    → Gives w P (with_fitted p f own).notes (GoodMeaning w (with_fitted p f own).meaning)
fitted_good w P p f own r h = gives_then w P P (GoodMeaning w (result_when p f.exprs own).meaning) f.notes (result_when p f.exprs own).notes (gives_reading w P P f.notes r (λ t. t)) (result_good w P p f.exprs own h)

-- ---- functions

abbrev Gets : List ValueType → ℕ → Typed → Type 0
Gets ps i t = slice_get ps i ≡ Some (value_type t.ty)

fits_tells : (v : SourceType) (t u : Typed) (b : Bool) → same_type t.ty v ≡ b → (if b then a_typed t else value_breaks rule.P14 t.expr.place).typed ≡ Some u → (u ≡ t) × (value_type t.ty ≡ value_type v)
fits_tells v t u true e h = (sym (same_Some t u h), same_value t.ty v e)
fits_tells v t u false e h = absurd (none-some u h)

param_tells_by : (w : World) (n : ℕ) (g : Signature) (f : KnowsFunction w.names.functions n g) (i : ℕ) (t u : Typed) (p : Parameter) (o : Option SourceType) → slice_get g.params i ≡ Some p → p.ty ≡ o
    → (fits_param o t).typed ≡ Some u → (u ≡ t) × Gets f.signature.params i t
param_tells_by w n g f i t u p None e k h = absurd (none-some u h)
param_tells_by w n g f i t u p (Some v) e k h = let r = fits_tells v t u (same_type t.ty v) refl h in (r.0, f.param i p v e k ∙ ap Some (sym r.1))

param_tells_at : (w : World) (n : ℕ) (g : Signature) (f : KnowsFunction w.names.functions n g) (i : ℕ) (t u : Typed) (o : Option Parameter) → slice_get g.params i ≡ o
    → (fits_parameter o t).typed ≡ Some u → (u ≡ t) × Gets f.signature.params i t
param_tells_at w n g f i t u None e h = absurd (none-some u h)
param_tells_at w n g f i t u (Some p) e h = param_tells_by w n g f i t u p p.ty e refl h

param_tells : (w : World) (n : ℕ) (g : Signature) (f : KnowsFunction w.names.functions n g) → Tells (param_test g) (Gets f.signature.params)
param_tells w n g f i t u h = param_tells_at w n g f i t u (slice_get g.params i) refl h

passes_reading : (b : Bool) (t : Typed) → Reading (if b then a_typed t else value_breaks rule.P14 t.expr.place).notes
passes_reading true t = tt
passes_reading false t = reading_broken rule.P14 t.expr.place

fits_reading : (o : Option SourceType) (t : Typed) → Reading (fits_param o t).notes
fits_reading None t = tt
fits_reading (Some v) t = passes_reading (same_type t.ty v) t

param_reading : (o : Option Parameter) (t : Typed) → Reading (fits_parameter o t).notes
param_reading None t = reading_broken rule.P15 t.expr.place
param_reading (Some p) t = fits_reading p.ty t

given_types : (ps : List ValueType) (ks : List Known) (es : List Expr) → Passed (Gets ps) ks es → map (slice_get ps) (map number_of ks) ≡ map Some (map value_type (known_types ks))
given_types ps [] es h = refl
given_types ps (value_at i t ∷ ks) [] h = absurd h
given_types ps (value_at i t ∷ ks) (e ∷ es) h = ap (λ z. z ∷ map (slice_get ps) (map number_of ks)) h.1 ∙ ap (λ z. Some (value_type t.ty) ∷ z) (given_types ps ks es h.2)
given_types ps (literal_at i q l ∷ ks) es h = absurd h

called_good : (w : World) (p : Place) (n : ℕ) (g : Signature) (ks : List Known) (es : List Expr) (order : List ℕ) (o : Option SourceType) → g.result ≡ o → order ≡ map number_of ks
    → length ks ≡ length g.params → Fresh [] (length g.params) ks → (fitted (param_test g) ks).exprs ≡ Some es
    → Gives w (KnowsFunction w.names.functions n g × GoodKnowns w ks) (called p n o order es).notes (GoodMeaning w (called p n o order es).meaning)
called_good w p n g ks es order None r d l f h = gives_none w _ (Unit {0}) (λ t. tt)
called_good w p n g ks es order (Some t) r d l f h = gives_none w _ _ (λ k.
    let knows = k.0 in
    let given = fitted_passed (param_test g) (Gets knows.signature.params) (param_tells w n g knows) ks es h in
    let made = passed_parts w (Gets knows.signature.params) ks es given k.1 in
    let is_call : IsCall w.names n (map number_of ks) (types_in (trees_of es)) (value_type t) = record {
      signature = knows.signature;
      exists = knows.exists;
      gives = sym (knows.result t r).0;
      all_given = fresh_order (length knows.signature.params) ks (l ∙ sym knows.count) (subst (λ m. Fresh [] m ks) (sym knows.count) f);
      types = given_types knows.signature.params ks es given ∙ sym (ap (map Some) made.types);
    } in
    node_good w p t _ _ (bare-Call n es order)
    (made.sound, subst (λ z. IsCall w.names n z (types_in (trees_of es)) (value_type t)) (sym d) is_call) made.reads (knows.result t r).1)

pub function_good : (w : World) (p : Place) (n : ℕ) (g : Signature) (ks : List Known) → (length ks ≡ length g.params → Fresh [] (length g.params) ks)
    → Gives w (KnowsFunction w.names.functions n g × GoodKnowns w ks) (call_function p n g ks).notes (GoodMeaning w (call_function p n g ks).meaning)
function_good w p n g ks f =
    let P = KnowsFunction w.names.functions n g × GoodKnowns w ks in
    let fit = fitted (param_test g) ks in
    let own = called p n g.result fit.order in
    counted_good w P p (length ks == length g.params) (with_fitted p fit own) (λ e.
    let l = eqb-true (length ks) (length g.params) e in
    fitted_good w P p fit own (fitted_reading (param_test g) (λ i t. param_reading (slice_get g.params i) t) ks) (λ es h.
    called_good w p n g ks es fit.order g.result refl (fitted_order (param_test g) ks) l (f l) h))

-- ---- forms of the library

passes_tells : (b : Bool) (t u : Typed) → (passes b t).typed ≡ Some u → (u ≡ t) × (b ≡ true)
passes_tells true t u h = (sym (same_Some t u h), refl)
passes_tells false t u h = absurd (none-some u h)

abbrev Takes : Form → ℕ → Typed → Type 0
Takes f i t = admits_scalar (admitted f i) (scalar_of t.ty) ≡ true

all_admitted : (f : Form) (i : ℕ) (ks : List Known) (es : List Expr) → Passed (Takes f) ks es → Counting i ks → Admitted f i (known_types ks)
all_admitted f i [] es h c = tt
all_admitted f i (value_at j t ∷ ks) [] h c = absurd h
all_admitted f i (value_at j t ∷ ks) (e ∷ es) h c = (subst (λ m. Takes f m t) c.0 h.1, all_admitted f (suc i) ks es h.2 c.1)
all_admitted f i (literal_at j q l ∷ ks) es h c = absurd h

pub form_good : (w : World) (p : Place) (f : Form) (ks : List Known) → Counting 0 ks
    → Gives w ((GoodForm f × IsResultType (results_type f.results f.result)) × GoodKnowns w ks) (call_form p f ks).notes (GoodMeaning w (call_form p f ks).meaning)
form_good w p f ks c =
    let P = (GoodForm f × IsResultType (results_type f.results f.result)) × GoodKnowns w ks in
    let fit = fitted (form_test f) ks in
    let own = form_result p f in
    counted_good w P p (length ks == form_count f) (with_fitted p fit own) (λ e.
    fitted_good w P p fit own (fitted_reading (form_test f) (λ i t. passes_reading (admits_scalar (admitted f i) (scalar_of t.ty)) t) ks) (λ es h. gives_none w P _ (λ k.
    let given = fitted_passed (form_test f) (Takes f) (λ i t u z. passes_tells (admits_scalar (admitted f i) (scalar_of t.ty)) t u z) ks es h in
    let made = passed_parts w (Takes f) ks es given k.1 in
    let t = results_type f.results f.result in
    let fits = k.0.0 (known_types ks) (passed_count (Takes f) ks es given ∙ eqb-true (length ks) (form_count f) e) (all_admitted f 0 ks es given c) in
    strict_good w p t f.prim es made.sound made.reads (subst (λ z. Fits (shape_of f.prim) z (value_type t)) (sym made.types) fits) k.0.1)))

-- ---- `log`

abbrev Logs : ℕ → Typed → Type 0
Logs i t = logged_when (scalar_of t.ty) ≡ true

logged_scalar : (s : Scalar) → library.is_logged s ≡ true → IsTrue (is_logged (scalar_type s))
logged_scalar scalar.UInt64 h = refl
logged_scalar scalar.Bool h = cc
logged_scalar scalar.Bytes h = refl
logged_scalar scalar.Text h = refl
logged_scalar scalar.Account h = refl

logged_by : (t : SourceType) (o : Option Scalar) → scalar_of t ≡ o → logged_when o ≡ true → IsTrue (is_logged (value_type t))
logged_by t None e h = cc
logged_by t (Some s) e h = subst (λ z. IsTrue (is_logged z)) (sym (scalar_value_is t s e)) (logged_scalar s h)

abbrev EachLogged : List ValueType → Type 0
EachLogged ts = All (λ t. IsTrue (is_logged t)) ts

all_logged : (ks : List Known) (es : List Expr) → Passed Logs ks es → EachLogged (map value_type (known_types ks))
all_logged [] es h = All-nil (λ t. IsTrue (is_logged t))
all_logged (value_at i t ∷ ks) [] h = absurd h
all_logged (value_at i t ∷ ks) (e ∷ es) h =
    All-cons (λ t. IsTrue (is_logged t)) (value_type t.ty) (map value_type (known_types ks)) (logged_by t.ty (scalar_of t.ty) refl h.1) (all_logged ks es h.2)
all_logged (literal_at i q l ∷ ks) es h = absurd h

log_fits : (ks : List Known) (es : List Expr) → 1 ≤ length ks → Passed Logs ks es → Fits logs_all (map value_type (known_types ks)) (value_type ty.Nothing)
log_fits [] es low h = absurd (omega (arith, low))
log_fits (value_at i t ∷ ks) es low h = (value_type t.ty, map value_type (known_types ks), refl, all_logged (value_at i t ∷ ks) es h, value_nothing)
log_fits (literal_at i q l ∷ ks) es low h = absurd h

pub nothing_result : IsResultType ty.Nothing
nothing_result h = let e : is_nothing ty.Nothing ≡ true = ap nothing_in plain-Nothing in cc

pub log_good : (w : World) (p : Place) (ks : List Known) → Gives w (GoodKnowns w ks) (call_log p ks).notes (GoodMeaning w (call_log p ks).meaning)
log_good w p ks =
    let P = GoodKnowns w ks in
    let fit = fitted log_test ks in
    let own = λ (es : List Expr). node p ty.Nothing (kind.Prim prim.Log es) in
    counted_good w P p (nat_le 1 (length ks)) (with_fitted p fit own) (λ e.
    fitted_good w P p fit own (fitted_reading log_test (λ i t. passes_reading (logged_when (scalar_of t.ty)) t) ks) (λ es h. gives_none w P _ (λ k.
    let given = fitted_passed log_test Logs (λ i t u z. passes_tells (logged_when (scalar_of t.ty)) t u z) ks es h in
    let made = passed_parts w Logs ks es given k in
    strict_good w p ty.Nothing prim.Log es made.sound made.reads
    (subst (λ z. Fits logs_all z (value_type ty.Nothing)) (sym made.types) (log_fits ks es (leb-true 1 (length ks) e) given)) nothing_result)))
