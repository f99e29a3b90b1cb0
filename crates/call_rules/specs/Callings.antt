-- Calls whose number of arguments is right, as one case after the other.
use Rattle.std.specs.Prelude.{ℕ, List, Option, Some, None}
use Rattle.puya_base.specs.declared.source.Place.{Place}
use Rattle.awst.specs.declared.expression.Expr.{Expr}
use Rattle.awst.specs.declared.expression.ExprKind.TheVariants as kind
use Rattle.awst.specs.declared.primitive.Primitive.TheVariants as prim
use Rattle.algopy_library.specs.declared.form.Form.{Form}
use Rattle.source_names.specs.declared.types.SourceType.{SourceType}
use Rattle.source_names.specs.declared.types.SourceType.TheVariants as ty
use Rattle.source_names.specs.declared.signature.Signature.{Signature}
use Rattle.call_rules.specs.declared.arguments.Known.{Known}
use Rattle.call_rules.specs.declared.fitting.Fitted.{Fitted as Written}
use Rattle.meaning_rules.specs.Meanings.{Judged, node, unknown}
use Rattle.call_rules.specs.Calls.{result_when, called, call_function, with_fitted, fitted, param_test, form_test, log_test, form_result}

abbrev pub called_when : Place → ℕ → Option SourceType → Written → Judged
called_when p n t f = result_when p f.exprs (called p n t f.order)

abbrev pub with_params : Place → ℕ → Signature → List Known → Judged
with_params p n s ks = let f = fitted (param_test s) ks in with_fitted p f (called p n s.result f.order)

abbrev pub with_form : Place → Form → List Known → Judged
with_form p f ks = with_fitted p (fitted (form_test f) ks) (form_result p f)

abbrev pub log_result : Place → List Expr → Judged
log_result p es = node p ty.Nothing (kind.Prim prim.Log es)

abbrev pub with_log : Place → List Known → Judged
with_log p ks = with_fitted p (fitted log_test ks) (log_result p)

abbrev pub call_when : Place → ℕ → Option Signature → List Known → Judged
call_when p n None ks = unknown
call_when p n (Some s) ks = call_function p n s ks
