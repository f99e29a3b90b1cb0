-- Arguments that fit, one after another: what stands of them so far.
use Rattle.std.specs.Prelude.{ℕ, List, [], ◌∷◌, ◌++◌, Option, Some, None}
use Rattle.puya_base.specs.declared.source.Rule.TheVariants as rule
use Rattle.awst.specs.declared.expression.Expr.{Expr}
use Rattle.meaning_rules.specs.declared.meaning.Typed.{Typed}
use Rattle.call_rules.specs.declared.arguments.Known.{Known}
use Rattle.call_rules.specs.declared.arguments.Known.TheVariants.{Value as value_at, Literal as literal_at}
use Rattle.call_rules.specs.declared.fitting.Fitted.{Fitted as Written}
use Rattle.meaning_rules.specs.Meanings.{Valued, value_breaks}
use Rattle.call_rules.specs.Calls.{Fitted}

abbrev pub nothing_yet : Written
nothing_yet = record { exprs = Some []; order = [] }

abbrev pub with_expr : Option (List Expr) → Option Typed → Option (List Expr)
with_expr None t = None
with_expr (Some es) None = None
with_expr (Some es) (Some t) = Some (es ++ t.expr ∷ [])

abbrev pub with_argument : Written → ℕ → Option Typed → Written
with_argument f i t = record { exprs = with_expr f.exprs t; order = f.order ++ i ∷ [] }

abbrev pub number_of : Known → ℕ
number_of (value_at i t) = i
number_of (literal_at i q l) = i

-- P14 on a literal, which has no type there
abbrev pub argument_test : (ℕ → Typed → Valued) → Known → Valued
argument_test test (value_at i t) = test i t
argument_test test (literal_at i q l) = value_breaks rule.P14 q

abbrev pub with_tested : (ℕ → Typed → Valued) → Written → Known → Written
with_tested test f k = with_argument f (number_of k) (argument_test test k).typed

abbrev pub as_written : Fitted → Written
as_written f = record { exprs = f.exprs; order = f.order }
