use Rattle.std.proofs.Common.{◌∙◌, ◌++◌, ap}
use Rattle.source_names.specs.Source.{place_of}
use Rattle.meaning_rules.specs.declared.meaning.Context.{Context}
use Rattle.meaning_rules.specs.Meanings.{value, whole_hope}
use Rattle.expression_check.specs.Expressions.{judge}
use Rattle.expression_check.specs.Sights.{seen}
use Rattle.statement_check.specs.Lines.{exprs_of}
use Rattle.statement_check.proofs.values.exprs_noted.Goals as goal

pub returns : goal.returns
returns c =
    let s = seen c.args.sight.now c.args.locals.now in
    let e = exprs_of c.args.exprs.now in
    c.in_ok-exprs_value.ensures.told ∙ ap (λ (k : Context). c.args.into.now ++ (value (whole_hope k.expect) (place_of e) (judge s k e)).notes) c.context-context.ensures
