use Rattle.std.proofs.Common.{◌∙◌, ◌++◌, true, ap}
use Rattle.source_names.specs.Source.{place_of, tree_of}
use Rattle.meaning_rules.specs.declared.meaning.Context.{Context}
use Rattle.meaning_rules.specs.declared.meaning.Hope.TheVariants as hope
use Rattle.meaning_rules.specs.Meanings.{context, says, value, whole_hope}
use Rattle.expression_check.specs.Expressions.{judge}
use Rattle.expression_check.specs.Sights.{seen}
use Rattle.statement_check.proofs.Fitting.{value_told}
use Rattle.statement_check.proofs.values.tree_noted.Goals as goal

pub returns : goal.returns
returns c =
    let s = seen c.args.sight.now c.args.locals.now in
    let e = tree_of c.args.tree.now in
    let so = c.context-context.ensures in
    value_told hope.Unknown (place_of e) (judge s (context true hope.Unknown) e) c.args.into.now c.judge.new.into c.value_in.new.into
    (c.in_ok-meaning.ensures.told ∙ ap (λ (k : Context). c.args.into.now ++ (judge s k e).notes) so)
    (c.in_ok-value_in.ensures.told
    ∙ ap (λ (k : Context). c.judge.new.into ++ (value (whole_hope k.expect) c.place_of.result (says c.in_ok-meaning.meaning)).notes) so
    ∙ ap (λ p. c.judge.new.into ++ (value hope.Unknown p (says c.in_ok-meaning.meaning)).notes) c.place_of.ensures
    ∙ ap (λ m. c.judge.new.into ++ (value hope.Unknown (place_of e) (says m)).notes) (c.in_ok-meaning.ensures.meaning ∙ ap (λ (k : Context). (judge s k e).meaning) so))
