use Rattle.std.proofs.Common.{◌∙◌, ap, sym}
use Rattle.py_grammar.specs.declared.statement.Simple.{Simple}
use Rattle.source_names.specs.Source.{place_of}
use Rattle.meaning_rules.specs.Meanings.{freely}
use Rattle.expression_check.specs.Expressions.{judge}
use Rattle.expression_check.specs.Sights.{seen}
use Rattle.statement_check.specs.Lines.{exprs_of, line_of}
use Rattle.statement_check.specs.Statements.{check_line}
use Rattle.statement_check.proofs.Fitting.{alone_locals, on_ok}
use Rattle.statement_check.proofs.simple.check_line.Goals as goal

pub returns-in-Value-clause-locals : goal.returns-in-Value-clause-locals
returns-in-Value-clause-locals c =
    let s = seen c.args.sight.now c.args.locals.now in
    let e = exprs_of c.in-Value.exprs in
    on_ok c.stand_alone.result
    (sym (ap (λ (l : Simple). (check_line s c.args.gives.now (line_of l)).locals) c.in-Value.is ∙ alone_locals c.args.locals.now (place_of e) (judge s freely e).meaning))
