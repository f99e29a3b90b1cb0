use Rattle.std.proofs.Common.{◌≡◌, ℕ, ◌∙◌, Option, IfOk, ap, sym, subst}
use Rattle.source_names.specs.Source.{Exs}
use Rattle.expression_check.specs.Sights.{seen}
use Rattle.statement_check.specs.Lines.{exprs_of}
use Rattle.statement_check.specs.Statements.{assign_all, assign_one, variable_of}
use Rattle.statement_check.specs.Targets.{target_name}
use Rattle.statement_check.proofs.Adding.{copied_is}
use Rattle.statement_check.proofs.unpacking.assign.Goals as goal

pub returns-in-None-clause-typed : goal.returns-in-None-clause-typed
returns-in-None-clause-typed c =
    let s = seen c.args.sight.now c.args.locals.now in
    let e = exprs_of c.args.targets.now in
    let v = exprs_of c.args.values.now in
    let number = c.variable_of-number.ensures c.args.sight.now ∙ ap (variable_of s) (copied_is c.exprs_name.result (target_name e) c.exprs_name.ensures) in
    subst (λ (o : Option Exs). IfOk c.assign_one.result (λ ss. ss ≡ (assign_all s e o v).typed)) (sym c.in-None.ensures)
    (subst (λ (n : Option ℕ). IfOk c.assign_one.result (λ ss. ss ≡ (assign_one s e n v).typed)) number c.assign_one.ensures.typed)
