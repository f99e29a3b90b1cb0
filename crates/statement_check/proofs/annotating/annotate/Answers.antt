use Rattle.std.proofs.Common.{◌≡◌, ℕ, ◌∙◌, Option, IfOk, ap, sym, subst}
use Rattle.puya_base.specs.declared.source.Place.{Place}
use Rattle.expression_check.specs.Sights.{seen}
use Rattle.statement_check.specs.Lines.{exprs_of, optional_exprs}
use Rattle.statement_check.specs.Statements.{annotate_one, annotate_variable, variable_of}
use Rattle.statement_check.specs.Targets.{target_name}
use Rattle.statement_check.proofs.Adding.{copied_is}
use Rattle.statement_check.proofs.annotating.annotate.Goals as goal

pub returns-in-Some-clause-typed : goal.returns-in-Some-clause-typed
returns-in-Some-clause-typed c =
    let s = seen c.args.sight.now c.args.locals.now in
    let e = exprs_of c.args.targets.now in
    let a = optional_exprs c.args.values.now in
    let number = ap (variable_of s) (sym (copied_is c.exprs_name.result (target_name e) c.exprs_name.ensures)) ∙ sym (c.variable_of.ensures c.args.sight.now) ∙ c.in-Some.is in
    subst (λ (o : Option ℕ). IfOk c.annotate_variable.result (λ ss. ss ≡ (annotate_one s e o c.args.tree.now a).typed)) (sym number)
    (subst (λ (p : Place). IfOk c.annotate_variable.result (λ ss. ss ≡ (annotate_variable s p c.in-Some.number c.args.tree.now a).typed)) c.exprs_place-place.ensures c.annotate_variable.ensures.typed)
