use Rattle.std.proofs.Common.{◌≡◌, ℕ, ◌∙◌, ◌++◌, Option, IfOk, OnOk, ap, sym, subst}
use Rattle.puya_base.specs.declared.source.Place.{Place}
use Rattle.algopy_library.specs.declared.operator.Operator.{Operator}
use Rattle.source_names.specs.Source.{place_of, tree_of}
use Rattle.expression_check.specs.Sights.{seen}
use Rattle.statement_check.specs.Lines.{exprs_of, update_operator}
use Rattle.statement_check.specs.Statements.{augment_one, augment_variable, variable_of}
use Rattle.statement_check.specs.Targets.{target_name}
use Rattle.statement_check.proofs.Adding.{copied_is}
use Rattle.statement_check.proofs.updating.update.Goals as goal

pub returns-in-Some-clause-told : goal.returns-in-Some-clause-told
returns-in-Some-clause-told c =
    let s = seen c.args.sight.now c.args.locals.now in
    let e = exprs_of c.args.targets.now in
    let v = tree_of c.args.value.now in
    let number = ap (variable_of s) (sym (copied_is c.exprs_name.result (target_name e) c.exprs_name.ensures)) ∙ sym (c.variable_of.ensures c.args.sight.now) ∙ c.in-Some.is in
    subst (λ (o : Option ℕ). OnOk c.update_variable.result (c.update_variable.new.into ≡ c.args.into.now ++ (augment_one s e o (update_operator c.args.op) v).notes)) (sym number)
    (subst (λ (o : Operator). OnOk c.update_variable.result (c.update_variable.new.into ≡ c.args.into.now ++ (augment_variable s (place_of e) c.in-Some.number o v).notes)) c.update_operator-operator.ensures
    (subst (λ (p : Place). OnOk c.update_variable.result (c.update_variable.new.into ≡ c.args.into.now ++ (augment_variable s p c.in-Some.number c.update_operator-operator.result v).notes)) c.exprs_place-place.ensures c.update_variable.ensures.told))

pub returns-in-Some-clause-typed : goal.returns-in-Some-clause-typed
returns-in-Some-clause-typed c =
    let s = seen c.args.sight.now c.args.locals.now in
    let e = exprs_of c.args.targets.now in
    let v = tree_of c.args.value.now in
    let number = ap (variable_of s) (sym (copied_is c.exprs_name.result (target_name e) c.exprs_name.ensures)) ∙ sym (c.variable_of.ensures c.args.sight.now) ∙ c.in-Some.is in
    subst (λ (o : Option ℕ). IfOk c.update_variable.result (λ ss. ss ≡ (augment_one s e o (update_operator c.args.op) v).typed)) (sym number)
    (subst (λ (o : Operator). IfOk c.update_variable.result (λ ss. ss ≡ (augment_variable s (place_of e) c.in-Some.number o v).typed)) c.update_operator-operator.ensures
    (subst (λ (p : Place). IfOk c.update_variable.result (λ ss. ss ≡ (augment_variable s p c.in-Some.number c.update_operator-operator.result v).typed)) c.exprs_place-place.ensures c.update_variable.ensures.typed))
