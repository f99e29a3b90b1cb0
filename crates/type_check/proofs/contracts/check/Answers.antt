use Rattle.std.proofs.Common.{◌≡◌, ◌++◌, [], ap, ◌∙◌}
use Rattle.std.proofs.lemmas.Result.{err_from_is_err_and}
use Rattle.expression_check.specs.Sights.{seen}
use Rattle.type_check.specs.Placing.{first_told}
use Rattle.type_check.specs.Whole.{lacks}
use Rattle.type_check.proofs.Answering.{checks_by}
use Rattle.type_check.proofs.Modules.{at_module}
use Rattle.type_check.proofs.contracts.check.Goals as goal

pub returns-in_err-sight : goal.returns-in_err-sight
returns-in_err-sight c =
    let p = err_from_is_err_and c.from_residual.result c.from_residual.ensures.1 in
    rw (p.1, p.2) lacks

pub returns-in_err-first : goal.returns-in_err-first
returns-in_err-first c =
    let p = err_from_is_err_and c.from_residual-in_err-first.result c.from_residual-in_err-first.ensures.1 in
    rw (p.1, p.2) lacks

pub returns : goal.returns
returns c =
    let items = c.as_slice-items.result.now in
    let at = c.in_ok-sight.ensures.sight in
    let told : c.begin.new.told ≡ first_told items = c.in_ok-sight.ensures.told ∙ ap (λ rs. rs ++ first_told items) c.new-told.ensures in
    checks_by c.args.module.now items c.in_ok-first.first c.answer.result c.as_slice-items.ensures (c.in_ok-first.ensures.first at told)
    (c.answer.ensures (ap (λ v. seen v []) (c.in_ok-first.ensures.sight (at_module c.in_ok-sight.sight items at)) ∙ at))
