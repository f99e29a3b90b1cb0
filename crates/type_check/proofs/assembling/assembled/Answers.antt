use Rattle.std.proofs.Common.{sym, ◌∙◌}
use Rattle.std.proofs.lemmas.Result.{err_from_is_err_and}
use Rattle.type_check.specs.Placing.{assembled, lacks}
use Rattle.type_check.proofs.assembling.assembled.Goals as goal

pub returns-in_err-contracts : goal.returns-in_err-contracts
returns-in_err-contracts c h =
    let p = err_from_is_err_and c.from_residual.result c.from_residual.ensures.1 in
    rw (p.1, p.2) lacks

pub returns-in-Some : goal.returns-in-Some
returns-in-Some c h = assembled c.in-Some.contracts (sym (c.in_ok-contracts.ensures h) ∙ c.in-Some.is)

pub returns-in-None : goal.returns-in-None
returns-in-None c h = lacks
