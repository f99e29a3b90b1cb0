use Rattle.std.proofs.Common.{ap, ◌∙◌}
use Rattle.std.proofs.lemmas.Result.{IfOk-weaker}
use Rattle.source_headers.specs.Classes.{functions}
use Rattle.type_check.specs.Placing.{functions_behind, in_class}
use Rattle.type_check.specs.Whole.{typed_functions}
use Rattle.type_check.proofs.Modules.{contract_typed}
use Rattle.type_check.proofs.assembling.typed_contract.Goals as goal

pub returns-clause-typed : goal.returns-clause-typed
returns-clause-typed c h =
    IfOk-weaker c.contract_when.result _ _
    (λ one e.
    contract_typed c.args.sight.now c.args.items.now c.args.class.now h c.in_ok-first.first c.in_ok-before.before c.in_ok-all.all one
    c.in_ok-first.ensures c.in_ok-before.ensures
    (c.in_ok-all.ensures.typed
    ∙ ap (λ ms. functions_behind c.in_ok-before.before (typed_functions (in_class c.enter_class.new.sight (functions ms)))) c.as_slice.ensures
    ∙ ap (λ v. functions_behind c.in_ok-before.before (typed_functions (in_class v (functions c.args.class.now.members)))) c.in_ok-enter_class.ensures)
    e)
    c.contract_when.ensures
