use Rattle.std.proofs.Common.{ap, ◌∙◌}
use Rattle.source_headers.specs.Classes.{first_from, functions, is_approval, is_clear}
use Rattle.type_check.specs.Whole.{beyond}
use Rattle.type_check.proofs.Modules.{contract_made}
use Rattle.type_check.proofs.assembling.contract_of.Goals as goal

pub returns : goal.returns
returns c =
    contract_made c.args.first c.args.class.now c.args.funcs c.in_ok-new.field-0 c.in_ok-approval.approval c.in_ok-clear.clear
    (c.in_ok-new.ensures ∙ c.as_str.ensures)
    (c.in_ok-approval.ensures ∙ ap (λ ms. beyond c.args.first (first_from 0 is_approval (functions ms))) c.as_slice-members.ensures)
    (c.in_ok-clear.ensures ∙ ap (λ ms. beyond c.args.first (first_from 0 is_clear (functions ms))) c.as_slice-members.ensures)
