use Rattle.std.proofs.Common.{◌≡◌, ◌++◌, OnOk, sym, subst}
use Rattle.outcome_text.specs.Text.{outcome_lines}
use Rattle.outcome_text.proofs.ran_text.push_ran.Goals as goal

pub returns-in-OverBudget : goal.returns-in-OverBudget
unfolding outcome_lines
returns-in-OverBudget c =
    subst (λ o. OnOk c.push_stopped-in-OverBudget.result (c.push_stopped-in-OverBudget.new.out ≡ c.args.out.now ++ outcome_lines o c.args.ran.now.pc c.args.ran.now.spent))
    (sym c.in-OverBudget.is) c.push_stopped-in-OverBudget.ensures
