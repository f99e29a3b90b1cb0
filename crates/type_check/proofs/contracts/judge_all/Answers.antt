use Rattle.type_check.proofs.Modules.{first_broken}
use Rattle.type_check.proofs.contracts.judge_all.Goals as goal

pub returns-clause-first : goal.returns-clause-first
returns-clause-first c at first =
    first_broken c.args.sight.now c.args.items.now at c.args.told c.judge_functions.new.found.told c.judge_contracts.new.found.told
    c.judge_functions.new.found.paths c.judge_contracts.new.found.paths c.is_judged.result first
    c.in_ok-judge_functions.ensures.told c.in_ok-judge_functions.ensures.paths c.in_ok-judge_contracts.ensures.told c.in_ok-judge_contracts.ensures.paths
    c.is_judged.ensures
