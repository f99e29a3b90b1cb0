use Rattle.std.proofs.Common.{[], ◌∷◌, OnOk, subst, sym}
use Rattle.type_check.specs.Firsts.{IsFirstOf}
use Rattle.type_check.specs.Placing.{in_module}
use Rattle.type_check.specs.Whole.{module_functions}
use Rattle.type_check.proofs.contracts.judge_item.Goals as goal

pub returns-in-Func-clause-paths : goal.returns-in-Func-clause-paths
returns-in-Func-clause-paths c =
    subst (λ i. OnOk c.judge_placed.result (IsFirstOf c.args.found.now.paths (in_module c.args.sight.now (module_functions (i ∷ []))) c.judge_placed.new.found.paths))
    (sym c.in-Func.is) c.judge_placed.ensures.paths
