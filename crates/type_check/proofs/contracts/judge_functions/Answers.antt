use Rattle.type_check.specs.Firsts.{IsFirstOf}
use Rattle.type_check.specs.Placing.{in_module}
use Rattle.type_check.specs.Whole.{module_functions}
use Rattle.type_check.proofs.Lines.{first_more, item_placed, told_more}
use Rattle.type_check.proofs.contracts.judge_functions.Goals as goal

pub loop-rest-preserved : goal.loop-rest-preserved
loop-rest-preserved c = record {
  told = told_more (λ is. in_module c.args.sight.now (module_functions is)) (item_placed c.args.sight.now) c.loop-rest.rest.now c.first-item.result
      c.loop-rest.found.told c.judge_item.new.found.told _ c.first-item.is c.in-len1-up.len_at_least c.in_ok-judge_item.ensures.told c.loop-rest.invariant.told;
  paths = first_more (λ is. in_module c.args.sight.now (module_functions is)) (item_placed c.args.sight.now) c.loop-rest.rest.now c.first-item.result
      c.loop-rest.found.paths c.judge_item.new.found.paths (IsFirstOf c.args.found.now.paths (in_module c.args.sight.now (module_functions c.args.items.now)))
      c.first-item.is c.in-len1-up.len_at_least c.in_ok-judge_item.ensures.paths c.loop-rest.invariant.paths;
}
