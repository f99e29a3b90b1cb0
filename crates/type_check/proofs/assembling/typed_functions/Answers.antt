use Rattle.type_check.specs.Placing.{in_module}
use Rattle.type_check.specs.Whole.{module_functions}
use Rattle.type_check.proofs.Lines.{item_placed, typed_more}
use Rattle.type_check.proofs.assembling.typed_functions.Goals as goal

pub loop-rest-preserved : goal.loop-rest-preserved
loop-rest-preserved c =
    typed_more (λ is. in_module c.args.sight.now (module_functions is)) (item_placed c.args.sight.now) c.loop-rest.rest.now c.first-item.result
    c.loop-rest.all c.in_ok-all.all _ c.first-item.is c.in-len1-up.len_at_least c.in_ok-all.ensures c.loop-rest.invariant
