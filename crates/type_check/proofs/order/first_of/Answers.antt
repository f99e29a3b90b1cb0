use Rattle.type_check.proofs.FirstOnes.{told_first}
use Rattle.type_check.proofs.order.first_of.Goals as goal

pub loop-rest-preserved : goal.loop-rest-preserved
loop-rest-preserved c =
    told_first c.loop-rest.rest.now _ c.loop-rest.first c.earlier-first.result _ c.in-len1-up.len_at_least c.earlier-first.ensures c.loop-rest.invariant
