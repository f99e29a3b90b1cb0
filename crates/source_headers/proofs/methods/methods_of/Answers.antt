use Rattle.source_headers.proofs.Calling.{methods_behind}
use Rattle.source_headers.proofs.methods.methods_of.Goals as goal

pub loop-rest-preserved : goal.loop-rest-preserved
loop-rest-preserved c =
    methods_behind c.loop-rest.rest.now c.member-item.result _ _ _ c.loop-rest.number c.in_ok-number.number
    c.member-item.is c.in-len1-up.len_at_least c.in_ok-number.ensures.added c.in_ok-number.ensures.number c.loop-rest.invariant
