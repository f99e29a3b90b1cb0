use Rattle.type_check.proofs.Calling.{named_behind}
use Rattle.type_check.proofs.assembling.first_named.Goals as goal

pub loop-rest-preserved : goal.loop-rest-preserved
loop-rest-preserved c =
    named_behind c.args.name.now c.loop-rest.rest.now c.member-item.result c.loop-rest.number c.in_ok-number.number c.has_name.result _
    c.member-item.is c.in-len1-up.len_at_least c.has_name.ensures c.if-has_name.false c.in_ok-number.ensures c.loop-rest.invariant
