use Rattle.awst.proofs.Capped.{linear_result}
use Rattle.awst.proofs.node_amounts.linear.Goals as goal

pub returns : goal.returns
returns c = linear_result c.args.fixed c.args.each c.args.count _ _ c.saturating_mul.ensures c.saturating_add.ensures
