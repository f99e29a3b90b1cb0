use Rattle.std.proofs.Common.{arith}
use Rattle.awst.proofs.node_amounts.match_amounts.Goals as goal

pub returns-clause-price : goal.returns-clause-price
returns-clause-price c = λ n b s literals scalars. omega (arith, c.linear-2.ensures n literals, c.linear-assigned.ensures s scalars, c.saturating_add-3.ensures)
