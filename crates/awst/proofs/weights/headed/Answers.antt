use Rattle.awst.specs.Heads.{own_head}
use Rattle.awst.proofs.Weighing.{sum_two}
use Rattle.awst.proofs.weights.headed.Goals as goal

pub returns : goal.returns
returns c = λ s p scalars parts. sum_two (own_head c.args.head s).weight p _ _ _ (c.head_amounts.ensures.weight s scalars) parts c.saturating_add.ensures
