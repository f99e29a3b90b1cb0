use Rattle.avm_ops.proofs.Each.{HasRead}
use Rattle.avm_ops.proofs.immediate.each.Given as goal

abbrev pub invariant-loop-index : goal.invariant-loop-index
invariant-loop-index g l = HasRead g.T.Item.reading l.count l.code l.index l.items l.used
