use Rattle.std.proofs.Common.{arith}
use Rattle.awst.proofs.Marking.{marked_sum_end}
use Rattle.awst.proofs.Weighing.{sums_end}
use Rattle.awst.proofs.assigned_rows.marked_sizes.Goals as goal

pub returns : goal.returns
returns c = sums_end c.loop-at.total _ _ (marked_sum_end c.args.marks.now c.args.sizes.now c.loop-at.at (omega arith)) c.loop-at.invariant
