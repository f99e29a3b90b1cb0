use Rattle.std.proofs.Common.{drop}
use Rattle.awst.specs.Marks.{marked_sum}
use Rattle.awst.proofs.Weighing.{Sums}
use Rattle.awst.proofs.assigned_rows.marked_sizes.Given as goal

abbrev pub invariant-loop-at : goal.invariant-loop-at
invariant-loop-at l = Sums l.total (marked_sum (drop l.at l.marks) (drop l.at l.sizes)) (marked_sum l.marks l.sizes)
