use Rattle.std.proofs.Common.{length, ◌-◌}
use Rattle.teal_text.proofs.Walks.{ToGather}
use Rattle.teal_text.proofs.targets.targets_of.Given as goal

abbrev pub invariant-loop-pc : goal.invariant-loop-pc
invariant-loop-pc l = ToGather l.code l.pc l.places

abbrev pub decreases-loop-pc : goal.decreases-loop-pc
decreases-loop-pc l = length l.code - l.pc
