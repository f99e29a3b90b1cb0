use Rattle.std.proofs.Common.{length, ◌-◌}
use Rattle.avm_run.proofs.Outlines.{Left}
use Rattle.avm_run.proofs.outline.outline_of.Given as goal

abbrev pub invariant-loop-pc : goal.invariant-loop-pc
invariant-loop-pc l = Left l.code l.pc l.outline

abbrev pub decreases-loop-pc : goal.decreases-loop-pc
decreases-loop-pc l = length l.code - l.pc
