use Rattle.std.proofs.Common.{length, ◌-◌}
use Rattle.teal_text.proofs.Walks.{ToPrint}
use Rattle.teal_text.proofs.printing.push_body.Given as goal

abbrev pub invariant-loop-pc : goal.invariant-loop-pc
invariant-loop-pc l = ToPrint l.targets l.code l.initial.text l.pc l.text

abbrev pub decreases-loop-pc : goal.decreases-loop-pc
decreases-loop-pc l = length l.code - l.pc
