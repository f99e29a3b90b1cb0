use Rattle.std.proofs.Common.{◌+◌, length, map}
use Rattle.awst.specs.Functions.{function_of}
use Rattle.awst.specs.Reach.{unmarked}
use Rattle.awst.proofs.Noting.{Visiting}
use Rattle.awst.proofs.reach.spread_marks.Given as goal

abbrev pub invariant-loop-f : goal.invariant-loop-f
invariant-loop-f l = Visiting (map function_of l.funcs) l.fn.marks l.marks l.waiting.items

abbrev pub decreases-loop-f : goal.decreases-loop-f
decreases-loop-f l = unmarked l.marks + length l.waiting.items
