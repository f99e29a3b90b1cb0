use Rattle.std.proofs.Common.{◌≡◌, length}
use Rattle.type_check.specs.Firsts.{first_in}
use Rattle.type_check.proofs.order.first_of.Given as goal

abbrev pub invariant-loop-rest : goal.invariant-loop-rest
invariant-loop-rest l = first_in l.first l.rest ≡ first_in l.fn.before l.fn.told

abbrev pub decreases-loop-rest : goal.decreases-loop-rest
decreases-loop-rest l = length l.rest
