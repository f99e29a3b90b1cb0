use Rattle.std.proofs.Common.{◌≡◌, ◌++◌, length}
use Rattle.type_check.specs.Functions as spec
use Rattle.type_check.proofs.functions.assign_params.Given as goal

abbrev pub invariant-loop-rest : goal.invariant-loop-rest
invariant-loop-rest l = l.into ++ spec.assigned_from l.number l.rest ≡ l.fn.into ++ spec.assigned_from 0 l.fn.params

abbrev pub decreases-loop-rest : goal.decreases-loop-rest
decreases-loop-rest l = length l.rest
