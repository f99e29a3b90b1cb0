use Rattle.std.proofs.Common.{◌≡◌, length}
use Rattle.type_check.specs.Functions as spec
use Rattle.expression_check.specs.Walking.{types_behind}
use Rattle.type_check.proofs.functions.local_types.Given as goal

abbrev pub invariant-loop-rest : goal.invariant-loop-rest
invariant-loop-rest l = types_behind l.all (spec.local_types l.rest) ≡ spec.local_types l.fn.locals

abbrev pub decreases-loop-rest : goal.decreases-loop-rest
decreases-loop-rest l = length l.rest
