use Rattle.std.proofs.Common.{◌≡◌, length}
use Rattle.type_check.specs.Placing.{functions_behind, in_module}
use Rattle.type_check.specs.Whole as spec
use Rattle.type_check.proofs.assembling.typed_functions.Given as goal

abbrev pub invariant-loop-rest : goal.invariant-loop-rest
invariant-loop-rest l =
    functions_behind l.all (spec.typed_functions (in_module l.sight (spec.module_functions l.rest)))
    ≡ spec.typed_functions (in_module l.sight (spec.module_functions l.fn.items))

abbrev pub decreases-loop-rest : goal.decreases-loop-rest
decreases-loop-rest l = length l.rest
