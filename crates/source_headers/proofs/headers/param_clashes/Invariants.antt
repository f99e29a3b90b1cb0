use Rattle.std.proofs.Common.{◌≡◌, ◌++◌, length}
use Rattle.source_headers.specs.Headers as spec
use Rattle.source_headers.proofs.headers.param_clashes.Given as goal

abbrev pub invariant-loop-rest : goal.invariant-loop-rest
invariant-loop-rest l = l.into ++ spec.all_clashes l.names (spec.param_names l.rest) ≡ l.fn.into ++ spec.all_clashes l.names (spec.param_names l.fn.params)

abbrev pub decreases-loop-rest : goal.decreases-loop-rest
decreases-loop-rest l = length l.rest
