use Rattle.std.proofs.Common.{◌≡◌, ◌++◌, [], length}
use Rattle.source_headers.specs.Headers as spec
use Rattle.source_headers.proofs.headers.twice.Given as goal

abbrev pub invariant-loop-rest : goal.invariant-loop-rest
invariant-loop-rest l = l.into ++ spec.twice l.seen (spec.param_names l.rest) ≡ l.fn.into ++ spec.twice [] (spec.param_names l.fn.params)

abbrev pub decreases-loop-rest : goal.decreases-loop-rest
decreases-loop-rest l = length l.rest
