use Rattle.std.proofs.Common.{◌≡◌, length}
use Rattle.source_headers.specs.Classes.{functions}
use Rattle.type_check.specs.Placing.{with_signatures}
use Rattle.type_check.proofs.scoping.add_signatures.Given as goal

abbrev pub invariant-loop-rest : goal.invariant-loop-rest
invariant-loop-rest l = with_signatures l.sight (functions l.rest) ≡ with_signatures l.fn.sight (functions l.fn.members)

abbrev pub decreases-loop-rest : goal.decreases-loop-rest
decreases-loop-rest l = length l.rest
