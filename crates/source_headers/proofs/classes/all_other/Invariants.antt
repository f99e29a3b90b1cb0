use Rattle.std.proofs.Common.{◌≡◌, length}
use Rattle.source_headers.specs.Classes as spec
use Rattle.source_headers.proofs.classes.all_other.Given as goal

abbrev pub invariant-loop-rest : goal.invariant-loop-rest
invariant-loop-rest l = spec.all_other l.names (spec.classes l.rest) ≡ spec.all_other l.names (spec.classes l.fn.items)

abbrev pub decreases-loop-rest : goal.decreases-loop-rest
decreases-loop-rest l = length l.rest
