use Rattle.std.proofs.Common.{◌≡◌, length}
use Rattle.source_headers.specs.Classes as spec
use Rattle.source_headers.specs.Bases.{has_named}
use Rattle.source_headers.proofs.classes.has_clear.Given as goal

abbrev pub invariant-loop-rest : goal.invariant-loop-rest
invariant-loop-rest l = has_named spec.is_clear l.rest ≡ has_named spec.is_clear l.fn.members

abbrev pub decreases-loop-rest : goal.decreases-loop-rest
decreases-loop-rest l = length l.rest
