use Rattle.std.proofs.Common.{◌≡◌, ◌++◌, length}
use Rattle.source_headers.specs.Classes as spec
use Rattle.source_headers.proofs.classes.all_member_faults.Given as goal

abbrev pub invariant-loop-rest : goal.invariant-loop-rest
invariant-loop-rest l = l.into ++ spec.all_member_faults l.names l.rest ≡ l.fn.into ++ spec.all_member_faults l.names l.fn.members

abbrev pub decreases-loop-rest : goal.decreases-loop-rest
decreases-loop-rest l = length l.rest
