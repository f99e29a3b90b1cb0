use Rattle.std.proofs.Common.{◌≡◌, ◌++◌, [], length}
use Rattle.source_headers.specs.Classes as spec
use Rattle.source_headers.specs.Headers.{twice}
use Rattle.source_headers.proofs.classes.members_twice.Given as goal

abbrev pub invariant-loop-rest : goal.invariant-loop-rest
invariant-loop-rest l = l.into ++ twice l.seen (spec.member_names l.rest) ≡ l.fn.into ++ twice [] (spec.member_names l.fn.members)

abbrev pub decreases-loop-rest : goal.decreases-loop-rest
decreases-loop-rest l = length l.rest
