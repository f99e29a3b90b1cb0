use Rattle.std.proofs.Common.{◌≡◌, ◌++◌, length}
use Rattle.source_names.specs.Literals as spec
use Rattle.source_names.proofs.literals.joined.Given as goal

abbrev pub invariant-loop-rest : goal.invariant-loop-rest
invariant-loop-rest l = l.bytes ++ spec.joined l.rest ≡ spec.joined l.fn.literals

abbrev pub decreases-loop-rest : goal.decreases-loop-rest
decreases-loop-rest l = length l.rest
