use Rattle.std.proofs.Common.{◌≡◌, length}
use Rattle.call_rules.specs.Calls as spec
use Rattle.call_rules.proofs.slots.is_used.Given as goal

abbrev pub invariant-loop-rest : goal.invariant-loop-rest
invariant-loop-rest l = spec.is_used l.number l.rest ≡ spec.is_used l.fn.number l.fn.used

abbrev pub decreases-loop-rest : goal.decreases-loop-rest
decreases-loop-rest l = length l.rest
