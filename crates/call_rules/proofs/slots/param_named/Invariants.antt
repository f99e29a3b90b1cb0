use Rattle.std.proofs.Common.{◌≡◌, ◌+◌, length}
use Rattle.call_rules.specs.Calls as spec
use Rattle.call_rules.proofs.slots.param_named.Given as goal

abbrev pub invariant-loop-rest : goal.invariant-loop-rest
invariant-loop-rest l = record {
  at : l.i + length l.rest ≡ length l.fn.params;
  found : spec.param_from l.i l.name l.rest ≡ spec.param_from 0 l.fn.name l.fn.params;
}

abbrev pub decreases-loop-rest : goal.decreases-loop-rest
decreases-loop-rest l = length l.rest
