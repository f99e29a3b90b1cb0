use Rattle.std.proofs.Common.{◌≡◌, ◌++◌, length}
use Rattle.source_names.specs.Things as spec
use Rattle.source_names.proofs.things.members_of.Given as goal

abbrev pub invariant-loop-rest : goal.invariant-loop-rest
invariant-loop-rest l = record {
  told : l.into ++ (spec.members_of (spec.stands_for l.thing) l.rest).faults ≡ l.fn.into ++ (spec.members_of (spec.stands_for l.fn.thing) l.fn.words).faults;
  thing : (spec.members_of (spec.stands_for l.thing) l.rest).thing ≡ (spec.members_of (spec.stands_for l.fn.thing) l.fn.words).thing;
}

abbrev pub decreases-loop-rest : goal.decreases-loop-rest
decreases-loop-rest l = length l.rest
