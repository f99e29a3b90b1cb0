use Rattle.bit_lanes.specs.Lanes.{Combined}
use Rattle.bit_lanes.proofs.lanes.combine_rest.Given as goal

abbrev pub invariant-loop-at : goal.invariant-loop-at
invariant-loop-at g l = Combined g.C.LaneOperation.of_lanes l.start l.at l.initial.into l.from l.into l.changed
