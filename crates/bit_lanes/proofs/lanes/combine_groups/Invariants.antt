use Rattle.std.proofs.Common.{◌*◌}
use Rattle.bit_lanes.specs.Lanes.{Combined}
use Rattle.bit_lanes.proofs.lanes.combine_groups.Given as goal

abbrev pub invariant-loop-group : goal.invariant-loop-group
invariant-loop-group g l = Combined g.C.LaneOperation.of_lanes 0 (l.group * 4) l.initial.into l.from l.into l.changed
