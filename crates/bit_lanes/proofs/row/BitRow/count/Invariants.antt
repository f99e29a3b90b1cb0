use Rattle.std.proofs.Common.{◌≡◌, ◌*◌}
use Rattle.bit_lanes.specs.Rows.{size, members}
use Rattle.bit_lanes.proofs.row.BitRow.count.Given as goal

abbrev pub invariant-loop-lane : goal.invariant-loop-lane
invariant-loop-lane l = l.total ≡ size (members (64 * l.lane-index) l.lane-items)
