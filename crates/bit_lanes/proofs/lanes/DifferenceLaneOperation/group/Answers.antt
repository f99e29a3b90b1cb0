use Rattle.std.proofs.Common.{bit_and, w64}
use Rattle.std.specs.Int.{bit_not}
use Rattle.bit_lanes.proofs.LaneLaws.{zip2-map_right}
use Rattle.bit_lanes.proofs.lanes.DifferenceLaneOperation.group.Goals as goal

pub returns : goal.returns
returns c = zip2-map_right bit_and (bit_not w64) c.args.a c.args.b
