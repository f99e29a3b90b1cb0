use Rattle.std.proofs.Common.{◌/◌, ◌<◌, sym, subst}
use Rattle.bit_lanes.proofs.RowLaws.{lane_within, told_member}
use Rattle.bit_lanes.proofs.row.BitRow.has.Goals as goal

pub index-requires : goal.index-requires
index-requires c =
    subst (λ n. c.args.i / 64 < n) (sym c.self.inside.lanes.ok.0) (lane_within c.self.inside.bits c.args.i c.self.inside.lanes.items c.args.self.now c.self.invariant c.self.view_is c.requires)

pub returns : goal.returns
returns c = told_member c.self.inside.bits c.self.inside.lanes.items c.args.i c.args.self.now c.self.invariant c.self.view_is c.requires c.index.result.now c.index.ensures
