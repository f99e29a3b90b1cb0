use Rattle.std.proofs.Common.{◌/◌, ◌<◌, sym, subst}
use Rattle.bit_lanes.proofs.RowLaws.{lane_within, row_without, set_without}
use Rattle.bit_lanes.proofs.row.BitRow.clear.Goals as goal

pub index_mut-requires : goal.index_mut-requires
index_mut-requires c =
    subst (λ n. c.args.i / 64 < n) (sym c.self.inside.lanes.ok.0) (lane_within c.self.inside.bits c.args.i c.self.inside.lanes.items c.args.self.now c.self.invariant c.self.view_is c.requires)

pub invariant_of-self : goal.invariant_of-self
invariant_of-self c = row_without c.self.inside.bits c.self.inside.lanes.items c.args.i c.args.self.now c.self.invariant c.self.view_is c.requires c.index_mut.result.now c.index_mut.ensures.value

pub returns : goal.returns
returns c = set_without c.self.inside.bits c.self.inside.lanes.items c.args.i c.args.self.now c.self.invariant c.self.view_is c.requires c.index_mut.result.now c.index_mut.ensures.value
