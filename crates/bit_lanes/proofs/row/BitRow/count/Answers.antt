use Rattle.std.proofs.Common.{sym}
use Rattle.bit_lanes.proofs.CountLaws.{none_counted, counted_more, counted_fits, counted_all}
use Rattle.bit_lanes.proofs.row.BitRow.count.Goals as goal

pub loop-lane-init : goal.loop-lane-init
loop-lane-init c = sym (none_counted c.deref-lane-items.result.now)

pub overflow_add-total : goal.overflow_add-total
overflow_add-total c = record { fits = counted_fits c.self.inside.bits c.self.inside.lanes.items c.deref-lane-items.result.now c.self.invariant c.deref-lane-items.ensures.value c.loop-lane.lane-index c.loop-lane.total c.loop-lane.invariant }

pub loop-lane-preserved : goal.loop-lane-preserved
loop-lane-preserved c = counted_more c.self.inside.bits c.self.inside.lanes.items c.deref-lane-items.result.now c.self.invariant c.deref-lane-items.ensures.value c.loop-lane.lane-index c.loop-lane.total c.loop-lane.invariant

pub returns : goal.returns
returns c = counted_all c.self.inside.bits c.self.inside.lanes.items c.deref-lane-items.result.now c.self.invariant c.deref-lane-items.ensures.value c.loop-lane.lane-index c.loop-lane.total c.loop-lane.invariant c.loop-lane-test.false c.args.self.now c.self.view_is
