use Rattle.std.proofs.Common.{◌≡◌, replicate, arith}
use Rattle.bit_lanes.proofs.RowLaws.{empty_row, empty_members}
use Rattle.bit_lanes.proofs.row.BitRow.new.Goals as goal

pub invariant_of-result : goal.invariant_of-result
invariant_of-result c =
    let zeros : c.in_ok-lanes.lanes.items ≡ replicate c.div_ceil.result 0 = c.in_ok-lanes.ensures.items_if_clones_equal (λ y h. h) in
    rw zeros (empty_row c.args.bits c.div_ceil.result c.ranges.bits.fits (omega (arith, c.div_ceil.ensures)) (omega (arith, c.div_ceil.ensures)))

pub returns : goal.returns
returns c =
    let zeros : c.in_ok-lanes.lanes.items ≡ replicate c.div_ceil.result 0 = c.in_ok-lanes.ensures.items_if_clones_equal (λ y h. h) in
    rw zeros (empty_members c.args.bits c.div_ceil.result)
