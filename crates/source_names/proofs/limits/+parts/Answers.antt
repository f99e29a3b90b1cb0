use Rattle.std.proofs.Common.{arith}
use Rattle.source_names.proofs.Left.{too_large, next_part}
use Rattle.source_names.proofs.limits.+parts.Goals as goal

pub all_parts_left-returns-in-None : goal.all_parts_left-returns-in-None
all_parts_left-returns-in-None t c =
    too_large c.args.types.now c.loop-ty.ty-index c.loop-ty.room c.args.limit c.ty-item.result c.ty-item.is
    (omega (arith, c.loop-ty-test.true, c.loop-ty.auto.ty-index-end)) (omega (arith, c.if-room-eq0.false)) c.in-None.ensures c.loop-ty.invariant

pub all_parts_left-loop-ty-preserved : goal.all_parts_left-loop-ty-preserved
all_parts_left-loop-ty-preserved t c =
    next_part c.args.types.now c.loop-ty.ty-index c.loop-ty.room c.args.limit c.in-Some.left c.ty-item.result c.ty-item.is
    (omega (arith, c.loop-ty-test.true, c.loop-ty.auto.ty-index-end)) (omega (arith, c.if-room-eq0.false)) c.in-Some.ensures c.loop-ty.invariant
