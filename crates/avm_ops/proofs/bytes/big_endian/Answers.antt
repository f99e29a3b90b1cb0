use Rattle.std.proofs.Common.{◌+◌, ◌*◌, ◌<◌, ◌^◌, arith}
use Rattle.avm_ops.proofs.Digits.{room_for_byte}
use Rattle.avm_ops.proofs.bytes.big_endian.Goals as goal

pub overflow_mul-n : goal.overflow_mul-n
overflow_mul-n c =
    let p : c.loop-b.n * 256 + 255 < 2 ^ 64 = room_for_byte c.loop-b.n c.loop-b.b-index c.loop-b.invariant.1 (omega arith) in
    omega (arith, p)
