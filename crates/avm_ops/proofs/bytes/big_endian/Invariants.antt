use Rattle.std.proofs.Common.{◌≡◌, ◌<◌, ◌^◌, take}
use Rattle.avm_ops.specs.Numbers.{big_endian}
use Rattle.avm_ops.proofs.bytes.big_endian.Given as goal

abbrev pub invariant-loop-b : goal.invariant-loop-b
invariant-loop-b l = (l.n ≡ big_endian (take l.b-index l.bytes)) × (l.n < 256 ^ l.b-index)
