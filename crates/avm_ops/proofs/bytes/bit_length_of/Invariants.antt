use Rattle.std.proofs.Common.{◌≡◌, drop}
use Rattle.avm_ops.specs.Numbers.{big_endian}
use Rattle.avm_ops.proofs.bytes.bit_length_of.Given as goal

abbrev pub invariant-loop-i : goal.invariant-loop-i
invariant-loop-i l = big_endian l.bytes ≡ big_endian (drop l.i l.bytes)
