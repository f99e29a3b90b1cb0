use Rattle.std.proofs.Common.{◌≡◌, ◌<◌, ◌^◌, ◌+◌, length, drop}
use Rattle.std.specs.List.{flat_map}
use Rattle.avm_ops.specs.Varint.{number_bytes}
use Rattle.avm_asm.specs.Assembled.{counted}
use Rattle.avm_asm.proofs.sizes.numbers_len.Given as goal

abbrev pub invariant-loop-n : goal.invariant-loop-n
invariant-loop-n l = (counted (l.total + length (flat_map number_bytes (drop l.n-index l.numbers))) ≡ counted (length (number_bytes (length l.numbers)) + length (flat_map number_bytes l.numbers))) × (l.total < 2 ^ 64)
