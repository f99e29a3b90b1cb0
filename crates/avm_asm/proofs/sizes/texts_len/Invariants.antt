use Rattle.std.proofs.Common.{◌≡◌, ◌<◌, ◌^◌, ◌+◌, length, drop}
use Rattle.std.specs.List.{flat_map}
use Rattle.avm_ops.specs.Varint.{number_bytes}
use Rattle.avm_ops.specs.Immediate.{sized_bytes}
use Rattle.avm_asm.specs.Assembled.{counted}
use Rattle.avm_asm.proofs.sizes.texts_len.Given as goal

abbrev pub invariant-loop-text : goal.invariant-loop-text
invariant-loop-text l = (counted (l.total + length (flat_map sized_bytes (drop l.text-index l.texts))) ≡ counted (length (number_bytes (length l.texts)) + length (flat_map sized_bytes l.texts))) × (l.total < 2 ^ 64)
