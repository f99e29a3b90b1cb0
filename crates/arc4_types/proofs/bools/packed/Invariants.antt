use Rattle.std.proofs.Common.{◌≡◌, ◌+◌, ◌*◌, ◌<◌, ◌≤◌, drop}
use Rattle.arc4_types.proofs.Packing.{packed_after}
use Rattle.arc4_types.proofs.bools.packed.Given as goal

abbrev pub invariant-loop-value : goal.invariant-loop-value
invariant-loop-value l = (l.byte + 2 * l.weight ≤ 256) × (l.byte + l.weight < 256) × (packed_after l.byte l.weight (drop l.value-index l.values) ≡ packed_after 0 128 l.values)
