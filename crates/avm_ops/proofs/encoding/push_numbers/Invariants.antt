use Rattle.std.proofs.Common.{◌≡◌, ◌++◌, take}
use Rattle.std.specs.List.{flat_map}
use Rattle.avm_ops.specs.Varint.{number_bytes}
use Rattle.avm_ops.proofs.encoding.push_numbers.Given as goal

abbrev pub invariant-loop-n : goal.invariant-loop-n
invariant-loop-n l = l.out ≡ l.initial.out ++ flat_map number_bytes (take l.n-index l.numbers)
