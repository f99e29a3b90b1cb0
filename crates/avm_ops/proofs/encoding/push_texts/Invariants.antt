use Rattle.std.proofs.Common.{◌≡◌, ◌++◌, take}
use Rattle.std.specs.List.{flat_map}
use Rattle.avm_ops.specs.Immediate.{sized_bytes}
use Rattle.avm_ops.proofs.encoding.push_texts.Given as goal

abbrev pub invariant-loop-text : goal.invariant-loop-text
invariant-loop-text l = l.out ≡ l.initial.out ++ flat_map sized_bytes (take l.text-index l.texts)
