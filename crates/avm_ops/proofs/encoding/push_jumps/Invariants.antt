use Rattle.std.proofs.Common.{◌≡◌, ◌++◌, take}
use Rattle.std.specs.List.{flat_map}
use Rattle.avm_ops.specs.Immediate.{jump_bytes}
use Rattle.avm_ops.proofs.encoding.push_jumps.Given as goal

abbrev pub invariant-loop-jump : goal.invariant-loop-jump
invariant-loop-jump l = l.out ≡ l.initial.out ++ flat_map jump_bytes (take l.jump-index l.jumps)
