use Rattle.std.proofs.Common.{◌≡◌, [], ◌∷◌}
use Rattle.std.specs.List.{repeat}
use Rattle.avm_ops.proofs.bytes.zeros.Given as goal

abbrev pub invariant-loop-index : goal.invariant-loop-index
invariant-loop-index l = l.zeros ≡ repeat l.index (0 ∷ [])
