use Rattle.std.proofs.Common.{◌≡◌, ◌+◌, ◌≤◌, min, drop}
use Rattle.arc4_types.specs.Encoding.{head_size}
use Rattle.arc4_types.proofs.joining.head_size.Given as goal

abbrev pub invariant-loop-part : goal.invariant-loop-part
invariant-loop-part l = (l.size ≤ 65536) × (min (l.size + head_size (drop l.part-index l.parts)) 65536 ≡ min (head_size l.parts) 65536)
