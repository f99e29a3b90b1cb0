use Rattle.std.proofs.Common.{◌≡◌, ◌++◌, true, drop}
use Rattle.arc4_types.specs.Encoding.{heads, offsets_fit}
use Rattle.arc4_types.proofs.joining.push_heads.Given as goal

abbrev pub invariant-loop-part : goal.invariant-loop-part
invariant-loop-part l = (offsets_fit l.at (drop l.part-index l.parts) ≡ true) × (l.out ++ heads l.at (drop l.part-index l.parts) ≡ l.initial.out ++ heads l.fn.at l.parts)
