use Rattle.std.proofs.Common.{◌≡◌, drop}
use Rattle.arc4_types.specs.Encoding.{offsets_fit}
use Rattle.arc4_types.proofs.joining.offsets_fit.Given as goal

abbrev pub invariant-loop-part : goal.invariant-loop-part
invariant-loop-part l = offsets_fit l.at (drop l.part-index l.parts) ≡ offsets_fit l.fn.at l.parts
