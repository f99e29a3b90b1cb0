use Rattle.std.proofs.Common.{◌≡◌, ◌++◌, drop}
use Rattle.arc4_types.specs.Encoding.{tails}
use Rattle.arc4_types.proofs.joining.push_tails.Given as goal

abbrev pub invariant-loop-part : goal.invariant-loop-part
invariant-loop-part l = l.out ++ tails (drop l.part-index l.parts) ≡ l.initial.out ++ tails l.parts
