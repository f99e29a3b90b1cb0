use Rattle.std.proofs.Common.{◌≡◌, length}
use Rattle.part_tests.proofs.bits.multiples_of_three.Given as goal

abbrev pub invariant-loop-i : goal.invariant-loop-i
invariant-loop-i l = length l.row ≡ l.bits
