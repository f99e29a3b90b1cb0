use Rattle.avm_asm.specs.Listing.{AreLines}
use Rattle.machine_tests.proofs.assembling.add_ones.Given as goal

abbrev pub invariant-loop-one : goal.invariant-loop-one
invariant-loop-one l = AreLines l.lines
