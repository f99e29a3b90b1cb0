use Rattle.std.proofs.Common.{drop}
use Rattle.avm_asm.proofs.Placing.{Placed}
use Rattle.avm_asm.proofs.assembly.places_of.Given as goal

abbrev pub invariant-loop-line : goal.invariant-loop-line
invariant-loop-line l = Placed l.lines l.places l.at (drop l.line-index l.lines)
