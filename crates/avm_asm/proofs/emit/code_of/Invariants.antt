use Rattle.std.proofs.Common.{drop}
use Rattle.avm_asm.proofs.Coding.{Coded}
use Rattle.avm_asm.proofs.emit.code_of.Given as goal

abbrev pub invariant-loop-line : goal.invariant-loop-line
invariant-loop-line l = Coded l.places l.lines l.code (drop l.line-index l.lines)
