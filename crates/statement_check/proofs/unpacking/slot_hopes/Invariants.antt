use Rattle.std.proofs.Common.{◌≡◌, ◌++◌, length}
use Rattle.statement_check.specs.Statements as spec
use Rattle.statement_check.proofs.unpacking.slot_hopes.Given as goal

abbrev pub invariant-loop-rest : goal.invariant-loop-rest
invariant-loop-rest l = l.hopes ++ spec.slot_hopes l.locals l.rest ≡ spec.slot_hopes l.locals l.fn.numbers

abbrev pub decreases-loop-rest : goal.decreases-loop-rest
decreases-loop-rest l = length l.rest
