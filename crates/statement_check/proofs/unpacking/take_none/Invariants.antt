use Rattle.std.proofs.Common.{◌≡◌, length}
use Rattle.statement_check.specs.Statements as spec
use Rattle.statement_check.proofs.unpacking.take_none.Given as goal

abbrev pub invariant-loop-rest : goal.invariant-loop-rest
invariant-loop-rest l = spec.none_taken l.locals l.rest ≡ spec.none_taken l.fn.locals l.fn.numbers

abbrev pub decreases-loop-rest : goal.decreases-loop-rest
decreases-loop-rest l = length l.rest
