use Rattle.std.proofs.Common.{◌≡◌, length}
use Rattle.std.specs.Prelude.{◌&&◌}
use Rattle.statement_check.specs.Statements as spec
use Rattle.statement_check.proofs.unpacking.take_parts.Given as goal

abbrev pub invariant-loop-rest : goal.invariant-loop-rest
invariant-loop-rest l = record {
  locals : (spec.taken l.locals l.rest l.parts).locals ≡ (spec.taken l.fn.locals l.fn.numbers l.fn.types).locals;
  all : l.all && (spec.taken l.locals l.rest l.parts).all ≡ (spec.taken l.fn.locals l.fn.numbers l.fn.types).all;
}

abbrev pub decreases-loop-rest : goal.decreases-loop-rest
decreases-loop-rest l = length l.rest
