use Rattle.std.proofs.Common.{◌≡◌, length}
use Rattle.statement_check.specs.Statements as spec
use Rattle.expression_check.specs.Walking.{targets_behind}
use Rattle.statement_check.proofs.unpacking.slot_targets.Given as goal

abbrev pub invariant-loop-rest : goal.invariant-loop-rest
invariant-loop-rest l = targets_behind l.targets (spec.slot_targets l.rest) ≡ spec.slot_targets l.fn.numbers

abbrev pub decreases-loop-rest : goal.decreases-loop-rest
decreases-loop-rest l = length l.rest
