use Rattle.std.proofs.Common.{◌≡◌, ◌++◌, length}
use Rattle.statement_check.specs.Statements as spec
use Rattle.statement_check.proofs.unpacking.note_slots.Given as goal

abbrev pub invariant-loop-rest : goal.invariant-loop-rest
invariant-loop-rest l = l.into ++ spec.all_assigned l.rest ≡ l.fn.into ++ spec.all_assigned l.fn.numbers

abbrev pub decreases-loop-rest : goal.decreases-loop-rest
decreases-loop-rest l = length l.rest
