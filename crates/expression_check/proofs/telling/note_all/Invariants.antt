use Rattle.std.proofs.Common.{◌≡◌, ◌++◌, length}
use Rattle.meaning_rules.specs.Meanings.{broken_all}
use Rattle.expression_check.proofs.telling.note_all.Given as goal

abbrev pub invariant-loop-rest : goal.invariant-loop-rest
invariant-loop-rest l = l.into ++ broken_all l.rest ≡ l.fn.into ++ broken_all l.fn.told

abbrev pub decreases-loop-rest : goal.decreases-loop-rest
decreases-loop-rest l = length l.rest
