use Rattle.std.proofs.Common.{◌≡◌, ◌++◌, drop}
use Rattle.awst_eval.proofs.datum.+copy.Given as goal

abbrev pub invariant-copies-loop-value : goal.invariant-copies-loop-value
invariant-copies-loop-value l = l.out ++ drop l.value-index l.values ≡ l.values
