use Rattle.std.proofs.Common.{◌≡◌, ◌++◌, map, drop}
use Rattle.awst.specs.Values.{all_scalars}
use Rattle.awst_eval.specs.Shown.{meant}
use Rattle.awst_eval.proofs.datum.+scalars.Given as goal

abbrev pub invariant-push_each-loop-value : goal.invariant-push_each-loop-value
invariant-push_each-loop-value l = l.out ++ all_scalars (map meant (drop l.value-index l.values)) ≡ l.initial.out ++ all_scalars (map meant l.values)
