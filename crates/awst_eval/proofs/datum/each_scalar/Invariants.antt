use Rattle.std.proofs.Common.{◌≡◌, ◌++◌, map, drop}
use Rattle.awst.specs.Values.{of_scalar}
use Rattle.awst_eval.specs.Shown.{all_meant}
use Rattle.awst_eval.proofs.datum.each_scalar.Given as goal

abbrev pub invariant-loop-value : goal.invariant-loop-value
invariant-loop-value l = all_meant l.out ++ map of_scalar (drop l.value-index l.values) ≡ map of_scalar l.values
