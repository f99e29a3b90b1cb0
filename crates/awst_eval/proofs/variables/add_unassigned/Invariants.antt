use Rattle.std.proofs.Common.{◌≡◌, ◌++◌, replicate}
use Rattle.awst.specs.Values.{nothing}
use Rattle.awst_eval.specs.Shown.{all_meant}
use Rattle.awst_eval.proofs.variables.add_unassigned.Given as goal

abbrev pub invariant-loop-left : goal.invariant-loop-left
invariant-loop-left l = all_meant l.env ++ replicate l.left nothing ≡ all_meant l.initial.env ++ replicate l.count nothing

abbrev pub decreases-loop-left : goal.decreases-loop-left
decreases-loop-left l = l.left
