use Rattle.std.proofs.Common.{◌≡◌, drop}
use Rattle.awst.specs.Meaning.{arranged, arguments}
use Rattle.awst_eval.specs.Shown.{all_meant}
use Rattle.awst_eval.proofs.variables.arguments.Given as goal

abbrev pub invariant-loop-i : goal.invariant-loop-i
invariant-loop-i l = arranged (drop l.i l.order) (all_meant (drop l.i l.values)) (all_meant l.placed) ≡ arguments l.order (all_meant l.values)
