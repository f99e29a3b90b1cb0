use Rattle.std.proofs.Common.{◌≡◌, map, drop}
use Rattle.awst.specs.Meaning.{put_each}
use Rattle.awst.specs.Plain.{destination}
use Rattle.awst_eval.specs.Shown.{all_meant}
use Rattle.awst_eval.proofs.variables.put_each.Given as goal

abbrev pub invariant-loop-i : goal.invariant-loop-i
invariant-loop-i l = put_each (map destination (drop l.i l.targets)) (all_meant (drop l.i l.values)) (all_meant l.env) ≡ put_each (map destination l.targets) (all_meant l.values) (all_meant l.initial.env)
