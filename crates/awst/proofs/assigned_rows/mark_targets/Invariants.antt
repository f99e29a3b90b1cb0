use Rattle.std.proofs.Common.{◌≡◌, map, drop}
use Rattle.awst.specs.Plain.{destination, is_among}
use Rattle.awst.specs.Marks.{marked}
use Rattle.awst.proofs.assigned_rows.mark_targets.Given as goal

abbrev pub invariant-loop-target : goal.invariant-loop-target
invariant-loop-target l = marked (is_among (map destination (drop l.target-index l.targets))) l.marks ≡ marked (is_among (map destination l.targets)) l.fn.marks
