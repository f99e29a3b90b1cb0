use Rattle.std.proofs.Common.{◌≡◌, ◌++◌, map, drop}
use Rattle.awst.specs.Forms.{log_parts}
use Rattle.awst_eval.specs.Shown.{meant}
use Rattle.awst_eval.proofs.computing.joined_parts.Given as goal

abbrev pub invariant-loop-part : goal.invariant-loop-part
invariant-loop-part l = l.out ++ log_parts (map meant (drop l.part-index l.parts)) ≡ log_parts (map meant l.parts)
