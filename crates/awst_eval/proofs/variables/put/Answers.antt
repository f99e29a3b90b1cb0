use Rattle.std.proofs.Common.{ap, ◌∙◌}
use Rattle.std.proofs.lemmas.List.{map-set}
use Rattle.awst_eval.specs.Shown.{meant, all_meant}
use Rattle.awst_eval.proofs.variables.put.Goals as goal

pub returns-then-x-len : goal.returns-then-x-len
returns-then-x-len c = ap all_meant c.set.ensures ∙ map-set meant _ _ _
