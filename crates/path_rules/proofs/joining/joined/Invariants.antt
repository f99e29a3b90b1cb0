use Rattle.std.proofs.Common.{vec_len}
use Rattle.path_rules.specs.Steps.{Steps}
use Rattle.path_rules.specs.Describes.{Together}
use Rattle.path_rules.proofs.joining.joined.Given as goal

abbrev pub invariant-loop-parts : goal.invariant-loop-parts
invariant-loop-parts l = (fs : Steps) → Together l.initial.parts.items fs → Together l.parts.items fs

abbrev pub decreases-loop-parts : goal.decreases-loop-parts
decreases-loop-parts l = vec_len l.parts
