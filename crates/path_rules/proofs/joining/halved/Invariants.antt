use Rattle.std.proofs.Common.{◌+◌, ◌*◌, ◌<◌, ◌≤◌, ◌++◌, reverse, vec_len}
use Rattle.path_rules.specs.Steps.{Steps}
use Rattle.path_rules.specs.Describes.{Together}
use Rattle.path_rules.proofs.joining.halved.Given as goal

abbrev pub invariant-loop-second : goal.invariant-loop-second
invariant-loop-second l = record {
  same : (fs : Steps) → Together l.initial.parts.items fs → Together (l.parts.items ++ reverse l.halves.items) fs;
  fewer : 2 * vec_len l.halves + vec_len l.parts ≤ vec_len l.initial.parts + 1;
  even : 0 < vec_len l.parts → 2 * vec_len l.halves + vec_len l.parts ≤ vec_len l.initial.parts;
}

abbrev pub decreases-loop-second : goal.decreases-loop-second
decreases-loop-second l = vec_len l.parts
