use Rattle.std.proofs.Common.{map, subst}
use Rattle.teal_line.specs.Reading.{Says}
use Rattle.teal_line.proofs.FormatSteps.{no_branch}
use Rattle.teal_line.proofs.reading.statement.Goals as goal

pub returns-in_default : goal.returns-in_default
returns-in_default c =
    record {
      value = subst (λ due. Says c.operation.result due) (no_branch c.args.op c.args.format (map (λ w. w.now) c.args.words.now) c.in_default.not-Jump c.in_default.not-Jumps) c.operation.ensures.value;
      counted = c.operation.ensures.counted;
    }
