use Rattle.teal_line.proofs.LabelSteps.{label_utf8}
use Rattle.teal_line.proofs.labels.label_name.Goals as goal

pub unreachable-requires : goal.unreachable-requires
unreachable-requires c = c.in-Err.ensures.cases.0 (label_utf8 c.args.word.now c.requires)
