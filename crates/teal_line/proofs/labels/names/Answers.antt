use Rattle.std.proofs.Common.{arith}
use Rattle.teal_line.proofs.LabelSteps.{label_at}
use Rattle.teal_line.proofs.labels.names.Goals as goal

pub label_name-requires : goal.label_name-requires
label_name-requires c = label_at (λ w. w.now) c.args.words.now c.loop-word.word-index _ c.requires (omega arith)
