use Rattle.std.proofs.Common.{sym, arith}
use Rattle.teal_line.proofs.LabelSteps.{colon_is, colon_not}
use Rattle.teal_line.proofs.labels.before_colon.Goals as goal

pub returns-then-last-eq58 : goal.returns-then-last-eq58
returns-then-last-eq58 c = sym (colon_is c.args.word.now (omega arith) c.if-last-eq58.true)

pub returns-else-last-eq58 : goal.returns-else-last-eq58
returns-else-last-eq58 c = sym (colon_not c.args.word.now (omega arith) c.if-last-eq58.false)
