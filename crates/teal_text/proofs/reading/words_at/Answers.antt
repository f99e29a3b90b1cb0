use Rattle.std.proofs.Common.{sym}
use Rattle.teal_text.proofs.TextSteps.{not_ascii}
use Rattle.teal_text.proofs.reading.words_at.Goals as goal

pub returns-else-is_ascii-clause-err : goal.returns-else-is_ascii-clause-err
returns-else-is_ascii-clause-err c = λ v. not_ascii _ v _ (sym c.if-is_ascii.ensures)
