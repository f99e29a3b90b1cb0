use Rattle.teal_text.proofs.TextSteps.{return_taken, no_return}
use Rattle.teal_text.proofs.reading.without_return.Goals as goal

pub returns-then-last-eq13 : goal.returns-then-last-eq13
returns-then-last-eq13 c = return_taken _ c.in-len1-up.len_at_least c.if-last-eq13.true

pub returns-else-last-eq13 : goal.returns-else-last-eq13
returns-else-last-eq13 c = no_return _ (λ h. c.if-last-eq13.false)
