use Rattle.teal_line.proofs.Law.{reads_back}
use Rattle.teal_line.proofs.laws.statements_read_back.Goals as goal

pub returns : goal.returns
returns c = reads_back
