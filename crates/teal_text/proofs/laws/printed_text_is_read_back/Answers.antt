use Rattle.teal_text.proofs.TextLaw.{read_back}
use Rattle.teal_text.proofs.laws.printed_text_is_read_back.Goals as goal

pub returns : goal.returns
returns c = read_back
