use Rattle.arc4_types.proofs.Whole.{decodes}
use Rattle.arc4_types.proofs.laws.encodings_are_read.Goals as goal

pub returns : goal.returns
returns c = decodes
