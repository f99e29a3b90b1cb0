use Rattle.arc4_types.proofs.Whole.{encodes}
use Rattle.arc4_types.proofs.laws.only_encodings_are_read.Goals as goal

pub returns : goal.returns
returns c = encodes
