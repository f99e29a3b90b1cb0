use Rattle.arc4_types.proofs.Whole.{one_value}
use Rattle.arc4_types.proofs.laws.encoding_is_injective.Goals as goal

pub returns : goal.returns
returns c = one_value
