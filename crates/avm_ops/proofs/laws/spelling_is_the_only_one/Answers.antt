use Rattle.avm_ops.proofs.Only.{spelt_at}
use Rattle.avm_ops.proofs.laws.spelling_is_the_only_one.Goals as goal

pub returns : goal.returns
returns c = spelt_at
