use Rattle.avm_ops.proofs.Roots.{root_below, root_above}
use Rattle.avm_ops.proofs.laws.square_root_is_greatest.Goals as goal

pub returns : goal.returns
returns c = λ n. (root_below n, root_above n)
