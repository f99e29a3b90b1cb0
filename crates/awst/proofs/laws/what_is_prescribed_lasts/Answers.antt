use Rattle.awst.proofs.Keeps.{lasts}
use Rattle.awst.proofs.laws.what_is_prescribed_lasts.Goals as goal

pub returns : goal.returns
returns c = lasts
