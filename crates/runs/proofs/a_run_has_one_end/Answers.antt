use Rattle.runs.proofs.Laws.{one_end}
use Rattle.runs.proofs.a_run_has_one_end.Goals as goal

pub returns : goal.returns
returns c = one_end
