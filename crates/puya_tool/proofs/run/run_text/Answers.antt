use Rattle.std.proofs.Common.{◌≡◌}
use Rattle.puya_tool.proofs.run.run_text.Goals as goal

pub returns-in_ok-run_saved-in-Ok : goal.returns-in_ok-run_saved-in-Ok
returns-in_ok-run_saved-in-Ok c = (c.in-Ok.saved, rw c.in-Ok.is at c.in_ok-fault.ensures, c.in_ok-run_saved-in-Ok.ensures)
