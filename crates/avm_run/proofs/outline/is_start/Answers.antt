use Rattle.std.proofs.Common.{sym}
use Rattle.avm_run.proofs.Outlines.{is_listed, is_not_listed}
use Rattle.avm_run.proofs.outline.is_start.Goals as goal

pub returns-in-Ok : goal.returns-in-Ok
returns-in-Ok c = sym (is_listed _ _ _ c.requires c.in-Ok.ensures.position)

pub returns-in-Err : goal.returns-in-Err
returns-in-Err c = sym (is_not_listed _ _ _ c.requires c.in-Err.ensures.position)
