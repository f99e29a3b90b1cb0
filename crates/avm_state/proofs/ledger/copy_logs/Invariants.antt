use Rattle.std.proofs.Common.{◌≡◌, take}
use Rattle.avm_state.proofs.ledger.copy_logs.Given as goal

abbrev pub invariant-loop-log : goal.invariant-loop-log
invariant-loop-log l = l.copies ≡ take l.log-index l.logs
