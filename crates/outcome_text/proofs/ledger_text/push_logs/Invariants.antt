use Rattle.std.proofs.Common.{◌≡◌, ◌≤◌, ◌++◌, length, take}
use Rattle.std.specs.List.{flat_map}
use Rattle.outcome_text.specs.Text.{log_line}
use Rattle.outcome_text.proofs.ledger_text.push_logs.Given as goal

abbrev pub invariant-loop-i : goal.invariant-loop-i
invariant-loop-i l = record {
  text : l.out ≡ l.initial.out ++ flat_map log_line (take l.i l.ledger.logs);
  within : l.i ≤ length l.ledger.logs;
}
