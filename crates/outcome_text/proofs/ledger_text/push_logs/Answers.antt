use Rattle.std.proofs.Common.{◌+◌, ◌≤◌, subst, arith}
use Rattle.outcome_text.specs.Text.{log_line}
use Rattle.outcome_text.proofs.Entries.{one_more}
use Rattle.outcome_text.proofs.ledger_text.push_logs.Goals as goal

pub loop-i-preserved : goal.loop-i-preserved
loop-i-preserved c = record {
  text = one_more log_line c.args.ledger.now.logs c.loop-i.i _ _ _ _ c.log.ensures c.loop-i.invariant.text c.in_ok-push_log.ensures;
  within = subst (λ k. c.loop-i.i + 1 ≤ k) c.log_count-i-end.ensures (omega arith);
}
