use Rattle.std.proofs.Common.{◌+◌, ◌≤◌, subst, ◌∙◌, arith}
use Rattle.std.specs.FinMap as map
use Rattle.outcome_text.specs.Text.{local_line}
use Rattle.outcome_text.proofs.Entries.{one_more, all_of, entry_of_account}
use Rattle.outcome_text.proofs.ledger_text.push_locals.Goals as goal

pub loop-i-preserved : goal.loop-i-preserved
loop-i-preserved c =
    let entry = entry_of_account (map.entries c.args.ledger.now.local) c.loop-i.i _ _ _ c.local_account.ensures c.local_key.ensures c.local_value.ensures in
    record {
      text = one_more local_line (map.entries c.args.ledger.now.local) c.loop-i.i _ _ _ _ entry c.loop-i.invariant.text c.in_ok-push_local.ensures;
      within = subst (λ k. c.loop-i.i + 1 ≤ k) (c.local_count-i-end.ensures ∙ map.len-entries c.args.ledger.now.local) (omega arith);
    }

pub returns : goal.returns
returns c = all_of local_line (map.entries c.args.ledger.now.local) c.loop-i.i _ _ (subst (λ k. k ≤ c.loop-i.i) (c.local_count-i-end.ensures ∙ map.len-entries c.args.ledger.now.local) c.loop-i-test.false) c.loop-i.invariant.text
