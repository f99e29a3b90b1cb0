use Rattle.std.proofs.Common.{◌+◌, ◌≤◌, subst, ◌∙◌, arith}
use Rattle.std.specs.FinMap as map
use Rattle.outcome_text.specs.Text.{global_line}
use Rattle.outcome_text.proofs.Entries.{one_more, all_of, entry_of}
use Rattle.outcome_text.proofs.ledger_text.push_globals.Goals as goal

pub loop-i-preserved : goal.loop-i-preserved
loop-i-preserved c =
    let entry = entry_of (map.entries c.args.ledger.now.global) c.loop-i.i _ _ c.global_key.ensures c.global_value.ensures in
    record {
      text = one_more global_line (map.entries c.args.ledger.now.global) c.loop-i.i _ _ _ _ entry c.loop-i.invariant.text c.in_ok-push_global.ensures;
      within = subst (λ k. c.loop-i.i + 1 ≤ k) (c.global_count-i-end.ensures ∙ map.len-entries c.args.ledger.now.global) (omega arith);
    }

pub returns : goal.returns
returns c = all_of global_line (map.entries c.args.ledger.now.global) c.loop-i.i _ _ (subst (λ k. k ≤ c.loop-i.i) (c.global_count-i-end.ensures ∙ map.len-entries c.args.ledger.now.global) c.loop-i-test.false) c.loop-i.invariant.text
