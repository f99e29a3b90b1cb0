use Rattle.std.proofs.Common.{◌+◌, ◌≤◌, subst, ◌∙◌, arith}
use Rattle.std.specs.FinMap as map
use Rattle.outcome_text.specs.Text.{box_line}
use Rattle.outcome_text.proofs.Entries.{one_more, all_of, entry_of}
use Rattle.outcome_text.proofs.ledger_text.push_boxes.Goals as goal

pub loop-i-preserved : goal.loop-i-preserved
loop-i-preserved c =
    let entry = entry_of (map.entries c.args.ledger.now.boxes) c.loop-i.i _ _ c.box_name.ensures c.box_bytes.ensures in
    record {
      text = one_more box_line (map.entries c.args.ledger.now.boxes) c.loop-i.i _ _ _ _ entry c.loop-i.invariant.text c.in_ok-push_box.ensures;
      within = subst (λ k. c.loop-i.i + 1 ≤ k) (c.box_count-i-end.ensures ∙ map.len-entries c.args.ledger.now.boxes) (omega arith);
    }

pub returns : goal.returns
returns c = all_of box_line (map.entries c.args.ledger.now.boxes) c.loop-i.i _ _ (subst (λ k. k ≤ c.loop-i.i) (c.box_count-i-end.ensures ∙ map.len-entries c.args.ledger.now.boxes) c.loop-i-test.false) c.loop-i.invariant.text
