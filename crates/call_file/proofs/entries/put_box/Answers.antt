use Rattle.std.proofs.Common.{◌∙◌, sym}
use Rattle.call_file.proofs.Entering.{box_counts}
use Rattle.call_file.proofs.entries.put_box.Goals as goal

pub returns-then-box_count-count : goal.returns-then-box_count-count
returns-then-box_count-count c =
    (box_counts c.args.ledger.now c.set_box.new.self c.args.name.now c.args.bytes.now tt c.in-Ok.ensures.steps).again (sym c.box_count.ensures ∙ c.if-box_count-count.true ∙ c.box_count-count.ensures)

pub returns-else-box_count-count : goal.returns-else-box_count-count
returns-else-box_count-count c =
    (box_counts c.args.ledger.now c.set_box.new.self c.args.name.now c.args.bytes.now tt c.in-Ok.ensures.steps).grown (λ same. c.if-box_count-count.false (c.box_count.ensures ∙ same ∙ sym c.box_count-count.ensures))
