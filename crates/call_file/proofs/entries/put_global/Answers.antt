use Rattle.std.proofs.Common.{◌∙◌, sym}
use Rattle.call_file.proofs.Entering.{global_counts}
use Rattle.call_file.proofs.entries.put_global.Goals as goal

pub returns-then-global_count-count : goal.returns-then-global_count-count
returns-then-global_count-count c =
    (global_counts c.args.ledger.now c.global_put.new.self c.args.key.now c.args.value.now tt c.in-Ok.ensures.steps).again (sym c.global_count.ensures ∙ c.if-global_count-count.true ∙ c.global_count-count.ensures)

pub returns-else-global_count-count : goal.returns-else-global_count-count
returns-else-global_count-count c =
    (global_counts c.args.ledger.now c.global_put.new.self c.args.key.now c.args.value.now tt c.in-Ok.ensures.steps).grown (λ same. c.if-global_count-count.false (c.global_count.ensures ∙ same ∙ sym c.global_count-count.ensures))
