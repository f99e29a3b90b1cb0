use Rattle.std.proofs.Common.{◌∙◌, sym}
use Rattle.call_file.proofs.Entering.{local_counts}
use Rattle.call_file.proofs.entries.put_local.Goals as goal

pub returns-then-local_count-count : goal.returns-then-local_count-count
returns-then-local_count-count c =
    (local_counts c.args.ledger.now c.set_local.new.self c.args.account.now c.args.key.now c.args.value.now tt c.in-Ok.ensures.steps).again (sym c.local_count.ensures ∙ c.if-local_count-count.true ∙ c.local_count-count.ensures)

pub returns-else-local_count-count : goal.returns-else-local_count-count
returns-else-local_count-count c =
    (local_counts c.args.ledger.now c.set_local.new.self c.args.account.now c.args.key.now c.args.value.now tt c.in-Ok.ensures.steps).grown (λ same. c.if-local_count-count.false (c.local_count.ensures ∙ same ∙ sym c.local_count-count.ensures))
