use Rattle.std.proofs.Common.{ap, ◌∙◌, arith, get_or, length}
use Rattle.std.specs.HashMap.{get_by_text}
use Rattle.source_names.specs.Lookups.{first_of, value_at}
use Rattle.source_names.proofs.Finding.{one_line}
use Rattle.source_names.proofs.module_names.ModuleNames.new.Goals as goal

pub loop-entry-preserved : goal.loop-entry-preserved
loop-entry-preserved c = λ n.
    one_line c.args.entries c.loop-entry.entry-index c.entry-item.result n (get_by_text c.loop-entry.things n) (get_by_text c.note.new.map n)
    (c.entry-item.is ∙ ap (λ es. get_or es c.loop-entry.entry-index c.entry-item.result) c.as_slice-entry-items.ensures)
    (omega (arith, c.loop-entry-test.true, c.loop-entry.auto.entry-index-end, ap length c.as_slice-entry-items.ensures))
    (c.loop-entry.invariant n)
    (c.in_ok-note.ensures n ∙ ap (λ m. first_of (get_by_text c.loop-entry.things n) (value_at m c.entry-item.result.thing n)) c.as_str.ensures)
