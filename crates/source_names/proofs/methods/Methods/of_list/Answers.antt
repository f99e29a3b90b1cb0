use Rattle.std.proofs.Common.{ap, ◌∙◌, arith, get_or, length}
use Rattle.std.specs.HashMap.{get_by_text}
use Rattle.source_names.specs.Lookups.{first_of, value_at}
use Rattle.source_names.proofs.Finding.{one_method}
use Rattle.source_names.proofs.methods.Methods.of_list.Goals as goal

pub loop-method-preserved : goal.loop-method-preserved
loop-method-preserved c = λ n.
    one_method c.args.list c.loop-method.method-index c.method-item.result n (get_by_text c.loop-method.functions n) (get_by_text c.note.new.map n)
    (c.method-item.is ∙ ap (λ es. get_or es c.loop-method.method-index c.method-item.result) c.as_slice-method-items.ensures)
    (omega (arith, c.loop-method-test.true, c.loop-method.auto.method-index-end, ap length c.as_slice-method-items.ensures))
    (c.loop-method.invariant n)
    (c.in_ok-note.ensures n ∙ ap (λ m. first_of (get_by_text c.loop-method.functions n) (value_at m c.method-item.result.function n)) c.as_str.ensures)
