use Rattle.std.proofs.Common.{ap, ◌∙◌, ◌+◌, ◌<◌, arith, get_or, length}
use Rattle.std.specs.HashMap.{get_by_text}
use Rattle.source_names.specs.Lookups.{first_of, value_at, with_name}
use Rattle.source_names.specs.Things.{names_variable}
use Rattle.expression_check.proofs.Variables.{names_next, number_next}
use Rattle.expression_check.proofs.locals.Locals.new.Goals as goal

pub loop-local-preserved : goal.loop-local-preserved
loop-local-preserved c =
    let low : c.loop-local.local-index < length c.args.list.items = omega (arith, c.loop-local-test.true, c.loop-local.auto.local-index-end, c.deref-local-items.ensures.len, ap length c.deref-local-items.ensures.value) in
    let is = c.local-item.is ∙ ap (λ xs. get_or xs c.loop-local.local-index c.local-item.result) c.deref-local-items.ensures.value in
    record {
      count = c.in_ok-number.ensures ∙ ap (λ k. k + 1) c.loop-local.invariant.count;
      numbers = λ n. number_next c.args.list.items c.loop-local.local-index c.local-item.result n (get_by_text c.loop-local.numbers n) (get_by_text c.note-in-loop-local.new.map n) is low
          (c.loop-local.invariant.numbers n)
          (c.in_ok-note-2.ensures n ∙ ap (λ m. first_of (get_by_text c.loop-local.numbers n) (value_at m c.loop-local.number n)) c.as_str-in-loop-local.ensures
          ∙ ap (λ k. first_of (get_by_text c.loop-local.numbers n) (value_at c.local-item.result.name k n)) c.loop-local.invariant.count);
      names = λ n. ap (λ ns. names_variable ns n) (c.in_ok-note.ensures.added ∙ ap (λ m. with_name c.loop-local.names m) c.as_str.ensures)
          ∙ names_next c.args.list.items c.loop-local.local-index c.local-item.result c.loop-local.names n is low c.loop-local.invariant.names;
    }
