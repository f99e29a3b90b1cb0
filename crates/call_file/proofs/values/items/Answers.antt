use Rattle.std.proofs.Common.{sym, ap, ◌∙◌, List, map, Some, arith}
use Rattle.serde_json.specs.View.{view}
use Rattle.serde_json.specs.declared.value.Value.{Value}
use Rattle.call_file.proofs.Items.{few_items, many_items}
use Rattle.call_file.proofs.values.items.Goals as goal

pub returns-then-len-most : goal.returns-then-len-most
returns-then-len-most c =
    ap (λ (vs : List Value). Some (map view vs)) c.as_slice.ensures.value
    ∙ sym (few_items c.args.most (view c.args.value.now) c.in-Some.list.now.items (sym c.in-Some.ensures) (omega (arith, c.len.ensures)))

pub returns-else-len-most : goal.returns-else-len-most
returns-else-len-most c = sym (many_items c.args.most (view c.args.value.now) c.in-Some.list.now.items (sym c.in-Some.ensures) (omega (arith, c.len.ensures)))
