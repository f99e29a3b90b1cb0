use Rattle.std.proofs.Common.{refl, ◌∷◌, []}
use Rattle.source_headers.specs.Modules.{item_faults, all_item_faults, constants, signatures}
use Rattle.source_headers.proofs.Behind.{told_behind}
use Rattle.source_headers.proofs.Lines.{first_constants, first_signatures}
use Rattle.source_headers.proofs.modules.judge_items.Goals as goal

pub loop-rest-preserved : goal.loop-rest-preserved
loop-rest-preserved c = record {
  told = told_behind (all_item_faults c.args.names.now) (item_faults c.args.names.now c.item-item.result) c.loop-rest.rest.now c.item-item.result
      c.loop-rest.into c.judge_item.new.into _ c.item-item.is c.in-len1-up.len_at_least (λ ys. refl) c.in_ok-judge_item.ensures.told c.loop-rest.invariant.told;
  constants = told_behind constants (constants (c.item-item.result ∷ [])) c.loop-rest.rest.now c.item-item.result c.loop-rest.constants c.judge_item.new.constants _
      c.item-item.is c.in-len1-up.len_at_least (first_constants c.item-item.result) c.in_ok-judge_item.ensures.constants c.loop-rest.invariant.constants;
  functions = told_behind (signatures c.args.names.now) (signatures c.args.names.now (c.item-item.result ∷ [])) c.loop-rest.rest.now c.item-item.result
      c.loop-rest.functions c.judge_item.new.functions _ c.item-item.is c.in-len1-up.len_at_least (first_signatures c.args.names.now c.item-item.result)
      c.in_ok-judge_item.ensures.functions c.loop-rest.invariant.functions;
}
