use Rattle.std.proofs.Common.{◌≡◌, ◌++◌, length}
use Rattle.source_headers.specs.Modules as spec
use Rattle.source_headers.proofs.modules.judge_items.Given as goal

abbrev pub invariant-loop-rest : goal.invariant-loop-rest
invariant-loop-rest l = record {
  told : l.into ++ spec.all_item_faults l.names l.rest ≡ l.fn.into ++ spec.all_item_faults l.names l.fn.items;
  constants : l.constants ++ spec.constants l.rest ≡ l.fn.constants ++ spec.constants l.fn.items;
  functions : l.functions ++ spec.signatures l.names l.rest ≡ l.fn.functions ++ spec.signatures l.names l.fn.items;
}

abbrev pub decreases-loop-rest : goal.decreases-loop-rest
decreases-loop-rest l = length l.rest
