use Rattle.std.proofs.Common.{ap, ◌∙◌}
use Rattle.std.specs.FinMap as map
use Rattle.avm_state.specs.Keys.{local_cmp}
use Rattle.avm_state.proofs.Places as places
use Rattle.avm_state.proofs.local_map.LocalMap.new.Goals as goal

pub returns : goal.returns
returns c = ap map.from_sorted c.new.ensures.items ∙ places.map_none local_cmp
