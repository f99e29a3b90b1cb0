use Rattle.std.proofs.Common.{ap, ◌∙◌}
use Rattle.std.specs.FinMap as map
use Rattle.avm_state.specs.Keys.{bytes_cmp}
use Rattle.avm_state.proofs.Places as places
use Rattle.avm_state.proofs.bytes_map.BytesMap.new.Goals as goal

pub returns : goal.returns
returns g c = ap map.from_sorted c.new.ensures.items ∙ places.map_none bytes_cmp
