use Rattle.std.proofs.Common.{sym, ap, ◌∙◌, length}
use Rattle.std.proofs.lemmas.Cmp.{nat_list_cmp_total}
use Rattle.std.specs.FinMap as map
use Rattle.avm_state.proofs.Places as places
use Rattle.avm_state.proofs.bytes_map.BytesMap.len.Goals as goal

pub returns : goal.returns
returns g c = ap length c.as_slice.ensures.value ∙ sym (places.map_len nat_list_cmp_total c.self.inside.entries.items c.self.invariant) ∙ ap map.len c.self.view_is
