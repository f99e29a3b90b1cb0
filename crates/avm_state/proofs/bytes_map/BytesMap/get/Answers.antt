use Rattle.std.proofs.Common.{Some, sym, ap, subst, ◌∙◌, arith}
use Rattle.std.proofs.lemmas.Cmp.{nat_list_cmp_total}
use Rattle.std.specs.FinMap as map
use Rattle.avm_state.specs.Keys.{bytes_cmp}
use Rattle.avm_state.specs.Places.{IsFound, IsGap}
use Rattle.avm_state.proofs.Places as places
use Rattle.avm_state.proofs.bytes_map.BytesMap.get.Goals as goal

pub index-requires : goal.index-requires
index-requires g c = omega (arith, places.found_within nat_list_cmp_total c.args.key.now c.as_slice.result.now c.in-Ok.i c.in-Ok.ensures.found, c.as_slice.ensures.len)

pub returns-in-Ok : goal.returns-in-Ok
returns-in-Ok g c =
    let found = subst (λ l. IsFound bytes_cmp c.args.key.now l c.in-Ok.i) c.as_slice.ensures.value c.in-Ok.ensures.found in
    ap (λ e. Some e.1) c.index.ensures
    ∙ sym (places.map_get_found nat_list_cmp_total _ c.self.invariant c.args.key.now c.in-Ok.i c.index.result.now found)
    ∙ ap (λ m. map.get m c.args.key.now) c.self.view_is

pub returns-in-Err : goal.returns-in-Err
returns-in-Err g c =
    let gap = subst (λ l. IsGap bytes_cmp c.args.key.now l c.in-Err.field-0) c.as_slice.ensures.value c.in-Err.ensures.absent in
    sym (places.map_get_gap nat_list_cmp_total _ c.self.invariant c.args.key.now c.in-Err.field-0 gap)
    ∙ ap (λ m. map.get m c.args.key.now) c.self.view_is
