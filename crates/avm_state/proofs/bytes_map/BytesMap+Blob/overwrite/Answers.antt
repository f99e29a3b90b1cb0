use Rattle.std.proofs.Common.{sym, ap, subst, ◌∙◌, arith}
use Rattle.std.proofs.lemmas.Cmp.{nat_list_cmp_total}
use Rattle.std.specs.FinMap as map
use Rattle.avm_state.specs.Keys.{bytes_cmp}
use Rattle.avm_state.specs.Places.{IsFound, IsGap}
use Rattle.avm_state.proofs.Places as places
use Rattle.avm_state.proofs.Boxes.{overwrites_at, overwrites_none}
use Rattle.avm_state.proofs.bytes_map.BytesMap+Blob.overwrite.Goals as goal

pub index_mut-requires : goal.index_mut-requires
index_mut-requires c = omega (arith, places.found_within nat_list_cmp_total c.args.key.now c.as_slice.result.now c.in-Ok.i c.in-Ok.ensures.found, c.as_slice.ensures.len)

pub invariant_of-self : goal.invariant_of-self
invariant_of-self c =
    let found = subst (λ l. IsFound bytes_cmp c.args.key.now l c.in-Ok.i) c.as_slice.ensures.value c.in-Ok.ensures.found in
    places.sorted_set_at nat_list_cmp_total c.self.inside.entries.items c.self.invariant c.args.key.now c.write_part.new.bytes c.in-Ok.i c.index_mut.result.now c.index_mut.ensures.value found

pub returns-in-Ok : goal.returns-in-Ok
returns-in-Ok c =
    let found = subst (λ l. IsFound bytes_cmp c.args.key.now l c.in-Ok.i) c.as_slice.ensures.value c.in-Ok.ensures.found in
    overwrites_at c.self.inside.entries.items c.self.invariant c.args.key.now c.in-Ok.i c.index_mut.result.now c.index_mut.ensures.value found
    c.args.start c.args.part.now c.write_part.new.bytes c.write_part.result c.write_part.ensures c.args.self.now c.self.view_is

pub returns-in-Err : goal.returns-in-Err
returns-in-Err c =
    let gap = subst (λ l. IsGap bytes_cmp c.args.key.now l c.in-Err.field-0) c.as_slice.ensures.value c.in-Err.ensures.absent in
    overwrites_none c.args.self.now c.args.key.now c.args.start c.args.part.now (map.get c.args.self.now c.args.key.now)
    (sym (places.map_get_gap nat_list_cmp_total c.self.inside.entries.items c.self.invariant c.args.key.now c.in-Err.field-0 gap) ∙ ap (λ m. map.get m c.args.key.now) c.self.view_is)
