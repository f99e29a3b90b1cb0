use Rattle.std.proofs.Common.{sym, ap, subst, ◌∙◌, arith, T}
use Rattle.std.proofs.lemmas.Cmp.{nat_list_cmp_total}
use Rattle.std.specs.FinMap as map
use Rattle.std.specs.List.{insert}
use Rattle.avm_state.specs.Keys.{bytes_cmp}
use Rattle.avm_state.specs.Places.{IsFound, IsGap}
use Rattle.avm_state.proofs.Places as places
use Rattle.avm_state.proofs.bytes_map.BytesMap.put.Goals as goal

pub index_mut-requires : goal.index_mut-requires
index_mut-requires g c = omega (arith, places.found_within nat_list_cmp_total c.args.key.now c.as_slice.result.now c.in-Ok.i c.in-Ok.ensures.found, c.as_slice.ensures.len)

pub invariant_of-self : goal.invariant_of-self
invariant_of-self g c =
    let found = subst (λ l. IsFound bytes_cmp c.args.key.now l c.in-Ok.i) c.as_slice.ensures.value c.in-Ok.ensures.found in
    places.sorted_set_at nat_list_cmp_total c.self.inside.entries.items c.self.invariant c.args.key.now c.args.value c.in-Ok.i c.index_mut.result.now c.index_mut.ensures.value found

pub returns-in-Ok-clause-ok : goal.returns-in-Ok-clause-ok
returns-in-Ok-clause-ok g c =
    let found = subst (λ l. IsFound bytes_cmp c.args.key.now l c.in-Ok.i) c.as_slice.ensures.value c.in-Ok.ensures.found in
    places.map_set_at nat_list_cmp_total c.self.inside.entries.items c.self.invariant c.args.key.now c.args.value c.in-Ok.i c.index_mut.result.now c.index_mut.ensures.value found
    ∙ ap (λ m. map.insert m c.args.key.now c.args.value) c.self.view_is

pub insert-requires : goal.insert-requires
insert-requires g c = omega (arith, places.gap_within nat_list_cmp_total c.args.key.now c.as_slice.result.now c.in-Err.i c.in-Err.ensures.absent, c.as_slice.ensures.len)

pub invariant_of-self-in-Err : goal.invariant_of-self-in-Err
invariant_of-self-in-Err g c =
    let gap = subst (λ l. IsGap bytes_cmp c.args.key.now l c.in-Err.i) c.as_slice.ensures.value c.in-Err.ensures.absent in
    let sorted = places.sorted_insert nat_list_cmp_total c.self.inside.entries.items c.self.invariant c.args.key.now c.args.value c.in-Err.i gap in
    subst (λ l. T (map.is_sorted bytes_cmp l)) (sym (c.in_ok-insert-in-Err.ensures.items ∙ ap (λ k. insert c.self.inside.entries.items c.in-Err.i (k, c.args.value)) c.in_ok-key-in-Err.ensures)) sorted

pub returns-in_ok-insert-in-Err-clause-ok : goal.returns-in_ok-insert-in-Err-clause-ok
returns-in_ok-insert-in-Err-clause-ok g c =
    let gap = subst (λ l. IsGap bytes_cmp c.args.key.now l c.in-Err.i) c.as_slice.ensures.value c.in-Err.ensures.absent in
    ap map.from_sorted (c.in_ok-insert-in-Err.ensures.items ∙ ap (λ k. insert c.self.inside.entries.items c.in-Err.i (k, c.args.value)) c.in_ok-key-in-Err.ensures)
    ∙ places.map_insert_gap nat_list_cmp_total c.self.inside.entries.items c.self.invariant c.args.key.now c.args.value c.in-Err.i gap
    ∙ ap (λ m. map.insert m c.args.key.now c.args.value) c.self.view_is
