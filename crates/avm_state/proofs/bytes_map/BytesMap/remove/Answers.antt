use Rattle.std.proofs.Common.{is_some, sym, ap, subst, ◌∙◌, arith, T}
use Rattle.std.proofs.lemmas.Cmp.{nat_list_cmp_total}
use Rattle.std.specs.FinMap as map
use Rattle.avm_state.specs.Keys.{bytes_cmp}
use Rattle.avm_state.specs.Places.{IsFound, IsGap}
use Rattle.avm_state.specs.KeyLaws.{bytes_cmp_same}
use Rattle.avm_state.proofs.Places as places
use Rattle.avm_state.proofs.bytes_map.BytesMap.remove.Goals as goal

pub remove-requires : goal.remove-requires
remove-requires g c = omega (arith, places.found_within nat_list_cmp_total c.args.key.now c.as_slice.result.now c.in-Ok.i c.in-Ok.ensures.found, c.as_slice.ensures.len)

pub invariant_of-self : goal.invariant_of-self
invariant_of-self g c = subst (λ l. T (map.is_sorted bytes_cmp l)) (sym c.remove.ensures.items) (places.sorted_remove nat_list_cmp_total c.self.inside.entries.items c.in-Ok.i c.self.invariant)

pub returns-in-Ok-clause-was : goal.returns-in-Ok-clause-was
returns-in-Ok-clause-was g c =
    let found = subst (λ l. IsFound bytes_cmp c.args.key.now l c.in-Ok.i) c.as_slice.ensures.value c.in-Ok.ensures.found in
    sym (ap is_some (places.map_get_found nat_list_cmp_total c.self.inside.entries.items c.self.invariant c.args.key.now c.in-Ok.i c.remove.result found))
    ∙ ap (λ m. map.contains_key m c.args.key.now) c.self.view_is

pub returns-in-Ok-clause-after : goal.returns-in-Ok-clause-after
returns-in-Ok-clause-after g c =
    let found = subst (λ l. IsFound bytes_cmp c.args.key.now l c.in-Ok.i) c.as_slice.ensures.value c.in-Ok.ensures.found in
    ap map.from_sorted c.remove.ensures.items
    ∙ places.map_remove_found nat_list_cmp_total bytes_cmp_same c.self.inside.entries.items c.self.invariant c.args.key.now c.in-Ok.i found
    ∙ ap (λ m. map.remove m c.args.key.now) c.self.view_is

pub returns-in-Err-clause-was : goal.returns-in-Err-clause-was
returns-in-Err-clause-was g c =
    let gap = subst (λ l. IsGap bytes_cmp c.args.key.now l c.in-Err.field-0) c.as_slice.ensures.value c.in-Err.ensures.absent in
    sym (ap is_some (places.map_get_gap nat_list_cmp_total c.self.inside.entries.items c.self.invariant c.args.key.now c.in-Err.field-0 gap))
    ∙ ap (λ m. map.contains_key m c.args.key.now) c.self.view_is

pub returns-in-Err-clause-after : goal.returns-in-Err-clause-after
returns-in-Err-clause-after g c =
    let gap = subst (λ l. IsGap bytes_cmp c.args.key.now l c.in-Err.field-0) c.as_slice.ensures.value c.in-Err.ensures.absent in
    sym c.self.view_is
    ∙ places.map_remove_gap nat_list_cmp_total bytes_cmp_same c.self.inside.entries.items c.self.invariant c.args.key.now c.in-Err.field-0 gap
    ∙ ap (λ m. map.remove m c.args.key.now) c.self.view_is
