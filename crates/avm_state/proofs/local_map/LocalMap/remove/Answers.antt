use Rattle.std.proofs.Common.{is_some, sym, ap, subst, ◌∙◌, arith, T}
use Rattle.std.specs.FinMap as map
use Rattle.avm_state.specs.Keys.{local_cmp}
use Rattle.avm_state.specs.Places.{IsFound, IsGap}
use Rattle.avm_state.specs.KeyLaws.{local_cmp_total, local_cmp_same}
use Rattle.avm_state.proofs.Places as places
use Rattle.avm_state.proofs.local_map.LocalMap.remove.Goals as goal

pub remove-requires : goal.remove-requires
remove-requires c = omega (arith, places.found_within local_cmp_total (c.args.account.now, c.args.key.now) c.as_slice.result.now c.in-Ok.i c.in-Ok.ensures.found, c.as_slice.ensures.len)

pub invariant_of-self : goal.invariant_of-self
invariant_of-self c = subst (λ l. T (map.is_sorted local_cmp l)) (sym c.remove.ensures.items) (places.sorted_remove local_cmp_total c.self.inside.entries.items c.in-Ok.i c.self.invariant)

pub returns-in-Ok-clause-was : goal.returns-in-Ok-clause-was
returns-in-Ok-clause-was c =
    let found = subst (λ l. IsFound local_cmp (c.args.account.now, c.args.key.now) l c.in-Ok.i) c.as_slice.ensures.value c.in-Ok.ensures.found in
    sym (ap is_some (places.map_get_found local_cmp_total c.self.inside.entries.items c.self.invariant (c.args.account.now, c.args.key.now) c.in-Ok.i c.remove.result found))
    ∙ ap (λ m. map.contains_key m (c.args.account.now, c.args.key.now)) c.self.view_is

pub returns-in-Ok-clause-after : goal.returns-in-Ok-clause-after
returns-in-Ok-clause-after c =
    let found = subst (λ l. IsFound local_cmp (c.args.account.now, c.args.key.now) l c.in-Ok.i) c.as_slice.ensures.value c.in-Ok.ensures.found in
    ap map.from_sorted c.remove.ensures.items
    ∙ places.map_remove_found local_cmp_total local_cmp_same c.self.inside.entries.items c.self.invariant (c.args.account.now, c.args.key.now) c.in-Ok.i found
    ∙ ap (λ m. map.remove m (c.args.account.now, c.args.key.now)) c.self.view_is

pub returns-in-Err-clause-was : goal.returns-in-Err-clause-was
returns-in-Err-clause-was c =
    let gap = subst (λ l. IsGap local_cmp (c.args.account.now, c.args.key.now) l c.in-Err.field-0) c.as_slice.ensures.value c.in-Err.ensures.absent in
    sym (ap is_some (places.map_get_gap local_cmp_total c.self.inside.entries.items c.self.invariant (c.args.account.now, c.args.key.now) c.in-Err.field-0 gap))
    ∙ ap (λ m. map.contains_key m (c.args.account.now, c.args.key.now)) c.self.view_is

pub returns-in-Err-clause-after : goal.returns-in-Err-clause-after
returns-in-Err-clause-after c =
    let gap = subst (λ l. IsGap local_cmp (c.args.account.now, c.args.key.now) l c.in-Err.field-0) c.as_slice.ensures.value c.in-Err.ensures.absent in
    sym c.self.view_is
    ∙ places.map_remove_gap local_cmp_total local_cmp_same c.self.inside.entries.items c.self.invariant (c.args.account.now, c.args.key.now) c.in-Err.field-0 gap
    ∙ ap (λ m. map.remove m (c.args.account.now, c.args.key.now)) c.self.view_is
