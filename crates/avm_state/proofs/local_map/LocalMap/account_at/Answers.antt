use Rattle.std.proofs.Common.{Some, sym, ap, subst, ◌∙◌, arith, ◌≡◌, length, option_map, slice_get, get_or}
use Rattle.std.specs.FinMap as map
use Rattle.avm_state.specs.KeyLaws.{local_cmp_total}
use Rattle.avm_state.proofs.Places as places
use Rattle.avm_state.proofs.local_map.LocalMap.account_at.Goals as goal

pub offset_bounds-entries-i : goal.offset_bounds-entries-i
offset_bounds-entries-i c = omega (arith, c.requires, ap map.len c.self.view_is, places.map_len local_cmp_total c.self.inside.entries.items c.self.invariant, ap length c.as_slice-entries.ensures.value)

pub bounds-entries-i : goal.bounds-entries-i
bounds-entries-i c = omega (arith, c.requires, ap map.len c.self.view_is, places.map_len local_cmp_total c.self.inside.entries.items c.self.invariant, ap length c.as_slice-entries.ensures.value)

pub returns : goal.returns
returns c =
    let e = c.index-entries-i.result in
    let same : map.len c.args.self.now ≡ length c.self.inside.entries.items = sym (ap map.len c.self.view_is) ∙ places.map_len local_cmp_total c.self.inside.entries.items c.self.invariant in
    ap (λ m. option_map (λ e. e.0.0) (slice_get (map.entries m) c.args.i)) (sym c.self.view_is)
    ∙ places.map_at local_cmp_total (λ e. e.0.0) c.self.inside.entries.items c.self.invariant c.args.i e (omega (arith, c.requires, same)) (subst (λ l. e ≡ get_or l c.args.i e) c.as_slice-entries.ensures.value c.index-entries-i.is)
    ∙ ap Some (sym c.as_slice.ensures)
