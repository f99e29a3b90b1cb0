use Rattle.std.proofs.Common.{ℕ, List, sym, ap, subst, ◌∙◌, arith, T, ◌≡◌}
use Rattle.std.specs.FinMap as map
use Rattle.std.specs.List.{insert}
use Rattle.avm_state.specs.Keys.{local_cmp}
use Rattle.avm_state.specs.Places.{IsFound, IsGap}
use Rattle.avm_state.specs.KeyLaws.{local_cmp_total}
use Rattle.avm_state.proofs.Places as places
use Rattle.avm_state.proofs.local_map.LocalMap.put.Goals as goal

same_key : {X : Type 0} (es : List ((List ℕ × List ℕ) × X)) (i : ℕ) (v : X) {a b k l : List ℕ} → a ≡ b → k ≡ l → insert es i ((a, k), v) ≡ insert es i ((b, l), v)
same_key es i v {a} {b} {k} {l} p q = ap (λ x. insert es i ((x, k), v)) p ∙ ap (λ x. insert es i ((b, x), v)) q

pub index_mut-requires : goal.index_mut-requires
index_mut-requires c = omega (arith, places.found_within local_cmp_total (c.args.account.now, c.args.key.now) c.as_slice.result.now c.in-Ok.i c.in-Ok.ensures.found, c.as_slice.ensures.len)

pub invariant_of-self : goal.invariant_of-self
invariant_of-self c =
    let found = subst (λ l. IsFound local_cmp (c.args.account.now, c.args.key.now) l c.in-Ok.i) c.as_slice.ensures.value c.in-Ok.ensures.found in
    places.sorted_set_at local_cmp_total c.self.inside.entries.items c.self.invariant (c.args.account.now, c.args.key.now) c.args.value c.in-Ok.i c.index_mut.result.now c.index_mut.ensures.value found

pub returns-in-Ok-clause-ok : goal.returns-in-Ok-clause-ok
returns-in-Ok-clause-ok c =
    let found = subst (λ l. IsFound local_cmp (c.args.account.now, c.args.key.now) l c.in-Ok.i) c.as_slice.ensures.value c.in-Ok.ensures.found in
    places.map_set_at local_cmp_total c.self.inside.entries.items c.self.invariant (c.args.account.now, c.args.key.now) c.args.value c.in-Ok.i c.index_mut.result.now c.index_mut.ensures.value found
    ∙ ap (λ m. map.insert m (c.args.account.now, c.args.key.now) c.args.value) c.self.view_is

pub insert-requires : goal.insert-requires
insert-requires c = omega (arith, places.gap_within local_cmp_total (c.args.account.now, c.args.key.now) c.as_slice.result.now c.in-Err.i c.in-Err.ensures.absent, c.as_slice.ensures.len)

pub invariant_of-self-in-Err : goal.invariant_of-self-in-Err
invariant_of-self-in-Err c =
    let gap = subst (λ l. IsGap local_cmp (c.args.account.now, c.args.key.now) l c.in-Err.i) c.as_slice.ensures.value c.in-Err.ensures.absent in
    let sorted = places.sorted_insert local_cmp_total c.self.inside.entries.items c.self.invariant (c.args.account.now, c.args.key.now) c.args.value c.in-Err.i gap in
    subst (λ l. T (map.is_sorted local_cmp l)) (sym (c.in_ok-insert-in-Err.ensures.items ∙ same_key c.self.inside.entries.items c.in-Err.i c.args.value c.in_ok-account-in-Err.ensures c.in_ok-key-in-Err.ensures)) sorted

pub returns-in_ok-insert-in-Err-clause-ok : goal.returns-in_ok-insert-in-Err-clause-ok
returns-in_ok-insert-in-Err-clause-ok c =
    let gap = subst (λ l. IsGap local_cmp (c.args.account.now, c.args.key.now) l c.in-Err.i) c.as_slice.ensures.value c.in-Err.ensures.absent in
    ap map.from_sorted (c.in_ok-insert-in-Err.ensures.items ∙ same_key c.self.inside.entries.items c.in-Err.i c.args.value c.in_ok-account-in-Err.ensures c.in_ok-key-in-Err.ensures)
    ∙ places.map_insert_gap local_cmp_total c.self.inside.entries.items c.self.invariant (c.args.account.now, c.args.key.now) c.args.value c.in-Err.i gap
    ∙ ap (λ m. map.insert m (c.args.account.now, c.args.key.now) c.args.value) c.self.view_is
