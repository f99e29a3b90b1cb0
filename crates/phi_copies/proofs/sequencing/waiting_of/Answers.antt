use Rattle.std.proofs.Common.{◌≡◌, ℕ, ◌+◌, ◌<◌, ◌∷◌, nat_eq, get_or, drop, length, sym, ◌∙◌, ap, subst, arith, drop-cons, add-one}
use Rattle.std.specs.Prelude.{Option, is_some, if◌then◌else◌}
use Rattle.std.proofs.lemmas.List.{drop_all}
use Rattle.std.specs.Map.{lookup}
use Rattle.indexmap.specs.IndexMap.{get, index_map_len}
use Rattle.phi_copies.specs.declared.copies.Pair.{Pair}
use Rattle.phi_copies.proofs.Loading.{IsLoading, load_none, load_self, load_one, loaded}
use Rattle.phi_copies.proofs.sequencing.waiting_of.Goals as goal
use Rattle.phi_copies.proofs.sequencing.waiting_of.Goals.{then-is_proper+in_ok-insert, else-is_proper}

pub loop-p-init : goal.loop-p-init
loop-p-init c =
    subst (λ n. IsLoading c.args.pairs.now c.args.pairs.now (get nat_eq c.new-waiting.result) n) (sym c.new-waiting.ensures.len)
    (load_none c.args.pairs.now (get nat_eq c.new-waiting.result) c.requires (λ k. ap (lookup (nat_eq k)) c.new-waiting.ensures.empty))

pub loop-p-preserved : goal.loop-p-preserved
loop-p-preserved c =
    let pairs = c.args.pairs.now in
    let i = c.loop-p.p-index in
    let p : Pair = get_or pairs i (record { to = 0; from = 0 }) in
    let rest = drop (i + 1) pairs in
    let lt : i < length pairs = c.loop-p-test.true in
    let cut : drop i pairs ≡ p ∷ rest = drop-cons pairs i (record { to = 0; from = 0 }) lt ∙ ap (λ n. p ∷ drop n pairs) (sym (add-one i)) in
    let old = get nat_eq c.loop-p.waiting in
    let entries = index_map_len c.loop-p.waiting in
    let before = subst (λ q. IsLoading pairs q old entries) cut c.loop-p.invariant in
    elim c.if-is_proper.branch [
      | then-is_proper+in_ok-insert w ↦ subst (λ m. IsLoading pairs rest (get nat_eq m) (index_map_len m)) (sym w.waiting-is)
          (load_one pairs p rest old (get nat_eq w.insert.new.self) entries (index_map_len w.insert.new.self) before w.if-is_proper.true w.in_ok-insert.ensures.updates.0
          (λ e. w.in_ok-insert.ensures.len ∙ ap (λ (o : Option ℕ). entries + (if is_some o then 0 else 1)) (w.in_ok-insert.ensures.old ∙ e)))
      | else-is_proper w ↦ subst (λ m. IsLoading pairs rest (get nat_eq m) (index_map_len m)) (sym w.waiting-is) (load_self pairs p rest old entries before w.if-is_proper.false)
    ]

pub returns : goal.returns
returns c =
    let w = get nat_eq c.loop-p.waiting in
    let n = index_map_len c.loop-p.waiting in
    loaded c.args.pairs.now w n (subst (λ q. IsLoading c.args.pairs.now q w n) (drop_all c.loop-p.p-index c.args.pairs.now (omega arith)) c.loop-p.invariant)
