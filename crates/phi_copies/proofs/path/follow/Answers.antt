use Rattle.std.proofs.Common.{nat_eq, length, [], ◌∷◌, ap, sym, subst, arith, length-append}
use Rattle.indexmap.specs.IndexMap.{get}
use Rattle.phi_copies.proofs.Following.{Follows, follows_on}
use Rattle.phi_copies.proofs.path.follow.Goals as goal

pub loop-from-preserved : goal.loop-from-preserved
loop-from-preserved c = record {
  path = subst (λ q. Follows (get nat_eq c.args.waiting.now) (get nat_eq c.swap_remove.new.self) c.args.start q c.in-Some.from) (sym c.in_ok-push.ensures.ok)
      (follows_on (get nat_eq c.args.waiting.now) (get nat_eq c.loop-from.waiting) (get nat_eq c.swap_remove.new.self) c.args.start c.loop-from.pairs c.loop-from.end c.in-Some.from c.loop-from.invariant.path (sym c.in-Some.ensures.value) c.in-Some.ensures.updates.0);
  len = omega (arith, ap length c.in_ok-push.ensures.ok, length-append c.loop-from.pairs (record { to = c.loop-from.end; from = c.in-Some.from } ∷ []), c.in-Some.ensures.len, c.loop-from.invariant.len);
}
