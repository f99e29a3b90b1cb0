use Rattle.std.proofs.Common.{◌≡◌, ◌+◌, length, nat_eq}
use Rattle.indexmap.specs.IndexMap.{get, index_map_len}
use Rattle.phi_copies.proofs.Following.{Follows}
use Rattle.phi_copies.proofs.path.follow.Given as goal

abbrev pub invariant-loop-from : goal.invariant-loop-from
invariant-loop-from l = record {
  path : Follows (get nat_eq l.initial.waiting) (get nat_eq l.waiting) l.fn.start l.pairs l.end;
  len : length l.pairs + index_map_len l.waiting ≡ index_map_len l.initial.waiting;
}

abbrev pub decreases-loop-from : goal.decreases-loop-from
decreases-loop-from l = index_map_len l.waiting
