use Rattle.std.proofs.Common.{nat_eq, drop}
use Rattle.indexmap.specs.IndexMap.{get, index_map_len}
use Rattle.phi_copies.proofs.Loading.{IsLoading}
use Rattle.phi_copies.proofs.sequencing.waiting_of.Given as goal

abbrev pub invariant-loop-p : goal.invariant-loop-p
invariant-loop-p l = IsLoading l.pairs (drop l.p-index l.pairs) (get nat_eq l.waiting) (index_map_len l.waiting)
