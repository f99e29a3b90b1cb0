use Rattle.std.proofs.Common.{drop, reverse, nat_eq}
use Rattle.indexmap.specs.IndexMap.{get, index_map_len}
use Rattle.phi_copies.proofs.Counting.{IsCounting}
use Rattle.phi_copies.proofs.Turning.{IsTurning}
use Rattle.phi_copies.proofs.sequencing.sequence.Given as goal

abbrev pub invariant-loop-p : goal.invariant-loop-p
invariant-loop-p l = record {
  turning : IsTurning l.copies.spare l.copies.pairs (drop l.p-index l.copies.pairs) (get nat_eq l.waiting) (reverse l.backwards.items);
  counting : IsCounting l.copies.pairs (get nat_eq l.waiting) (index_map_len l.waiting) (reverse l.backwards.items);
}
