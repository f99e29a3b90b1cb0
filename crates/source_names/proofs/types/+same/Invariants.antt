use Rattle.std.proofs.Common.{◌≡◌, drop, ◌≤◌, length}
use Rattle.source_names.specs.Types.{same_types}
use Rattle.source_names.proofs.types.+same.Given as goal

abbrev pub invariant-same_types-loop-x : goal.invariant-same_types-loop-x
invariant-same_types-loop-x l = record {
  at : l.i ≡ l.x-index;
  within : l.i ≤ length l.ys;
  all : same_types (drop l.x-index l.xs) (drop l.i l.ys) ≡ same_types l.xs l.ys;
}
