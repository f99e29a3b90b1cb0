use Rattle.std.proofs.Common.{◌-◌, ◌≤◌, length}
use Rattle.std.proofs.lemmas.Cmp.{nat_list_cmp_total}
use Rattle.avm_state.proofs.Places.{AllLess, AllGreater}
use Rattle.avm_state.proofs.bytes_map.place.Given as goal

abbrev pub invariant-loop-low : goal.invariant-loop-low
invariant-loop-low g l = record {
  ordered : l.low ≤ l.high;
  within : l.high ≤ length l.entries;
  less : AllLess nat_list_cmp_total l.key l.entries l.low;
  greater : AllGreater nat_list_cmp_total l.key l.entries l.high;
}

abbrev pub decreases-loop-low : goal.decreases-loop-low
decreases-loop-low g l = l.high - l.low
