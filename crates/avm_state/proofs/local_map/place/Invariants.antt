use Rattle.std.proofs.Common.{◌-◌, ◌≤◌, length}
use Rattle.avm_state.specs.KeyLaws.{local_cmp_total}
use Rattle.avm_state.proofs.Places.{AllLess, AllGreater}
use Rattle.avm_state.proofs.local_map.place.Given as goal

abbrev pub invariant-loop-low : goal.invariant-loop-low
invariant-loop-low l = record {
  ordered : l.low ≤ l.high;
  within : l.high ≤ length l.entries;
  less : AllLess local_cmp_total (l.account, l.key) l.entries l.low;
  greater : AllGreater local_cmp_total (l.account, l.key) l.entries l.high;
}

abbrev pub decreases-loop-low : goal.decreases-loop-low
decreases-loop-low l = l.high - l.low
