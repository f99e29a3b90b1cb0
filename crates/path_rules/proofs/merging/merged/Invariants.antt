use Rattle.std.proofs.Common.{◌≡◌, ◌≤◌, ◌+◌, ◌-◌, ◌++◌, length, drop}
use Rattle.path_rules.specs.Summaries.{merged}
use Rattle.path_rules.proofs.merging.merged.Given as goal

abbrev pub invariant-loop-i : goal.invariant-loop-i
invariant-loop-i l = record {
  first : l.i ≤ length l.first;
  second : l.j ≤ length l.second;
  left : l.touched ++ merged l.a l.b (drop l.i l.first) (drop l.j l.second) ≡ merged l.a l.b l.first l.second;
}

abbrev pub decreases-loop-i : goal.decreases-loop-i
decreases-loop-i l = (length l.first - l.i) + (length l.second - l.j)
