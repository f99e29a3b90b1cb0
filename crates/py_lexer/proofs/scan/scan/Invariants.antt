use Rattle.std.proofs.Common.{◌≡◌, ◌+◌, ◌-◌, ◌≤◌, length, drop}
use Rattle.py_lexer.specs.Scan.{scanned}
use Rattle.py_lexer.proofs.ScanLaws.{rest_gives}
use Rattle.py_lexer.proofs.scan.scan.Given as goal

abbrev pub invariant-loop-spot : goal.invariant-loop-spot
invariant-loop-spot l = record {
  same : rest_gives l.spot l.layout (drop l.spot.at l.source) ≡ scanned l.begin l.source;
  within : l.spot.at ≤ length l.source;
  line : l.spot.place.line ≤ l.spot.at + 1;
  column : l.spot.place.col ≤ l.spot.at + 1;
}

abbrev pub decreases-loop-spot : goal.decreases-loop-spot
decreases-loop-spot l = length l.source - l.spot.at
