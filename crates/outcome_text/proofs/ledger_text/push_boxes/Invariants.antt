use Rattle.std.proofs.Common.{◌≡◌, ◌≤◌, ◌++◌, length, take}
use Rattle.std.specs.FinMap as map
use Rattle.std.specs.List.{flat_map}
use Rattle.outcome_text.specs.Text.{box_line}
use Rattle.outcome_text.proofs.ledger_text.push_boxes.Given as goal

abbrev pub invariant-loop-i : goal.invariant-loop-i
invariant-loop-i l = record {
  text : l.out ≡ l.initial.out ++ flat_map box_line (take l.i (map.entries l.ledger.boxes));
  within : l.i ≤ length (map.entries l.ledger.boxes);
}
