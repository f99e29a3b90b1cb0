use Rattle.std.proofs.Common.{◌≡◌, ◌-◌, ◌≤◌, map, drop}
use Rattle.arc4_types.specs.Values.{value_of}
use Rattle.arc4_types.specs.Groups.{groups, part_of, row_of}
use Rattle.arc4_types.specs.Encoding.{coding, placed}
use Rattle.arc4_types.proofs.Placing.{placed_after}
use Rattle.arc4_types.proofs.encoding.+code.Given as goal

abbrev pub invariant-placed_row-loop-i : goal.invariant-placed_row-loop-i
invariant-placed_row-loop-i l = (l.i ≤ l.count) × (placed_after l.placed (placed (groups 0 (drop l.i (map (part_of coding) (row_of l.types l.count)))) (drop l.i (map value_of l.values))) ≡ placed (groups 0 (map (part_of coding) (row_of l.types l.count))) (map value_of l.values))

abbrev pub decreases-placed_row-loop-i : goal.decreases-placed_row-loop-i
decreases-placed_row-loop-i l = l.count - l.i
