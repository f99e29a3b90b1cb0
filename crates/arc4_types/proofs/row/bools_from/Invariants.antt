use Rattle.std.proofs.Common.{◌≡◌, ◌+◌, ◌-◌, ◌≤◌, map, drop}
use Rattle.arc4_types.specs.Types.{type_of}
use Rattle.arc4_types.specs.Groups.{bools_in, form_of, row_of}
use Rattle.arc4_types.proofs.row.bools_from.Given as goal

abbrev pub invariant-loop-run : goal.invariant-loop-run
invariant-loop-run l = (l.run ≤ 8) × (l.i + l.run ≤ l.count) × (l.run + bools_in (drop (l.i + l.run) (map (λ t. form_of (type_of t)) (row_of l.types l.count))) (8 - l.run) ≡ bools_in (drop l.i (map (λ t. form_of (type_of t)) (row_of l.types l.count))) 8)

abbrev pub decreases-loop-run : goal.decreases-loop-run
decreases-loop-run l = 8 - l.run
