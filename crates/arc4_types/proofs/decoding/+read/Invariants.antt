use Rattle.std.proofs.Common.{◌≡◌, ◌-◌, ◌+◌, ◌≤◌, length, map, drop}
use Rattle.std.specs.Vec.Iter.{into_iter_items, into_iter_len}
use Rattle.arc4_types.specs.Values.{value_of}
use Rattle.arc4_types.specs.Groups.{groups, part_of, row_of}
use Rattle.arc4_types.specs.Reading.{reading, head_at, tails_at}
use Rattle.arc4_types.specs.Views.{all_told, readers}
use Rattle.arc4_types.proofs.Told.{told_behind, values_behind}
use Rattle.arc4_types.proofs.decoding.+read.Given as goal

abbrev pub invariant-read_head-loop-i : goal.invariant-read_head-loop-i
invariant-read_head-loop-i l = (l.i ≤ l.count) × (length l.entries.items ≡ l.i) × (told_behind (all_told l.entries.items) (head_at (groups 0 (drop l.i (map (part_of reading) (row_of l.types l.count)))) l.from) ≡ head_at (groups 0 (map (part_of reading) (row_of l.types l.count))) l.initial.from)

abbrev pub decreases-read_head-loop-i : goal.decreases-read_head-loop-i
decreases-read_head-loop-i l = l.count - l.i

abbrev pub invariant-read_tails-loop-entry : goal.invariant-read_tails-loop-entry
invariant-read_tails-loop-entry l = (l.i + length (into_iter_items l.entry-iterator) ≡ l.count) × (into_iter_len l.entry-iterator ≡ length (into_iter_items l.entry-iterator)) × (values_behind (map value_of l.values) (tails_at l.whole (drop l.i (readers (row_of l.types l.count))) (all_told (into_iter_items l.entry-iterator)) l.from) ≡ tails_at l.whole (readers (row_of l.types l.count)) (all_told l.fn.entries.items) l.initial.from)
