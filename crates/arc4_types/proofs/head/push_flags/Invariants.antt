use Rattle.std.proofs.Common.{◌≡◌, ◌+◌, ◌-◌, length}
use Rattle.arc4_types.specs.Reading.{unpacked}
use Rattle.arc4_types.specs.Views.{all_told, flags_behind}
use Rattle.arc4_types.proofs.head.push_flags.Given as goal

abbrev pub invariant-loop-i : goal.invariant-loop-i
invariant-loop-i l = (length l.entries.items ≡ length l.initial.entries.items + l.i) × (flags_behind (all_told l.entries.items) (unpacked l.weight (l.count - l.i) l.left) ≡ flags_behind (all_told l.initial.entries.items) (unpacked 128 l.count l.fn.byte))
