use Rattle.std.proofs.Common.{◌≡◌, map, length}
use Rattle.teal_line.specs.Mnemonics.{name_in}
use Rattle.teal_line.proofs.names.name_in.Given as goal

abbrev pub invariant-loop-table : goal.invariant-loop-table
invariant-loop-table l = name_in (map (λ e. (e.0, e.1.now)) l.table) l.number ≡ name_in (map (λ e. (e.0, e.1.now)) l.initial.table) l.number

abbrev pub decreases-loop-table : goal.decreases-loop-table
decreases-loop-table l = length l.table
