use Rattle.std.proofs.Common.{◌≡◌, map, length}
use Rattle.teal_line.specs.Mnemonics.{number_in}
use Rattle.teal_line.proofs.names.number_in.Given as goal

abbrev pub invariant-loop-table : goal.invariant-loop-table
invariant-loop-table l = number_in (map (λ e. (e.0, e.1.now)) l.table) l.name ≡ number_in (map (λ e. (e.0, e.1.now)) l.initial.table) l.name

abbrev pub decreases-loop-table : goal.decreases-loop-table
decreases-loop-table l = length l.table
