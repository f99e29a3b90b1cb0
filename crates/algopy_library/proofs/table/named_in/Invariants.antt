use Rattle.std.proofs.Common.{◌≡◌, map, drop}
use Rattle.algopy_library.specs.Tables.{named_in}
use Rattle.algopy_library.proofs.table.named_in.Given as goal

abbrev pub invariant-loop-known : goal.invariant-loop-known
invariant-loop-known g l = named_in (map (λ e. (e.0.now, e.1)) (drop l.known-index l.table)) l.name ≡ named_in (map (λ e. (e.0.now, e.1)) l.table) l.name
