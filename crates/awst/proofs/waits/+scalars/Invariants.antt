use Rattle.std.proofs.Common.{◌≡◌, ◌+◌, map, drop}
use Rattle.awst.specs.Types.{scalar_total, types_of, type_of}
use Rattle.awst.specs.Capped.{capped}
use Rattle.awst.proofs.waits.+scalars.Given as goal

abbrev pub invariant-total_scalars-loop-part : goal.invariant-total_scalars-loop-part
invariant-total_scalars-loop-part l =
    (capped (l.total + scalar_total (types_of (map type_of (drop l.part-index l.parts)))) ≡ capped (scalar_total (types_of (map type_of l.parts)))) × (capped l.total ≡ l.total)
