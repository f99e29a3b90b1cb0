use Rattle.std.proofs.Common.{◌≡◌, ◌+◌, map, drop}
use Rattle.awst.specs.Capped.{capped}
use Rattle.awst.specs.Plain.{total_of, tree_of}
use Rattle.awst.proofs.node_amounts.total_scalars.Given as goal

abbrev pub invariant-loop-e : goal.invariant-loop-e
invariant-loop-e l = (capped (l.total + total_of (map tree_of (drop l.e-index l.parts))) ≡ capped (total_of (map tree_of l.parts))) × (capped l.total ≡ l.total)
