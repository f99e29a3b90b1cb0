use Rattle.std.proofs.Common.{◌≡◌, ◌+◌, drop}
use Rattle.awst.specs.Capped.{capped}
use Rattle.awst.specs.Plain.{trees_of}
use Rattle.awst.specs.Weight.{exs_weight}
use Rattle.awst.proofs.weights.+weigh.Given as goal

abbrev pub invariant-parts_weigh-loop-e : goal.invariant-parts_weigh-loop-e
invariant-parts_weigh-loop-e l = (capped (l.total + exs_weight (trees_of (drop l.e-index l.parts))) ≡ capped (exs_weight (trees_of l.parts))) × (capped l.total ≡ l.total)
