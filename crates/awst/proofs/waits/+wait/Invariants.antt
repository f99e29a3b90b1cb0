use Rattle.std.proofs.Common.{◌≡◌, max, drop}
use Rattle.awst.specs.Capped.{capped}
use Rattle.awst.specs.Places.{parts_wait}
use Rattle.awst.specs.Plain.{trees_of}
use Rattle.awst.proofs.waits.+wait.Given as goal

abbrev pub invariant-parts_wait-loop-e : goal.invariant-parts_wait-loop-e
invariant-parts_wait-loop-e l =
    (capped (max l.most (parts_wait l.own l.held (trees_of (drop l.e-index l.parts)))) ≡ capped (parts_wait l.own 0 (trees_of l.parts))) × (capped l.most ≡ l.most) × (capped l.held ≡ l.held)
