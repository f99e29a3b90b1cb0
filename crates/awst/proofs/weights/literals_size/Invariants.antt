use Rattle.std.proofs.Common.{◌≡◌, ◌+◌, drop, map}
use Rattle.awst.specs.Capped.{capped}
use Rattle.awst.specs.Plain.{literal_bytes, pick_of}
use Rattle.awst.proofs.weights.literals_size.Given as goal

abbrev pub invariant-loop-pick : goal.invariant-loop-pick
invariant-loop-pick l = (capped (l.total + literal_bytes (map pick_of (drop l.pick-index l.picks))) ≡ capped (literal_bytes (map pick_of l.picks))) × (capped l.total ≡ l.total)
