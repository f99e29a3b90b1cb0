use Rattle.std.proofs.Common.{◌≡◌, drop}
use Rattle.avm_asm.specs.Assembled.{first_missing}
use Rattle.avm_asm.proofs.places.Places.missing_of.Given as goal

abbrev pub invariant-loop-label : goal.invariant-loop-label
invariant-loop-label l = first_missing l.self (drop l.label-index l.labels) ≡ first_missing l.self l.labels
