use Rattle.std.proofs.Common.{◌≡◌, drop}
use Rattle.std.specs.List.{flat_map}
use Rattle.avm_asm.specs.Assembled.{first_missing}
use Rattle.avm_asm.specs.Listing.{named_by}
use Rattle.avm_asm.proofs.assembly.missing_label.Given as goal

abbrev pub invariant-loop-line : goal.invariant-loop-line
invariant-loop-line l = first_missing l.places (flat_map named_by (drop l.line-index l.lines)) ≡ first_missing l.places (flat_map named_by l.lines)
