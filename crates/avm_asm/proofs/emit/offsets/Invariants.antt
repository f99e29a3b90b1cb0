use Rattle.std.proofs.Common.{◌≡◌, ◌++◌, drop, map}
use Rattle.std.specs.List.{All}
use Rattle.avm_ops.specs.Immediate.{IsSigned16}
use Rattle.avm_asm.specs.Assembled.{branches_to, first_far}
use Rattle.avm_asm.specs.Listing.{distance}
use Rattle.avm_asm.proofs.emit.offsets.Given as goal

abbrev pub invariant-loop-label : goal.invariant-loop-label
invariant-loop-label l = record {
  same_branch : first_far (branches_to l.places l.end (drop l.label-index l.labels)) ≡ first_far (branches_to l.places l.end l.labels);
  same_jumps : l.jumps ++ map (distance l.places l.end) (drop l.label-index l.labels) ≡ map (distance l.places l.end) l.labels;
  near : All IsSigned16 l.jumps;
}
