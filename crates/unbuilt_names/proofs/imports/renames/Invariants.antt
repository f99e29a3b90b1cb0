use Rattle.std.proofs.Common.{◌≡◌, length}
use Rattle.unbuilt_names.specs.Unbuilt.{renames}
use Rattle.unbuilt_names.proofs.imports.renames.Given as goal

abbrev pub invariant-loop-left : goal.invariant-loop-left
invariant-loop-left l = renames l.left ≡ renames l.imports

abbrev pub decreases-loop-left : goal.decreases-loop-left
decreases-loop-left l = length l.left
