use Rattle.std.proofs.Common.{◌≡◌, length}
use Rattle.unbuilt_names.specs.Unbuilt.{has_unbuilt_import}
use Rattle.unbuilt_names.proofs.imports.has_unbuilt_import.Given as goal

abbrev pub invariant-loop-left : goal.invariant-loop-left
invariant-loop-left l = has_unbuilt_import l.left ≡ has_unbuilt_import l.items

abbrev pub decreases-loop-left : goal.decreases-loop-left
decreases-loop-left l = length l.left
