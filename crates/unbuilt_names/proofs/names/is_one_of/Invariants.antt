use Rattle.std.proofs.Common.{◌≡◌, length}
use Rattle.unbuilt_names.specs.Unbuilt.{is_one_of, texts}
use Rattle.unbuilt_names.proofs.names.is_one_of.Given as goal

abbrev pub invariant-loop-names : goal.invariant-loop-names
invariant-loop-names l = is_one_of (texts l.names) l.name ≡ is_one_of (texts l.initial.names) l.name

abbrev pub decreases-loop-names : goal.decreases-loop-names
decreases-loop-names l = length l.names
