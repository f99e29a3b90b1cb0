use Rattle.std.proofs.Common.{◌≡◌, ◌++◌}
use Rattle.source_names.specs.declared.types.SourceType.TheVariants as ty
use Rattle.call_rules.specs.Calls.{repeated}
use Rattle.call_rules.proofs.calling.repeated.Given as goal

abbrev pub invariant-loop-left : goal.invariant-loop-left
invariant-loop-left l = l.all ++ repeated l.left (ty.Scalar l.scalar) ≡ repeated l.fn.count (ty.Scalar l.scalar)

abbrev pub decreases-loop-left : goal.decreases-loop-left
decreases-loop-left l = l.left
