use Rattle.std.proofs.Common.{◌≡◌, drop}
use Rattle.source_names.specs.Types.{all_parts, plains}
use Rattle.source_names.specs.Limits.{left}
use Rattle.source_names.proofs.limits.+parts.Given as goal

abbrev pub invariant-all_parts_left-loop-ty : goal.invariant-all_parts_left-loop-ty
invariant-all_parts_left-loop-ty l = left l.room (all_parts (plains (drop l.ty-index l.types))) ≡ left l.limit (all_parts (plains l.types))
