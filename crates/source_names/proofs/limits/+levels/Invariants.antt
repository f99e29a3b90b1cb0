use Rattle.std.proofs.Common.{◌≡◌, drop}
use Rattle.std.specs.Prelude.{nat_le}
use Rattle.source_names.specs.Types.{most_levels, plains}
use Rattle.source_names.proofs.limits.+levels.Given as goal

abbrev pub invariant-all_nest_within-loop-ty : goal.invariant-all_nest_within-loop-ty
invariant-all_nest_within-loop-ty l = nat_le (most_levels (plains (drop l.ty-index l.types))) l.limit ≡ nat_le (most_levels (plains l.types)) l.limit
