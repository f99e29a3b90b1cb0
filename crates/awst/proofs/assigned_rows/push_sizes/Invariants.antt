use Rattle.std.proofs.Common.{◌≡◌, ◌++◌, drop, map}
use Rattle.awst.specs.Types.{type_of}
use Rattle.awst.specs.Marks.{sizes_of}
use Rattle.awst.proofs.assigned_rows.push_sizes.Given as goal

abbrev pub invariant-loop-ty : goal.invariant-loop-ty
invariant-loop-ty l = l.sizes.items ++ sizes_of (map type_of (drop l.ty-index l.types)) ≡ l.fn.sizes.items ++ sizes_of (map type_of l.types)
