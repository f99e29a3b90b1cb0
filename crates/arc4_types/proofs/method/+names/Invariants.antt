use Rattle.std.proofs.Common.{◌≡◌, ◌++◌, map, drop}
use Rattle.arc4_types.specs.Names.{type_name, more_names}
use Rattle.arc4_types.proofs.method.+names.Given as goal

abbrev pub invariant-push_types-loop-ty : goal.invariant-push_types-loop-ty
invariant-push_types-loop-ty l = l.out ++ more_names (map type_name (drop l.ty-index l.more)) ≡ l.initial.out ++ more_names (map type_name l.more)
