use Rattle.std.proofs.Common.{◌≡◌, map, drop}
use Rattle.arc4_types.specs.Types.{type_of, tys_of, types_of}
use Rattle.arc4_types.specs.Groups.{has_dynamic}
use Rattle.arc4_types.proofs.form.+form.Given as goal

abbrev pub invariant-tuple_form-loop-ty : goal.invariant-tuple_form-loop-ty
invariant-tuple_form-loop-ty l = has_dynamic (tys_of (map type_of (drop l.ty-index l.types))) ≡ has_dynamic (types_of l.types)
