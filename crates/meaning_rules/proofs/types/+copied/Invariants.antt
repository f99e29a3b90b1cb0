use Rattle.std.proofs.Common.{◌≡◌, take}
use Rattle.meaning_rules.proofs.types.+copied.Given as goal

abbrev pub invariant-all_copied-loop-ty : goal.invariant-all_copied-loop-ty
invariant-all_copied-loop-ty l = l.all ≡ take l.ty-index l.tys
