use Rattle.std.proofs.Common.{◌≡◌, take, map}
use Rattle.puya_base.specs.declared.value.Value.TheVariants.{Int}
use Rattle.avm_run.proofs.constants.pushed_ints.Given as goal

abbrev pub invariant-loop-number : goal.invariant-loop-number
invariant-loop-number l = l.values.items ≡ map Int (take l.number-index l.number-items)
