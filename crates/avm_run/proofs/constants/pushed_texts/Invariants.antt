use Rattle.std.proofs.Common.{◌≡◌, take, map}
use Rattle.puya_base.specs.declared.value.Value.TheVariants.{Bytes}
use Rattle.avm_run.proofs.constants.pushed_texts.Given as goal

abbrev pub invariant-loop-text : goal.invariant-loop-text
invariant-loop-text l = l.values.items ≡ map Bytes (take l.text-index l.text-items)
