use Rattle.std.proofs.Common.{◌≡◌, replicate}
use Rattle.puya_base.specs.declared.value.Value.TheVariants.{Int}
use Rattle.avm_run.proofs.scratch.empty_scratch.Given as goal

abbrev pub invariant-loop-i : goal.invariant-loop-i
invariant-loop-i l = l.scratch ≡ replicate l._i (Int 0)
