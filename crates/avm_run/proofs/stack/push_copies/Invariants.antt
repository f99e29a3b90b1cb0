use Rattle.std.proofs.Common.{◌≡◌, ◌++◌, replicate}
use Rattle.avm_run.proofs.stack.push_copies.Given as goal

abbrev pub invariant-loop-i : goal.invariant-loop-i
invariant-loop-i l = l.stack ≡ l.initial.stack ++ replicate l._i l.value
