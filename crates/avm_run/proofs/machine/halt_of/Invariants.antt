use Rattle.std.proofs.Common.{◌≡◌, ◌≤◌, ◌+◌, ◌-◌}
use Rattle.avm_run.specs.Machine.{goes_on, Next}
use Rattle.avm_run.specs.Bytes.{code_of}
use Rattle.avm_run.proofs.machine.halt_of.Given as goal

abbrev pub invariant-loop-turn : goal.invariant-loop-turn
invariant-loop-turn l = record {
  spent : l.state.spent ≤ l.call.budget;
  same : goes_on (code_of l.code) l.call (l.call.budget + 1 - l._turn) (Next l.state) ≡ goes_on (code_of l.code) l.call (l.call.budget + 1) (Next l.initial.state);
}
