use Rattle.std.proofs.Common.{◌≡◌, nat_le, drop}
use Rattle.avm_state.specs.Steps.{has_log_room, total_length}
use Rattle.avm_state.proofs.log_steps.has_room.Given as goal

abbrev pub invariant-loop-log : goal.invariant-loop-log
invariant-loop-log l = has_log_room l.logs l.size ≡ nat_le (total_length (drop l.log-index l.logs)) l.room
