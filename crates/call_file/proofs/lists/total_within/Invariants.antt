use Rattle.std.proofs.Common.{◌≡◌, drop}
use Rattle.std.specs.Prelude.{nat_le}
use Rattle.avm_state.specs.Steps.{total_length}
use Rattle.call_file.proofs.lists.total_within.Given as goal

abbrev pub invariant-loop-bytes : goal.invariant-loop-bytes
invariant-loop-bytes l = nat_le (total_length l.list) l.most ≡ nat_le (total_length (drop l.bytes-index l.list)) l.left
