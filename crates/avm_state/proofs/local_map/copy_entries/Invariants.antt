use Rattle.std.proofs.Common.{◌≡◌, take}
use Rattle.avm_state.proofs.local_map.copy_entries.Given as goal

abbrev pub invariant-loop-held : goal.invariant-loop-held
invariant-loop-held l = l.copies.items ≡ take l.held-index l.entries
