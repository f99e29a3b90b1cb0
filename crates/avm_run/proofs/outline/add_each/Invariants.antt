use Rattle.std.proofs.Common.{◌≡◌, ◌++◌, take, map}
use Rattle.avm_run.specs.Form.{branch_at}
use Rattle.avm_run.proofs.outline.add_each.Given as goal

abbrev pub invariant-loop-offset : goal.invariant-loop-offset
invariant-loop-offset l = l.branches ≡ l.initial.branches ++ map (branch_at l.pc l.next) (take l.offset-index l.offsets)
