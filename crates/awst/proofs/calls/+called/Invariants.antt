use Rattle.std.proofs.Common.{◌≡◌, ◌++◌, drop}
use Rattle.awst.specs.Calls.{exs_called}
use Rattle.awst.specs.Plain.{trees_of}
use Rattle.awst.proofs.calls.+called.Given as goal

abbrev pub invariant-push_parts_calls-loop-e : goal.invariant-push_parts_calls-loop-e
invariant-push_parts_calls-loop-e l = l.calls.items ++ exs_called (trees_of (drop l.e-index l.parts)) ≡ l.fn.calls.items ++ exs_called (trees_of l.parts)
