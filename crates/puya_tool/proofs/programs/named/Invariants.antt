use Rattle.std.proofs.Common.{◌≡◌, length}
use Rattle.puya_tool.specs.Commands as spec
use Rattle.puya_tool.proofs.programs.named.Given as goal

abbrev pub invariant-loop-rest : goal.invariant-loop-rest
invariant-loop-rest l = spec.named l.fn.name l.rest ≡ spec.named l.fn.name l.fn.builds

abbrev pub decreases-loop-rest : goal.decreases-loop-rest
decreases-loop-rest l = length l.rest
