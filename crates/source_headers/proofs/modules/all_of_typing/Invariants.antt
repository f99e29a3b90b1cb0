use Rattle.std.proofs.Common.{◌≡◌, length}
use Rattle.source_headers.specs.Modules as spec
use Rattle.source_headers.proofs.modules.all_of_typing.Given as goal

abbrev pub invariant-loop-rest : goal.invariant-loop-rest
invariant-loop-rest l = spec.all_of_typing l.rest ≡ spec.all_of_typing l.fn.imports

abbrev pub decreases-loop-rest : goal.decreases-loop-rest
decreases-loop-rest l = length l.rest
