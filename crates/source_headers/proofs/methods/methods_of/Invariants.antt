use Rattle.std.proofs.Common.{◌≡◌, ◌++◌, length, map}
use Rattle.source_headers.specs.Classes.{methods_from, functions}
use Rattle.source_headers.proofs.methods.methods_of.Given as goal

abbrev pub invariant-loop-rest : goal.invariant-loop-rest
invariant-loop-rest l = map (λ x. (x.name, x.function)) l.list ++ methods_from l.number (functions l.rest) ≡ methods_from l.fn.first (functions l.fn.members)

abbrev pub decreases-loop-rest : goal.decreases-loop-rest
decreases-loop-rest l = length l.rest
