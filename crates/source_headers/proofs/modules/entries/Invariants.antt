use Rattle.std.proofs.Common.{◌≡◌, ◌++◌, length}
use Rattle.source_headers.specs.Modules as spec
use Rattle.source_headers.proofs.modules.entries.Given as goal

abbrev pub invariant-loop-rest : goal.invariant-loop-rest
invariant-loop-rest l = l.list ++ spec.entries_from l.counts.constants l.counts.functions l.counts.classes l.rest ≡ spec.entries l.fn.items

abbrev pub decreases-loop-rest : goal.decreases-loop-rest
decreases-loop-rest l = length l.rest
