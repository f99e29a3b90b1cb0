use Rattle.std.proofs.Common.{◌≡◌, ◌++◌, [], length}
use Rattle.source_headers.specs.Modules as spec
use Rattle.source_headers.specs.Headers.{twice}
use Rattle.source_headers.proofs.modules.defined_twice.Given as goal

abbrev pub invariant-loop-rest : goal.invariant-loop-rest
invariant-loop-rest l = l.into ++ twice l.seen (spec.entry_words l.rest) ≡ l.fn.into ++ twice [] (spec.entry_words l.fn.entries)

abbrev pub decreases-loop-rest : goal.decreases-loop-rest
decreases-loop-rest l = length l.rest
