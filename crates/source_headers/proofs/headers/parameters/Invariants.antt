use Rattle.std.proofs.Common.{◌≡◌, ◌++◌, length}
use Rattle.source_headers.specs.Headers as spec
use Rattle.source_headers.proofs.headers.parameters.Given as goal

abbrev pub invariant-loop-rest : goal.invariant-loop-rest
invariant-loop-rest l = record {
  told : l.into ++ spec.all_annotated l.names l.rest ≡ l.fn.into ++ spec.all_annotated l.names l.fn.params;
  value : l.list ++ spec.parameters l.names l.rest ≡ spec.parameters l.names l.fn.params;
}

abbrev pub decreases-loop-rest : goal.decreases-loop-rest
decreases-loop-rest l = length l.rest
