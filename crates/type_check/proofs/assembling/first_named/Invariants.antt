use Rattle.std.proofs.Common.{◌≡◌, length}
use Rattle.source_headers.specs.Classes.{first_from, functions, is_named}
use Rattle.type_check.specs.Whole.{beyond}
use Rattle.type_check.proofs.assembling.first_named.Given as goal

abbrev pub invariant-loop-rest : goal.invariant-loop-rest
invariant-loop-rest l = beyond l.number (first_from 0 (is_named l.name) (functions l.rest)) ≡ beyond l.fn.first (first_from 0 (is_named l.name) (functions l.fn.members))

abbrev pub decreases-loop-rest : goal.decreases-loop-rest
decreases-loop-rest l = length l.rest
