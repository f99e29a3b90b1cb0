use Rattle.std.proofs.Common.{◌≡◌, length}
use Rattle.source_headers.specs.Classes.{functions}
use Rattle.type_check.specs.Placing.{forgetful, functions_behind, in_class}
use Rattle.type_check.specs.Whole as spec
use Rattle.type_check.proofs.assembling.typed_methods.Given as goal

abbrev pub invariant-loop-rest : goal.invariant-loop-rest
invariant-loop-rest l = record {
  typed : functions_behind l.all (spec.typed_functions (in_class l.fn.sight (functions l.rest)))
      ≡ functions_behind l.fn.before (spec.typed_functions (in_class l.fn.sight (functions l.fn.members)));
  sight : forgetful l.sight ≡ forgetful l.fn.sight;
}

abbrev pub decreases-loop-rest : goal.decreases-loop-rest
decreases-loop-rest l = length l.rest
