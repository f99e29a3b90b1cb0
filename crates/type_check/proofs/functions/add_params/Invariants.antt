use Rattle.std.proofs.Common.{◌≡◌, ◌++◌, map, length}
use Rattle.type_check.specs.Functions as spec
use Rattle.statement_check.specs.Noting.{with_names}
use Rattle.type_check.proofs.functions.add_params.Given as goal

abbrev pub invariant-loop-rest : goal.invariant-loop-rest
invariant-loop-rest l = record {
  locals : l.locals.items ++ map spec.param_local l.rest ≡ l.fn.locals.items ++ map spec.param_local l.fn.params;
  seen : with_names l.seen (spec.parameter_names l.rest) ≡ with_names l.fn.seen (spec.parameter_names l.fn.params);
}

abbrev pub decreases-loop-rest : goal.decreases-loop-rest
decreases-loop-rest l = length l.rest
