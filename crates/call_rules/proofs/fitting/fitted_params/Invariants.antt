use Rattle.std.proofs.Common.{◌≡◌, ◌++◌, length}
use Rattle.std.specs.Vec.Iter.{into_iter_items, into_iter_len}
use Rattle.call_rules.specs.Calls as spec
use Rattle.call_rules.specs.Fittings.{as_written}
use Rattle.call_rules.proofs.FittingLaws.{and_rest}
use Rattle.call_rules.proofs.fitting.fitted_params.Given as goal

abbrev pub invariant-loop-argument : goal.invariant-loop-argument
invariant-loop-argument l =
    let rest = into_iter_items l.argument-iterator in
    record {
      left : into_iter_len l.argument-iterator ≡ length rest;
      told : l.into ++ (spec.fitted (spec.param_test l.signature) rest).notes ≡ l.initial.into ++ (spec.fitted (spec.param_test l.signature) l.fn.known.items).notes;
      fitted : and_rest l.fitted (spec.fitted (spec.param_test l.signature) rest) ≡ as_written (spec.fitted (spec.param_test l.signature) l.fn.known.items);
    }
