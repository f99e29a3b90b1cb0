use Rattle.std.proofs.Common.{◌≡◌, suc, length, [], ap, arith}
use Rattle.std.specs.Vec.Iter.{into_iter_items}
use Rattle.std.proofs.lemmas.List.{nil_from_length}
use Rattle.call_rules.specs.Calls as spec
use Rattle.call_rules.proofs.FittingLaws.{first_fitted, next_told, next_fitted, last_told, last_fitted}
use Rattle.call_rules.proofs.fitting.fitted_form.Goals as goal

pub loop-argument-preserved : goal.loop-argument-preserved
loop-argument-preserved c =
    let test = spec.form_test c.args.form.now in
    let rest = into_iter_items c.loop-argument.argument-iterator in
    let more = into_iter_items c.next.new.self in
    let fewer : length rest ≡ suc (length more) = ap length c.in-Some.ensures.steps.0 in
    record {
      left = omega (arith, fewer, c.in-Some.ensures.steps.1, c.loop-argument.invariant.left);
      told = next_told test c.loop-argument.into c.with_form.new.into _ c.in-Some.argument rest more c.in-Some.ensures.steps.0 c.in_ok-fitted.ensures.told c.loop-argument.invariant.told;
      fitted = next_fitted test c.loop-argument.fitted c.in_ok-fitted.fitted _ c.in-Some.argument rest more c.in-Some.ensures.steps.0 c.in_ok-fitted.ensures.fitted c.loop-argument.invariant.fitted;
    }

pub returns : goal.returns
returns c =
    let test = spec.form_test c.args.form.now in
    let rest = into_iter_items c.loop-argument.argument-iterator in
    let gone : rest ≡ [] = nil_from_length rest (omega (arith, c.in-None.ensures.steps.0, c.loop-argument.invariant.left)) in
    record {
      told = last_told test c.loop-argument.into _ rest gone c.loop-argument.invariant.told;
      fitted = last_fitted test c.loop-argument.fitted _ rest gone c.loop-argument.invariant.fitted;
    }
