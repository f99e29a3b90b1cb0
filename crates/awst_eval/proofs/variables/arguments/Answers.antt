use Rattle.std.proofs.Common.{sym, ◌∙◌, ◌≤◌, min, length, arith, ap, drop}
use Rattle.std.proofs.lemmas.List.{drop-map, length-map}
use Rattle.awst.specs.Meaning.{arranged}
use Rattle.awst_eval.specs.Shown.{meant, all_meant}
use Rattle.awst_eval.proofs.Placing.{arranged_ends}
use Rattle.awst_eval.proofs.variables.arguments.Goals as goal

pub returns : goal.returns
returns c =
    let h : min (length c.args.order.now) (length (all_meant c.args.values.now)) ≤ c.loop-i.i = simp length-map (omega arith) in
    sym (ap (λ vs. arranged (drop c.loop-i.i c.args.order.now) vs (all_meant c.loop-i.placed)) (sym (drop-map meant c.loop-i.i c.args.values.now)) ∙ arranged_ends c.loop-i.i c.args.order.now (all_meant c.args.values.now) (all_meant c.loop-i.placed) h) ∙ c.loop-i.invariant
