use Rattle.std.proofs.Common.{sym, ◌∙◌, ◌≤◌, min, map, length, arith, ap, drop}
use Rattle.std.proofs.lemmas.List.{drop-map, length-map}
use Rattle.awst.specs.Meaning.{put_each}
use Rattle.awst.specs.Plain.{destination}
use Rattle.awst_eval.specs.Shown.{meant, all_meant}
use Rattle.awst_eval.proofs.Placing.{put_ends}
use Rattle.awst_eval.proofs.variables.put_each.Goals as goal

pub returns : goal.returns
returns c =
    let h : min (length (map destination c.args.targets.now)) (length (all_meant c.args.values.now)) ≤ c.loop-i.i = simp length-map (omega arith) in
    sym (ap (λ vs. put_each (map destination (drop c.loop-i.i c.args.targets.now)) vs (all_meant c.loop-i.env)) (sym (drop-map meant c.loop-i.i c.args.values.now))
    ∙ ap (λ ds. put_each ds (drop c.loop-i.i (all_meant c.args.values.now)) (all_meant c.loop-i.env)) (sym (drop-map destination c.loop-i.i c.args.targets.now))
    ∙ put_ends c.loop-i.i (map destination c.args.targets.now) (all_meant c.args.values.now) (all_meant c.loop-i.env) h) ∙ c.loop-i.invariant
