use Rattle.std.proofs.Common.{map, sym, ap, ◌∙◌, arith}
use Rattle.awst.specs.Capped.{capped}
use Rattle.awst.specs.Plain.{tree_of, assigned_value, destination}
use Rattle.awst.specs.Weight.{ex_weight}
use Rattle.awst.proofs.Counting.{assigned_one}
use Rattle.awst.proofs.weights.assigned_weighs.Goals as goal

pub returns-in-Some-len1 : goal.returns-in-Some-len1
returns-in-Some-len1 c = λ place.
    let one = assigned_one place c.in-Some-len1.prim c.args.targets.now (tree_of c.args.e.now) (omega (arith, c.in-Some-len1.len_at_least, c.in-Some-len1.len_below)) in
    c.updated_weighs.ensures place one.0
    ∙ ap (λ x. capped (ex_weight x)) (sym one.1)
    ∙ ap (λ p. capped (ex_weight (assigned_value place p (map destination c.args.targets.now) (tree_of c.args.e.now)))) (sym c.in-Some-len1.is-0)
