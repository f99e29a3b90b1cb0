use Rattle.std.proofs.Common.{map, sym, ap, ◌∙◌, arith}
use Rattle.awst.specs.Capped.{capped}
use Rattle.awst.specs.Places.{wait}
use Rattle.awst.specs.Plain.{tree_of, assigned_value, destination}
use Rattle.awst.specs.Functions.{no_place}
use Rattle.awst.proofs.Counting.{assigned_one}
use Rattle.awst.proofs.loads.assigned_wait.Goals as goal

pub returns-in-Some-len1 : goal.returns-in-Some-len1
returns-in-Some-len1 c =
    let one = assigned_one no_place c.in-Some-len1.prim c.args.targets.now (tree_of c.args.e.now) (omega (arith, c.in-Some-len1.len_at_least, c.in-Some-len1.len_below)) in
    c.updated_wait.ensures one.0
    ∙ ap (λ x. capped (wait x)) (sym one.1)
    ∙ ap (λ p. capped (wait (assigned_value no_place p (map destination c.args.targets.now) (tree_of c.args.e.now)))) (sym c.in-Some-len1.is-0)
