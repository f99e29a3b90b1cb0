use Rattle.std.proofs.Common.{◌≡◌, map, ap, ◌∙◌, arith}
use Rattle.awst.specs.Capped.{capped}
use Rattle.awst.specs.Functions.{function_of}
use Rattle.awst.specs.Marks.{marked_sum}
use Rattle.awst.specs.Weight.{marked_weight, reached}
use Rattle.awst.proofs.Summing.{marked_weighs}
use Rattle.awst.proofs.contract_weight.program_weighs.Goals as goal

pub returns : goal.returns
returns c =
    let functions = map function_of c.args.funcs.now in
    let marks = reached c.args.roots.now functions in
    let sum : c.marked_sizes-reached.result ≡ capped (marked_weight marks functions) =
    c.marked_sizes-reached.ensures ∙ ap (λ m. capped (marked_sum m c.args.weights.now)) (c.as_slice.ensures ∙ c.in_ok-marks.ensures)
    ∙ ap (λ w. capped (marked_sum marks w)) c.requires ∙ marked_weighs marks functions in
    omega (arith, sum, c.saturating_add.ensures, c.saturating_add-2.ensures)
