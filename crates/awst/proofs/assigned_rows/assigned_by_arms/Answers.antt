use Rattle.std.proofs.Common.{◌≡◌, false, ◌∙◌, ap, length, map, replicate}
use Rattle.awst.specs.Capped.{capped}
use Rattle.awst.specs.Marks.{marked, marked_sum}
use Rattle.awst.specs.Plain.{arm_of, assigned_in_arms, statement_of}
use Rattle.awst.proofs.Summing.{assigned_sum}
use Rattle.awst.proofs.assigned_rows.assigned_by_arms.Goals as goal

pub returns : goal.returns
returns c = λ scope h.
    let sizes = c.args.sizes.now in
    let assigns = assigned_in_arms (map arm_of c.args.arms.now) (map statement_of c.args.rest.now) in
    let row : c.as_slice.result.now ≡ marked assigns (replicate (length sizes) false) = c.as_slice.ensures ∙ c.mark_if.ensures ∙ ap (marked assigns) c.in_ok-marks.ensures in
    c.marked_sizes.ensures ∙ ap (λ m. capped (marked_sum m sizes)) row ∙ assigned_sum sizes scope assigns h
