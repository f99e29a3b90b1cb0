use Rattle.std.proofs.Common.{◌≡◌, false, ◌∙◌, ap, length, replicate}
use Rattle.awst.specs.Capped.{capped}
use Rattle.awst.specs.Marks.{marked, marked_sum}
use Rattle.awst.specs.Plain.{kind_of}
use Rattle.awst.proofs.Summing.{assigned_sum}
use Rattle.awst.proofs.assigned_rows.assigned_by.Goals as goal

pub returns : goal.returns
returns c = λ p scope h.
    let sizes = c.args.sizes.now in
    let assigns = (kind_of c.args.kind.now p).assigns in
    let row : c.as_slice.result.now ≡ marked assigns (replicate (length sizes) false) = c.as_slice.ensures ∙ c.mark_kind.ensures p ∙ ap (marked assigns) c.in_ok-marks.ensures in
    c.marked_sizes.ensures ∙ ap (λ m. capped (marked_sum m sizes)) row ∙ assigned_sum sizes scope assigns h
