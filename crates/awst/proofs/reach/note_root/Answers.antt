use Rattle.std.proofs.Common.{[], ◌∷◌, sym, ap, ◌∙◌}
use Rattle.awst.specs.Marks.{marked}
use Rattle.awst.specs.Weight.{is_root}
use Rattle.awst.proofs.Marking.{marked_none}
use Rattle.awst.proofs.reach.note_root.Goals as goal

pub returns-in-None-clause-marks : goal.returns-in-None-clause-marks
returns-in-None-clause-marks c = marked_none c.args.marks.now ∙ ap (λ r. marked (is_root (r ∷ [])) c.args.marks.now) (sym c.in-None.is)
