use Rattle.awst.proofs.Noting.{first_marks, reached_result}
use Rattle.awst.proofs.reach.reached_from.Goals as goal

pub returns : goal.returns
returns c =
    reached_result c.args.roots.now c.args.funcs.now c.note_roots.new.marks _ (first_marks c.args.roots.now c.args.funcs.now _ _ c.in_ok-marks.ensures c.in_ok-note_roots.ensures.marks) c.in_ok-spread_marks.ensures
