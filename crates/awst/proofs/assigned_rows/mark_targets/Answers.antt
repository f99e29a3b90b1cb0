use Rattle.std.proofs.Common.{map, refl, arith}
use Rattle.awst.specs.Plain.{destination, is_among, is_destination}
use Rattle.awst.proofs.Marking.{marked_next, marked_end, read_again}
use Rattle.awst.proofs.assigned_rows.mark_targets.Goals as goal

pub loop-target-preserved : goal.loop-target-preserved
loop-target-preserved c =
    marked_next (λ l. is_among (map destination l)) (λ t. is_destination (destination t)) c.args.targets.now c.loop-target.target-index _ c.loop-target.marks c.mark_target.new.marks _
    (λ ys. refl) (omega arith) (read_again c.args.targets.now c.loop-target.target-index _ (omega arith)) c.mark_target.ensures c.loop-target.invariant

pub returns : goal.returns
returns c = marked_end (λ l. is_among (map destination l)) c.args.targets.now c.loop-target.target-index c.loop-target.marks _ refl (omega arith) c.loop-target.invariant
