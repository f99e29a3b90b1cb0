use Rattle.std.proofs.Common.{eqb, get_or, refl, arith}
use Rattle.awst.specs.Calls.{is_in}
use Rattle.awst.proofs.Marking.{marked_next, marked_end, read_again}
use Rattle.awst.proofs.Noting.{waits_next, waits_none}
use Rattle.awst.proofs.reach.note_all.Goals as goal

pub loop-f-init : goal.loop-f-init
loop-f-init c = record { marks = refl; waits = waits_none c.args.marks.now c.args.waiting.now.items }

pub loop-f-preserved : goal.loop-f-preserved
loop-f-preserved c =
    let f = get_or c.args.calls.now c.loop-f.f-index 0 in
    record {
      marks = marked_next is_in eqb c.args.calls.now c.loop-f.f-index f c.loop-f.marks _ _ (λ ys. refl) (omega arith) (read_again c.args.calls.now c.loop-f.f-index 0 (omega arith)) c.in_ok-note.ensures.marks c.loop-f.invariant.marks;
      waits = waits_next (eqb f) _ _ _ _ _ _ c.loop-f.invariant.waits c.in_ok-note.ensures.marks c.in_ok-note.ensures.waits;
    }

pub returns : goal.returns
returns c = record {
  marks = marked_end is_in c.args.calls.now c.loop-f.f-index c.loop-f.marks _ refl (omega arith) c.loop-f.invariant.marks;
  waits = c.loop-f.invariant.waits;
}
