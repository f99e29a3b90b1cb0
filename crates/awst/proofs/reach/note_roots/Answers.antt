use Rattle.std.proofs.Common.{◌∷◌, [], None, get_or, refl, sym, arith}
use Rattle.awst.specs.Weight.{is_root}
use Rattle.awst.proofs.Marking.{marked_next_at, marked_end, read_again}
use Rattle.awst.proofs.Noting.{waits_next, waits_none, root_first}
use Rattle.awst.proofs.reach.note_roots.Goals as goal

pub loop-root-init : goal.loop-root-init
loop-root-init c = record { marks = refl; waits = waits_none c.args.marks.now c.args.waiting.now.items }

pub loop-root-preserved : goal.loop-root-preserved
loop-root-preserved c =
    let root = get_or c.args.roots.now c.loop-root.root-index None in
    record {
      marks = marked_next_at is_root (λ r. is_root (r ∷ [])) c.args.roots.now c.loop-root.root-index root c.loop-root.marks _ _ (λ ys y. sym (root_first root ys y)) (omega arith) (read_again c.args.roots.now c.loop-root.root-index None (omega arith)) c.in_ok-note_root.ensures.marks c.loop-root.invariant.marks;
      waits = waits_next (is_root (root ∷ [])) _ _ _ _ _ _ c.loop-root.invariant.waits c.in_ok-note_root.ensures.marks c.in_ok-note_root.ensures.waits;
    }

pub returns : goal.returns
returns c = record {
  marks = marked_end is_root c.args.roots.now c.loop-root.root-index c.loop-root.marks _ refl (omega arith) c.loop-root.invariant.marks;
  waits = c.loop-root.invariant.waits;
}
