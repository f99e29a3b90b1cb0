use Rattle.std.proofs.Common.{◌≡◌, drop}
use Rattle.awst.specs.Marks.{marked}
use Rattle.awst.specs.Reach.{Waits}
use Rattle.awst.specs.Weight.{is_root}
use Rattle.awst.proofs.reach.note_roots.Given as goal

abbrev pub invariant-loop-root : goal.invariant-loop-root
invariant-loop-root l = record {
  marks : marked (is_root (drop l.root-index l.roots)) l.marks ≡ marked (is_root l.roots) l.fn.marks;
  waits : Waits l.fn.marks l.marks l.fn.waiting.items l.waiting.items;
}
