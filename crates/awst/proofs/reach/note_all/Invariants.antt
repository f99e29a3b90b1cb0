use Rattle.std.proofs.Common.{◌≡◌, drop}
use Rattle.awst.specs.Calls.{is_in}
use Rattle.awst.specs.Marks.{marked}
use Rattle.awst.specs.Reach.{Waits}
use Rattle.awst.proofs.reach.note_all.Given as goal

abbrev pub invariant-loop-f : goal.invariant-loop-f
invariant-loop-f l = record {
  marks : marked (is_in (drop l.f-index l.calls)) l.marks ≡ marked (is_in l.calls) l.fn.marks;
  waits : Waits l.fn.marks l.marks l.fn.waiting.items l.waiting.items;
}
