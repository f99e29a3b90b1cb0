-- What the evaluator has seen, as the definitions have it.
use Rattle.std.specs.Prelude.{map}
use Rattle.runs.specs.Marks as marks
use Rattle.runs.specs.Seen as seen
use Rattle.runs.specs.Steps as runs
use Rattle.awst_eval.specs.declared.seen.Change.{Change}
use Rattle.awst_eval.specs.declared.seen.Change.TheVariants as change
use Rattle.awst_eval.specs.declared.seen.Mark.{Mark}
use Rattle.awst_eval.specs.declared.seen.Seen.{Seen}
use Rattle.awst_eval.specs.declared.world.World.{World}

abbrev pub change_of : Change → marks.Change
change_of change.Logs = marks.logs

abbrev pub mark_of : Mark → marks.Mark
mark_of m = record { change = change_of m.change; line = m.line }

unfoldable pub seen_of : Seen → seen.Seen
seen_of s = record { ledger = s.ledger; price = s.price; opened = s.opened; peak = s.peak; marks = map mark_of s.marks }

unfoldable pub world_of : World → runs.World
world_of w = record { seen = seen_of w.seen; rest = w.rest }
