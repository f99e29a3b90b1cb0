use Rattle.std.proofs.Common.{◌≤◌, ◌+◌, length}
use Rattle.teal_text.specs.Reading.{lines_of}
use Rattle.teal_text.proofs.TextSteps.{ToRead}
use Rattle.teal_text.proofs.reading.read.Given as goal

abbrev pub invariant-loop-end : goal.invariant-loop-end
invariant-loop-end l = record {
  reads : ToRead l.text (lines_of l.rest) l.reading.number l.reading.versioned l.reading.names l.reading.lines;
  counted : l.reading.number + length l.rest ≤ length l.text + 1;
}

abbrev pub decreases-loop-end : goal.decreases-loop-end
decreases-loop-end l = length l.rest
