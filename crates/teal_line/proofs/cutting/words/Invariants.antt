use Rattle.std.proofs.Common.{◌≡◌, ◌-◌, ◌++◌, ◌≤◌, length, drop, map}
use Rattle.teal_line.specs.Words.{words_of}
use Rattle.teal_line.proofs.cutting.words.Given as goal

abbrev pub invariant-loop-at : goal.invariant-loop-at
invariant-loop-at l = record {
  same : map (λ w. w.now) l.words ++ words_of (drop l.at l.line) ≡ words_of l.line;
  within : l.at ≤ length l.line;
}

abbrev pub decreases-loop-at : goal.decreases-loop-at
decreases-loop-at l = length l.line - l.at
