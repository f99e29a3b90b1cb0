use Rattle.std.proofs.Common.{◌≡◌, ◌+◌, ◌-◌, ◌≤◌, length, drop}
use Rattle.py_lexer.specs.Literals.{flaw_from, flaw_at}
use Rattle.py_lexer.proofs.literals.flaw_at.Given as goal

abbrev pub invariant-loop-at : goal.invariant-loop-at
invariant-loop-at l = record {
  same : l.at + flaw_from l.bytes 0 (drop l.at l.text) ≡ flaw_at l.bytes l.text;
  within : l.at ≤ length l.text;
}

abbrev pub decreases-loop-at : goal.decreases-loop-at
decreases-loop-at l = length l.text - l.at
