use Rattle.std.proofs.Common.{◌≡◌, ◌-◌, ◌≤◌, length, drop}
use Rattle.py_lexer.specs.Literals.{closing_from, closing_len}
use Rattle.py_lexer.proofs.LiteralLaws.{ahead}
use Rattle.py_lexer.proofs.literals.closing_len.Given as goal

abbrev pub invariant-loop-n : goal.invariant-loop-n
invariant-loop-n l = record {
  same : ahead l.n (closing_from l.quotes l.escaped (drop l.n l.text)) ≡ closing_len l.quotes l.text;
  within : l.n ≤ length l.text;
}

abbrev pub decreases-loop-n : goal.decreases-loop-n
decreases-loop-n l = length l.text - l.n
