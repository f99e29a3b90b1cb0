use Rattle.std.proofs.Common.{◌≡◌, ◌++◌, ◌-◌, ◌≤◌, length, drop}
use Rattle.py_lexer.specs.Literals.{read_from}
use Rattle.py_lexer.proofs.literals.add_contents.Given as goal

abbrev pub invariant-loop-at : goal.invariant-loop-at
invariant-loop-at l = record {
  added : l.into ++ (read_from l.bytes 0 (drop l.at l.text)).0 ≡ l.fn.into ++ (read_from l.bytes 0 l.text).0;
  whole : (read_from l.bytes 0 (drop l.at l.text)).1 ≡ (read_from l.bytes 0 l.text).1;
  within : l.at ≤ length l.text;
}

abbrev pub decreases-loop-at : goal.decreases-loop-at
decreases-loop-at l = length l.text - l.at
