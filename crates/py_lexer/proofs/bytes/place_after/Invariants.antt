use Rattle.std.proofs.Common.{◌≡◌, ◌+◌, ◌≤◌, drop}
use Rattle.py_lexer.specs.Bytes.{place_after}
use Rattle.py_lexer.proofs.bytes.place_after.Given as goal

abbrev pub invariant-loop-b : goal.invariant-loop-b
invariant-loop-b l = record {
  same : place_after l.place (drop l.b-index l.bytes) ≡ place_after l.fn.place l.bytes;
  line : l.place.line ≤ l.fn.place.line + l.b-index;
  column : l.place.col ≤ l.fn.place.col + l.b-index;
}
