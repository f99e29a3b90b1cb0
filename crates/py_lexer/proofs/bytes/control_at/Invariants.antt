use Rattle.std.proofs.Common.{◌≡◌, ◌+◌, drop}
use Rattle.py_lexer.specs.Bytes.{control_at}
use Rattle.py_lexer.proofs.bytes.control_at.Given as goal

abbrev pub invariant-loop-i : goal.invariant-loop-i
invariant-loop-i l = l.i + control_at (drop l.i l.bytes) ≡ control_at l.bytes
