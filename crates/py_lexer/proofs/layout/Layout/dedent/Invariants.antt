use Rattle.std.proofs.Common.{◌≡◌}
use Rattle.py_lexer.specs.Layout.{after_dedents}
use Rattle.py_lexer.proofs.layout.Layout.dedent.Given as goal

abbrev pub invariant-loop : goal.invariant-loop
invariant-loop l = l.self ≡ after_dedents l.spot l.counter l.fn.self
