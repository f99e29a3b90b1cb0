use Rattle.std.proofs.Common.{◌≡◌, ◌<◌, List, [], ◌∷◌, length}
use Rattle.py_grammar.specs.Parts.{Part}
use Rattle.py_grammar.specs.Rules.{part}
use Rattle.py_grammar.specs.Flow.{again}
use Rattle.py_parser.specs.Statements.{lines}
use Rattle.py_parser.proofs.statement.Statements.lines.Given as goal

abbrev pub invariant-loop-tokens : goal.invariant-loop-tokens
invariant-loop-tokens g l = record {
  same : lines l.fn.tokens ≡ again (part Part.Stmt) l.found l.tokens;
  fewer : length l.tokens < length l.fn.tokens;
}

abbrev pub decreases-loop-tokens : goal.decreases-loop-tokens
decreases-loop-tokens g l = length l.tokens
