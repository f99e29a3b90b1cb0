use Rattle.std.proofs.Common.{◌≡◌, ◌≤◌, List, [], ◌∷◌, length}
use Rattle.py_parser.specs.Statements.{branches}
use Rattle.py_parser.proofs.statement.Statements.branches.Given as goal

abbrev pub invariant-loop-tokens : goal.invariant-loop-tokens
invariant-loop-tokens g l = record {
  same : branches [] l.fn.tokens ≡ branches l.found l.tokens;
  fewer : length l.tokens ≤ length l.fn.tokens;
}

abbrev pub decreases-loop-tokens : goal.decreases-loop-tokens
decreases-loop-tokens g l = length l.tokens
