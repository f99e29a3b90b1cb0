use Rattle.std.proofs.Common.{◌≡◌, ◌≤◌, List, [], ◌∷◌, length}
use Rattle.py_grammar.specs.Grammar.{imported as imported_rule}
use Rattle.py_grammar.specs.Flow.{listing}
use Rattle.py_parser.specs.Modules.{names_listed}
use Rattle.py_parser.proofs.import.names_listed.Given as goal

abbrev pub invariant-loop-found : goal.invariant-loop-found
invariant-loop-found l = record {
  same : names_listed l.fn.tokens ≡ listing imported_rule l.found l.tokens;
  fewer : length l.tokens ≤ length l.fn.tokens;
}

abbrev pub decreases-loop-found : goal.decreases-loop-found
decreases-loop-found l = length l.tokens
