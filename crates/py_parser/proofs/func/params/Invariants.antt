use Rattle.std.proofs.Common.{◌≡◌, ◌≤◌, List, [], ◌∷◌, length}
use Rattle.py_grammar.specs.Parts.{Part}
use Rattle.py_grammar.specs.Rules.{part}
use Rattle.py_grammar.specs.Flow.{listing}
use Rattle.py_parser.specs.Modules.{params}
use Rattle.py_parser.proofs.func.params.Given as goal

abbrev pub invariant-loop-found : goal.invariant-loop-found
invariant-loop-found l = record {
  same : params l.fn.tokens ≡ listing (part Part.Param) l.found l.tokens;
  fewer : length l.tokens ≤ length l.fn.tokens;
}

abbrev pub decreases-loop-found : goal.decreases-loop-found
decreases-loop-found l = length l.tokens
