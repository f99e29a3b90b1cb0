use Rattle.std.proofs.Common.{◌≡◌, ◌<◌, List, [], ◌∷◌, length}
use Rattle.py_grammar.specs.Parts.{Part}
use Rattle.py_grammar.specs.Rules.{part}
use Rattle.py_grammar.specs.Flow.{again}
use Rattle.py_parser.specs.Modules.{members}
use Rattle.py_parser.proofs.class.members.Given as goal

abbrev pub invariant-loop-alloc : goal.invariant-loop-alloc
invariant-loop-alloc l = record {
  same : members l.fn.tokens ≡ again (part Part.Member) l.found l.tokens;
  fewer : length l.tokens < length l.fn.tokens;
}

abbrev pub decreases-loop-alloc : goal.decreases-loop-alloc
decreases-loop-alloc l = length l.tokens
