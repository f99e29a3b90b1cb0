use Rattle.std.proofs.Common.{◌≡◌, ◌<◌, List, [], ◌∷◌, length}
use Rattle.py_grammar.specs.declared.symbol.Sym.TheVariants as sym
use Rattle.py_grammar.specs.Rules.{one, ◌~◌}
use Rattle.py_grammar.specs.Grammar.{imported as imported_rule}
use Rattle.py_grammar.specs.Flow.{gather}
use Rattle.py_parser.specs.Modules.{name_list}
use Rattle.py_parser.proofs.import.name_list.Given as goal

abbrev pub invariant-loop-alloc : goal.invariant-loop-alloc
invariant-loop-alloc l = record {
  same : name_list l.fn.tokens ≡ gather (λ q. q.1) (one sym.Comma ~ imported_rule) l.found l.tokens;
  fewer : length l.tokens < length l.fn.tokens;
}

abbrev pub decreases-loop-alloc : goal.decreases-loop-alloc
decreases-loop-alloc l = length l.tokens
