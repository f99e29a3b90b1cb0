use Rattle.std.proofs.Common.{refl}
use Rattle.py_grammar.specs.Grammar.{rule}
use Rattle.py_grammar.specs.Ahead.{ahead}
use Rattle.py_grammar.specs.Trees.{place_of, as_name}
use Rattle.py_grammar.specs.Parser.{parse, parsers, turns, items}
use Rattle.py_grammar.specs.Flow.{full, enough}
use denote.Hole.Carrier.{out}
use Rattle.py_grammar.specs.declared.expression.Tree.{out-Tree}
use Rattle.py_grammar.proofs.rows.keywords_are_names.Goals as goal

pub returns-clause-keyword : goal.returns-clause-keyword
unfolding full enough parsers parse turns items rule ahead place_of as_name out-Tree out
returns-clause-keyword c = refl

pub returns-clause-paren : goal.returns-clause-paren
unfolding full enough parsers parse turns items rule ahead place_of as_name out-Tree out
returns-clause-paren c = refl
