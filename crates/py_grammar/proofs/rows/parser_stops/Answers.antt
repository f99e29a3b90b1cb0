use Rattle.std.proofs.Common.{refl}
use Rattle.py_grammar.specs.Grammar.{rule}
use Rattle.py_grammar.specs.Ahead.{ahead}
use Rattle.py_grammar.specs.Trees.{place_of, as_name}
use Rattle.py_grammar.specs.Parser.{parse, parsers, turns, items}
use Rattle.py_grammar.specs.Flow.{full, enough}
use denote.Hole.Carrier.{out}
use Rattle.py_grammar.specs.declared.expression.Tree.{out-Tree}
use Rattle.py_grammar.proofs.rows.parser_stops.Goals as goal

pub returns-clause-operand : goal.returns-clause-operand
unfolding full enough parsers parse turns items rule ahead place_of as_name out-Tree out
returns-clause-operand c = refl

pub returns-clause-chain : goal.returns-clause-chain
unfolding full enough parsers parse turns items rule ahead place_of as_name out-Tree out
returns-clause-chain c = refl

pub returns-clause-constant : goal.returns-clause-constant
unfolding full enough parsers parse turns items rule ahead place_of as_name out-Tree out
returns-clause-constant c = refl
