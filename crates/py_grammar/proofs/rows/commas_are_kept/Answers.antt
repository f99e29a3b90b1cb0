use Rattle.std.proofs.Common.{refl}
use Rattle.py_grammar.specs.Grammar.{rule}
use Rattle.py_grammar.specs.Ahead.{ahead}
use Rattle.py_grammar.specs.Trees.{place_of, as_name}
use Rattle.py_grammar.specs.Parser.{parse, parsers, turns, items}
use Rattle.py_grammar.specs.Flow.{full, enough}
use denote.Hole.Carrier.{out}
use Rattle.py_grammar.specs.declared.expression.Tree.{out-Tree}
use Rattle.py_grammar.proofs.rows.commas_are_kept.Goals as goal

pub returns-clause-one : goal.returns-clause-one
unfolding full enough parsers parse turns items rule ahead place_of as_name out-Tree out
returns-clause-one c = refl

pub returns-clause-tuple : goal.returns-clause-tuple
unfolding full enough parsers parse turns items rule ahead place_of as_name out-Tree out
returns-clause-tuple c = refl

pub returns-clause-none : goal.returns-clause-none
unfolding full enough parsers parse turns items rule ahead place_of as_name out-Tree out
returns-clause-none c = refl

pub returns-clause-call : goal.returns-clause-call
unfolding full enough parsers parse turns items rule ahead place_of as_name out-Tree out
returns-clause-call c = refl

pub returns-clause-index : goal.returns-clause-index
unfolding full enough parsers parse turns items rule ahead place_of as_name out-Tree out
returns-clause-index c = refl

pub returns-clause-slice : goal.returns-clause-slice
unfolding full enough parsers parse turns items rule ahead place_of as_name out-Tree out
returns-clause-slice c = refl
