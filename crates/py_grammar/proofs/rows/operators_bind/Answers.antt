use Rattle.std.proofs.Common.{refl}
use Rattle.py_grammar.specs.Grammar.{rule}
use Rattle.py_grammar.specs.Ahead.{ahead}
use Rattle.py_grammar.specs.Trees.{place_of, as_name}
use Rattle.py_grammar.specs.Parser.{parse, parsers, turns, items}
use Rattle.py_grammar.specs.Flow.{full, enough}
use denote.Hole.Carrier.{out}
use Rattle.py_grammar.specs.declared.expression.Tree.{out-Tree}
use Rattle.py_grammar.proofs.rows.operators_bind.Goals as goal

pub returns-clause-minus : goal.returns-clause-minus
unfolding full enough parsers parse turns items rule ahead place_of as_name out-Tree out
returns-clause-minus c = refl

pub returns-clause-powers : goal.returns-clause-powers
unfolding full enough parsers parse turns items rule ahead place_of as_name out-Tree out
returns-clause-powers c = refl

pub returns-clause-sums : goal.returns-clause-sums
unfolding full enough parsers parse turns items rule ahead place_of as_name out-Tree out
returns-clause-sums c = refl

pub returns-clause-products : goal.returns-clause-products
unfolding full enough parsers parse turns items rule ahead place_of as_name out-Tree out
returns-clause-products c = refl

pub returns-clause-denial : goal.returns-clause-denial
unfolding full enough parsers parse turns items rule ahead place_of as_name out-Tree out
returns-clause-denial c = refl
