use Rattle.py_grammar.proofs.Whole.{stops_at_first}
use Rattle.py_grammar.proofs.laws.parser_stops_at_the_first_hopeless_symbol.Goals as goal

pub returns : goal.returns
returns c = stops_at_first
