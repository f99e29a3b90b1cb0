use Rattle.py_grammar.proofs.Places.{stands_first}
use Rattle.py_grammar.proofs.laws.trees_stand_at_their_first_symbol.Goals as goal

pub returns : goal.returns
returns c = stands_first
