use Rattle.py_grammar.proofs.Whole.{module_or_place}
use Rattle.py_grammar.proofs.laws.module_or_hopeless_symbol.Goals as goal

pub returns : goal.returns
returns c = module_or_place
