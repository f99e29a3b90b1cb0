use Rattle.py_grammar.proofs.Whole.{one_place, no_module}
use Rattle.py_grammar.proofs.laws.hopeless_symbol_is_the_only_one.Goals as goal

pub returns-clause-one : goal.returns-clause-one
returns-clause-one c = one_place

pub returns-clause-none : goal.returns-clause-none
returns-clause-none c = no_module
