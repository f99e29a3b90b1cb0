use Rattle.py_grammar.proofs.Ends.{module_ends, symbols_end}
use Rattle.py_grammar.proofs.Whole.{nothing_left, something_stands}
use Rattle.py_grammar.proofs.laws.end_stands_last.Goals as goal

pub returns-clause-modules : goal.returns-clause-modules
returns-clause-modules c = λ ts m d. module_ends m ts d

pub returns-clause-sources : goal.returns-clause-sources
returns-clause-sources c = symbols_end

pub returns-clause-taken : goal.returns-clause-taken
returns-clause-taken c = nothing_left

pub returns-clause-stopped : goal.returns-clause-stopped
returns-clause-stopped c = something_stands
