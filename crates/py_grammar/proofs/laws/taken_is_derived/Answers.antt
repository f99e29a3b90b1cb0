use Rattle.py_grammar.proofs.Whole.{part_taken, taken_is_derived}
use Rattle.py_grammar.proofs.laws.taken_is_derived.Goals as goal

pub returns-clause-parts : goal.returns-clause-parts
returns-clause-parts c = part_taken

pub returns-clause-modules : goal.returns-clause-modules
returns-clause-modules c = taken_is_derived
