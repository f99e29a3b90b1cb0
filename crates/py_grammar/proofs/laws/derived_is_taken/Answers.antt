use Rattle.py_grammar.proofs.Whole.{derived_is_taken}
use Rattle.py_grammar.proofs.laws.derived_is_taken.Goals as goal

pub returns : goal.returns
returns c = derived_is_taken
