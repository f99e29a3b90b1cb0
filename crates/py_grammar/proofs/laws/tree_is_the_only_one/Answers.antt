use Rattle.py_grammar.proofs.Whole.{one_tree}
use Rattle.py_grammar.proofs.laws.tree_is_the_only_one.Goals as goal

pub returns : goal.returns
returns c = one_tree
