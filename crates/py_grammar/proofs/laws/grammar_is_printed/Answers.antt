use Rattle.py_grammar.proofs.Sets.{printed}
use Rattle.py_grammar.proofs.laws.grammar_is_printed.Goals as goal

pub returns : goal.returns
returns c = printed
