use Rattle.py_grammar.proofs.Whole.{always_answers}
use Rattle.py_grammar.proofs.laws.parser_answers.Goals as goal

pub returns : goal.returns
returns c = always_answers
