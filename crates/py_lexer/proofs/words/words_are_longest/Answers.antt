use Rattle.py_lexer.proofs.WordLaws.{longest}
use Rattle.py_lexer.proofs.words.words_are_longest.Goals as goal

pub returns : goal.returns
returns c = longest
