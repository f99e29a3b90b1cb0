use Rattle.py_grammar.proofs.Printed.{ahead_of, printed_of}
use Rattle.py_grammar.proofs.laws.look_ahead_derives_the_same.Goals as goal

pub returns-clause-all : goal.returns-clause-all
returns-clause-all c = λ n x u d. ahead_of d

pub returns-clause-alone : goal.returns-clause-alone
returns-clause-alone c = λ n x u d. printed_of d
