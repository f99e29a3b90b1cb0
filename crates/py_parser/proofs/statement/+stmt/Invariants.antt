use Rattle.std.proofs.Common.{length}
use Rattle.py_parser.proofs.statement.+stmt.Given as goal

abbrev pub decreases-stmt : goal.decreases-stmt
decreases-stmt l = length l.tokens.now
