use Rattle.std.proofs.Common.{arith}
use Rattle.std.proofs.lemmas.Str.{utf8_valid_len-IsUtf8}
use Rattle.py_lexer.proofs.ByteLaws.{control_within}
use Rattle.py_lexer.proofs.bytes.first_bad.Goals as goal

pub returns-in-Ok-clause-value : goal.returns-in-Ok-clause-value
returns-in-Ok-clause-value c = omega (arith, control_within c.args.bytes.now, utf8_valid_len-IsUtf8 c.args.bytes.now c.in-Ok.ensures.cases.1)

pub returns-in-Ok-clause-within : goal.returns-in-Ok-clause-within
returns-in-Ok-clause-within c = omega (arith, control_within c.args.bytes.now)

pub returns-in-Err-clause-within : goal.returns-in-Err-clause-within
returns-in-Err-clause-within c = omega (arith, control_within c.args.bytes.now)
