use Rattle.std.proofs.Common.{◌≡◌, ◌<◌, ◌^◌, drop}
use Rattle.py_lexer.specs.Numbers.{written, if_fitting, digits}
use Rattle.py_lexer.proofs.numbers.digits.Given as goal

abbrev pub invariant-loop-b : goal.invariant-loop-b
invariant-loop-b l = record {
  same : if_fitting (written l.base l.value l.after_digit (drop l.b-index l.text)) ≡ digits l.base l.text;
  fits : l.value < 2 ^ 64;
}
