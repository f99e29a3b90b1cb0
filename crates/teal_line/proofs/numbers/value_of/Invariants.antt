use Rattle.std.proofs.Common.{◌≡◌, ◌<◌, ◌^◌, drop}
use Rattle.teal_line.specs.Operands.{below, value_in, digit_in}
use Rattle.teal_line.proofs.numbers.value_of.Given as goal

abbrev pub invariant-loop-b : goal.invariant-loop-b
invariant-loop-b l = record {
  same : below (2 ^ 64) (value_in l.base (digit_in l.base) l.value (drop l.b-index l.digits)) ≡ below (2 ^ 64) (value_in l.base (digit_in l.base) 0 l.digits);
  fits : l.value < 2 ^ 64;
}
