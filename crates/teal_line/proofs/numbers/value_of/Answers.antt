use Rattle.std.proofs.Common.{◌<◌, ◌^◌, suc, length, drop, get_or, sym, ◌∙◌, ap, arith, drop-cons}
use Rattle.teal_line.specs.Operands.{below, value_in, digit_in}
use Rattle.teal_line.proofs.NumberSteps.{stops}
use Rattle.teal_line.proofs.numbers.value_of.Goals as goal

pub returns-in_default : goal.returns-in_default
returns-in_default c =
    let digits = c.args.digits.now in
    let i = c.loop-b.b-index in
    let base = c.args.base in
    let lt : i < length digits = omega arith in
    sym (stops base c.loop-b.value (get_or digits i 0) c.in_ok-digit.digit (drop (suc i) digits) (omega arith) (sym c.in_ok-digit.ensures) (sym c.in_default.ensures.value))
    ∙ ap (λ q. below (2 ^ 64) (value_in base (digit_in base) c.loop-b.value q)) (sym (drop-cons digits i 0 lt)) ∙ c.loop-b.invariant.same
