use Rattle.std.proofs.Common.{arith}
use Rattle.std.specs.Fmt.{decimal}
use Rattle.teal_line.proofs.SpacedSteps.{spaced_step}
use Rattle.teal_line.proofs.printing.push_numbers.Goals as goal

pub loop-number-preserved : goal.loop-number-preserved
loop-number-preserved c =
    spaced_step decimal c.args.into.now c.loop-number.into c.push_number.new.into c.args.numbers.now c.loop-number.number-index 0 (omega arith) c.loop-number.invariant c.in_ok-push_number.ensures
