use Rattle.std.proofs.Common.{◌≡◌, ◌++◌, take, map}
use Rattle.std.specs.Fmt.{decimal}
use Rattle.teal_line.specs.Printing.{spaced}
use Rattle.teal_line.proofs.printing.push_numbers.Given as goal

abbrev pub invariant-loop-number : goal.invariant-loop-number
invariant-loop-number l = l.into ≡ l.fn.into ++ spaced (map decimal (take l.number-index l.numbers))
