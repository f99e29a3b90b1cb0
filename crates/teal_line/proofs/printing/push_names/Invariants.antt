use Rattle.std.proofs.Common.{◌≡◌, ◌++◌, take}
use Rattle.teal_line.specs.Printing.{spaced}
use Rattle.teal_line.proofs.printing.push_names.Given as goal

abbrev pub invariant-loop-name : goal.invariant-loop-name
invariant-loop-name l = l.into ≡ l.fn.into ++ spaced (take l.name-index l.names)
