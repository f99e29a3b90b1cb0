use Rattle.std.proofs.Common.{◌≡◌, drop, None}
use Rattle.path_rules.specs.Told.{first_read}
use Rattle.path_rules.proofs.answer.first_read.Given as goal

abbrev pub invariant-loop-t : goal.invariant-loop-t
invariant-loop-t l = first_read l.first (drop l.t-index l.touched) ≡ first_read None l.touched
