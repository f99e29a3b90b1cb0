use Rattle.std.proofs.Common.{◌≡◌, length}
use Rattle.compiler.specs.Form as spec
use Rattle.compiler.proofs.form.behind_items.Given as goal

abbrev pub invariant-loop-rest : goal.invariant-loop-rest
invariant-loop-rest l = spec.behind_items l.rest ≡ spec.behind_items l.fn.items

abbrev pub decreases-loop-rest : goal.decreases-loop-rest
decreases-loop-rest l = length l.rest
