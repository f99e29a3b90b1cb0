use Rattle.std.proofs.Common.{◌≡◌, length}
use Rattle.compiler.specs.Form as spec
use Rattle.compiler.proofs.form.behind_docstrings.Given as goal

abbrev pub invariant-loop-rest : goal.invariant-loop-rest
invariant-loop-rest l = spec.behind_docstrings l.rest ≡ spec.behind_docstrings l.fn.stmts

abbrev pub decreases-loop-rest : goal.decreases-loop-rest
decreases-loop-rest l = length l.rest
