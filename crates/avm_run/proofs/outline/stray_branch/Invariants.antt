use Rattle.std.proofs.Common.{◌≡◌, drop}
use Rattle.std.specs.Prelude.{find, not}
use Rattle.avm_run.specs.Form.{is_target}
use Rattle.avm_run.proofs.outline.stray_branch.Given as goal

abbrev pub invariant-loop-branch : goal.invariant-loop-branch
invariant-loop-branch l =
    find (λ b. not (is_target l.outline.starts l.end b.target)) (drop l.branch-index l.branch-items) ≡ find (λ b. not (is_target l.outline.starts l.end b.target)) l.outline.branches
