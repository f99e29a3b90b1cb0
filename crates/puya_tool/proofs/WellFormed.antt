-- A well-formed program is never refused.
use Rattle.std.proofs.Common.{◌≡◌, ◌≢◌, ℕ, List, Err, refl}
use Rattle.avm_run.specs.Form.{IsWellFormed, checked, AnswersAs}
use Rattle.avm_run.specs.declared.program.ProgramFault.{ProgramFault}
use Rattle.avm_run.specs.declared.program.ProgramFault.TheVariants as faults

-- no fault but want of memory comes on a well-formed program
pub never_refused : (f : ProgramFault) (code : List ℕ) → AnswersAs {A = List ℕ} (λ p. tt) (Err f) (checked code) → IsWellFormed code → f ≢ faults.Memory → ⊥
never_refused (faults.Version b) code h w n = cc
never_refused (faults.Cut p) code h w n = cc
never_refused (faults.Outside p b) code h w n = cc
never_refused (faults.Overlong p) code h w n = cc
never_refused (faults.Target p t) code h w n = cc
never_refused faults.Memory code h w n = n refl
