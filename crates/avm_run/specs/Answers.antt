-- What the calls of the machine answer, beside its definition: want of memory is free.
use Rattle.std.specs.Prelude.{◌≡◌, ◌<◌, ◌≤◌, ℕ, Bool, true, false, List, length, Option, Some, None, Result, Ok, Err}
use Rattle.puya_base.specs.declared.value.Value.{Value}
use Rattle.puya_base.specs.declared.faults.StepFault.{StepFault}
use Rattle.puya_base.specs.declared.faults.StepFault.TheVariants.{Fails, Memory}
use Rattle.avm_run.specs.declared.state.State.{State}
use Rattle.avm_run.specs.declared.state.Acted.{Acted}
use Rattle.avm_run.specs.declared.state.Acted.TheVariants as acted
use Rattle.avm_run.specs.declared.machine.Verdict.{Verdict}
use Rattle.avm_run.specs.declared.machine.Verdict.TheVariants as verdict
use Rattle.avm_run.specs.declared.machine.Halt.{Halt}
use Rattle.avm_run.specs.declared.outcome.Ran.{Ran}
use Rattle.avm_run.specs.declared.outcome.Outcome.{Outcome}
use Rattle.avm_run.specs.declared.outcome.Outcome.TheVariants.{Approved, Rejected, OverBudget, OverDepth}
use Rattle.avm_ops.specs.declared.instr.Instr.{Instr}
use Rattle.avm_state.specs.LedgerState.{LedgerState}
use Rattle.avm_run.specs.Bytes.{standing_of}
use Rattle.avm_run.specs.Operands.{below, top}
use Rattle.avm_run.specs.Machine.{Standing, Act, Failing, Giving, Returning, Turn, Next, Stop}

-- a row has acted and left this, or it fails
abbrev pub Acts : {A : Type 0} → Bool → A → Option A → Type 0
Acts true new due = due ≡ Some new
Acts false new due = due ≡ None

-- results, or the failure that is due
abbrev pub Gives : {A : Type 0} → Result A StepFault → Option A → Type 0
Gives (Ok results) due = due ≡ Some results
Gives (Err Fails) due = due ≡ None
Gives (Err Memory) due = Unit {0}

-- the same of a call that also changes something
abbrev pub Effects : {S A : Type 0} → Result A StepFault → S → Option (S × A) → Type 0
Effects (Ok results) new due = due ≡ Some (new, results)
Effects (Err Fails) new due = due ≡ None
Effects (Err Memory) new due = Unit {0}

-- what an instruction has done
abbrev pub Does : Acted → State → Act → Type 0
Does acted.Failed new due = due ≡ Failing
Does acted.WentOn new due = due ≡ Giving new
Does (acted.Returned v) new due = due ≡ Returning new v

-- the end of a run, with the ledger that it leaves
abbrev pub outcome_of : Verdict → LedgerState → Outcome
outcome_of verdict.Approves ledger = Approved ledger
outcome_of verdict.Rejects ledger = Rejected
outcome_of verdict.PassesBudget ledger = OverBudget
outcome_of verdict.PassesDepth ledger = OverDepth

abbrev pub ran_of : Halt → LedgerState → Ran
ran_of h ledger = record { outcome = outcome_of h.verdict ledger; pc = h.pc; spent = h.spent }

-- what a step of the program answers
abbrev pub Turns : Option Halt → State → Turn → Type 0
Turns None new due = due ≡ Next new
Turns (Some h) new due = due ≡ Stop (ran_of h new.ledger)

-- what stands at a place, with the place after it
abbrev pub Finds : Option (Instr × ℕ) → Option Standing → Type 0
Finds None due = due ≡ None
Finds (Some p) due = due ≡ Some (standing_of p.0 p.1)

-- the top values were taken off, where there were so many
abbrev pub Takes : Option (List Value) → List Value → List Value → ℕ → Type 0
Takes (Some taken) old new n = (n ≤ length old) × (taken ≡ top n old) × (new ≡ below n old)
Takes None old new n = length old < n
