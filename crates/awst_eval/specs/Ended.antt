-- How a call of the evaluator relates to a run: want of memory is free.
use Rattle.std.specs.Prelude.{◌≡◌, Option, Some, None, Result, Ok, Err}
use Rattle.puya_base.specs.declared.faults.StepFault.{StepFault}
use Rattle.puya_base.specs.declared.faults.StepFault.TheVariants as fault
use Rattle.runs.specs.Steps as runs
use Rattle.awst_eval.specs.declared.stop.Stop.{Stop}
use Rattle.awst_eval.specs.declared.stop.Stop.TheVariants.{Failed, Going, Memory}

abbrev pub stop_of : StepFault → Stop
stop_of fault.Fails = Failed
stop_of fault.Memory = Memory

-- a value, or the failure where none is due; it never goes on past a bound
abbrev pub Lifts : {R A : Type 0} → (R → A) → Result R Stop → Option A → Type 0
Lifts shown (Ok r) due = due ≡ Some (shown r)
Lifts shown (Err Failed) due = due ≡ None
Lifts shown (Err Going) due = ⊥
Lifts shown (Err Memory) due = Unit {0}

-- the run ended or went on as the call says, and left this world
unfoldable pub Ends : {R A : Type 0} → (R → A) → Result R Stop → runs.Result A → runs.World → Type 0
Ends shown (Ok r) due w = due ≡ runs.Gives (shown r) w
Ends shown (Err Failed) due w = due ≡ runs.Fails w
Ends shown (Err Going) due w = due ≡ runs.Going w
Ends shown (Err Memory) due w = Unit {0}
