-- How a field is judged, and what the calls answer: want of memory is free.
use Rattle.std.specs.Prelude.{◌≡◌, List, ℕ, Option, Some, None, Result, Ok, Err}
use Rattle.serde_json.specs.Data.{Data}
use Rattle.serde_json.specs.Find.{get}
use Rattle.puya_base.specs.declared.faults.StepFault.{StepFault}
use Rattle.puya_base.specs.declared.faults.StepFault.TheVariants as step
use Rattle.call_file.specs.declared.fault.CallFault.{CallFault}
use Rattle.call_file.specs.declared.fault.CallFault.TheVariants.{Json, Missing, Bad, Memory}
use Rattle.call_file.specs.declared.fault.FormFault.{FormFault}
use Rattle.call_file.specs.declared.fault.FormFault.TheVariants as form

-- the ? of the definition: the first fault is the answer
infixl 10 ◌>>=◌
abbrev pub ◌>>=◌ : {A B : Type 0} → Result A CallFault → (A → Result B CallFault) → Result B CallFault
Ok a >>= next = next a
Err fault >>= next = Err fault

-- a value of the form, or else the field is bad
abbrev pub formed : {A : Type 0} → List ℕ → Option A → Result A CallFault
formed name None = Err (Bad name)
formed name (Some a) = Ok a

-- a value that is there, or else the field is missing
abbrev pub judged : {A : Type 0} → List ℕ → (Data → Option A) → Option Data → Result A CallFault
judged name form None = Err (Missing name)
judged name form (Some d) = formed name (form d)

-- the field of an object, in its form
abbrev pub field : {A : Type 0} → List ℕ → (Data → Option A) → Data → Result A CallFault
field name form d = judged name form (get name d)

-- a call answers what is due
abbrev pub Answers : {A : Type 0} → Result A CallFault → Result A CallFault → Type 0
Answers due (Ok a) = due ≡ Ok a
Answers due (Err Json) = due ≡ Err Json
Answers due (Err (Missing name)) = due ≡ Err (Missing name)
Answers due (Err (Bad name)) = due ≡ Err (Bad name)
Answers due (Err Memory) = Unit {0}

-- the same of a fault that is made
abbrev pub Faults : CallFault → CallFault → Type 0
Faults due Json = due ≡ Json
Faults due (Missing name) = due ≡ Missing name
Faults due (Bad name) = due ≡ Bad name
Faults due Memory = Unit {0}

-- a value is read in its form, or it is of no such form
abbrev pub Reads : {A : Type 0} → Option A → Result A FormFault → Type 0
Reads due (Ok a) = due ≡ Some a
Reads due (Err form.Bad) = due ≡ None
Reads due (Err form.Memory) = Unit {0}

-- the same of a call that changes something, and answers nothing besides
abbrev pub Puts : {A B : Type 0} → Option A → A → Result B FormFault → Type 0
Puts due new (Ok b) = due ≡ Some new
Puts due new (Err form.Bad) = due ≡ None
Puts due new (Err form.Memory) = Unit {0}

-- why a value is not read, where a step on a ledger does not act
abbrev pub form_fault : StepFault → FormFault
form_fault step.Fails = form.Bad
form_fault step.Memory = form.Memory
