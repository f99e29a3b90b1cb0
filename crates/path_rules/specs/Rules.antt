-- The rules on paths, and which refusal is the least.
use Rattle.std.specs.Prelude.{ℕ, ◌≡◌, ◌<◌, ◌≤◌, ◌⊎◌, Bool, true, false, List, Option, Some, None}
use Rattle.puya_base.specs.declared.source.Place.{Place}
use Rattle.puya_base.specs.declared.source.Refusal.{Refusal}
use Rattle.puya_base.specs.declared.source.Rule.{Rule}
use Rattle.puya_base.specs.declared.source.Rule.TheVariants.{P01, P02, P03, P04, P05, P06, P07, P08, P09, P10, P11, P12, P13, P14, P15, P16, P17, P18, P19, P20, P21, P22, P23, P24, P25}
use Rattle.path_rules.specs.declared.note.Note.{Note}
use Rattle.path_rules.specs.Steps.{Step, broken, read, assign, forget, arm, choice, may_end, loop, break, continue, return, Steps, no_steps, a_step, steps_of}
use Rattle.path_rules.specs.Walks.{goes, out, at, Walks}

abbrev pub refused : Rule → Place → Refusal
refused rule place = record { rule = rule; place = place }

-- ---- what is broken wherever it stands: what was noted so, and a loop word outside a loop

abbrev mutual
  pub Tells : Bool → Step → Refusal → Type 0
  Tells inside (broken q) r = q ≡ r
  Tells inside (read x p) r = ⊥
  Tells inside (assign x) r = ⊥
  Tells inside (forget x) r = ⊥
  Tells inside (arm always body) r = TellAll inside body r
  Tells inside (choice fs) r = TellAll inside fs r
  Tells inside may_end r = ⊥
  Tells inside (loop fs) r = TellAll true fs r
  Tells inside (break p) r = (inside ≡ false) × (refused P19 p ≡ r)
  Tells inside (continue p) r = (inside ≡ false) × (refused P19 p ≡ r)
  Tells inside return r = ⊥

  pub TellAll : Bool → Steps → Refusal → Type 0
  TellAll inside no_steps r = ⊥
  TellAll inside (a_step f fs) r = Tells inside f r ⊎ TellAll inside fs r

-- ---- what is broken where a walk comes

-- some walk from the start, where no variable is assigned, comes to a read of an unassigned variable at that place
abbrev pub IsReadUnassigned : Steps → Place → Type 0
IsReadUnassigned fs p = (x : ℕ) × Walks x fs false (at p) false

-- some walk from the start gets behind the last step
abbrev pub IsEndReached : Steps → Type 0
IsEndReached fs = (x : ℕ) × (t : Bool) × Walks x fs false (out goes) t

-- a broken rule; `end` is the place of the function's name where it has a result
pub data Breaks (fs : Steps) (end : Option Place) : Refusal → Type 0 where
  told : (r : Refusal) → TellAll false fs r → Breaks fs end r
  unassigned : (p : Place) → IsReadUnassigned fs p → Breaks fs end (refused P17 p)
  no_return : (p : Place) → end ≡ Some p → IsEndReached fs → Breaks fs end (refused P18 p)

abbrev pub IsBroken : List Note → Option Place → Refusal → Type 0
IsBroken notes end r = Breaks (steps_of notes) end r

-- ---- the order

abbrev pub IsNotAfter : Place → Place → Type 0
IsNotAfter p q = (p.line < q.line) ⊎ ((p.line ≡ q.line) × (p.col ≤ q.col))

abbrev pub number_of : Rule → ℕ
number_of P01 = 1
number_of P02 = 2
number_of P03 = 3
number_of P04 = 4
number_of P05 = 5
number_of P06 = 6
number_of P07 = 7
number_of P08 = 8
number_of P09 = 9
number_of P10 = 10
number_of P11 = 11
number_of P12 = 12
number_of P13 = 13
number_of P14 = 14
number_of P15 = 15
number_of P16 = 16
number_of P17 = 17
number_of P18 = 18
number_of P19 = 19
number_of P20 = 20
number_of P21 = 21
number_of P22 = 22
number_of P23 = 23
number_of P24 = 24
number_of P25 = 25

-- by place, and at one place by the number of the rule
pub record ComesFirst (q r : Refusal) : Type 0 where
  pub place : IsNotAfter q.place r.place
  pub rule : q.place ≡ r.place → number_of q.rule ≤ number_of r.rule

-- the least of those that there are, or none where there is none
abbrev pub IsLeast : {A : Type 0} → (A → A → Type 0) → (A → Type 0) → Option A → Type 0
IsLeast {A} first P None = (a : A) → P a → ⊥
IsLeast {A} first P (Some a) = P a × ((b : A) → P b → first a b)

abbrev pub IsFirst : (Refusal → Type 0) → Option Refusal → Type 0
IsFirst P r = IsLeast ComesFirst P r
