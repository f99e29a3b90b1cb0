-- Summaries of steps, one variable at a time.
use Rattle.std.specs.Prelude.{ℕ, suc, ◌≤◌, ◌==◌, Bool, true, false, ◌||◌, not, if◌then◌else◌, nat_lt, List, [], ◌∷◌, map, Option, Some, None}
use Rattle.path_rules.specs.declared.summary.Exits.{Exits}
use Rattle.path_rules.specs.declared.summary.Endings.{Endings}
use Rattle.path_rules.specs.declared.summary.Effect.{Effect}
use Rattle.path_rules.specs.declared.summary.Touched.{Touched}
use Rattle.path_rules.specs.declared.summary.Summary.{Summary}
use Rattle.path_rules.specs.declared.summary.Frame.{Frame}
use Rattle.path_rules.specs.declared.summary.Frame.TheVariants.{Arm, If, Loop}
use Rattle.puya_base.specs.declared.source.Place.{Place}
use Rattle.path_rules.specs.Order.{earlier_place}

abbrev pub no_exits : Exits
no_exits = record { goes = false; leaves = false; breaks = false; continues = false }

abbrev pub no_endings : Endings
no_endings = record { exits = no_exits; read = None }

-- of a variable that is not named: a walk ends with it as it began
abbrev pub untouched : Exits → Effect
untouched e = record { unassigned = record { exits = e; read = None }; assigned = no_endings }

-- ---- one piece behind another

abbrev pub either_exits : Exits → Exits → Exits
either_exits a b = record { goes = a.goes || b.goes; leaves = a.leaves || b.leaves; breaks = a.breaks || b.breaks; continues = a.continues || b.continues }

abbrev pub either : Endings → Endings → Endings
either a b = record { exits = either_exits a.exits b.exits; read = earlier_place a.read b.read }

abbrev pub given : Bool → Endings → Endings
given c a = if c then a else no_endings

-- all but those that go on
abbrev pub halted : Endings → Endings
halted a = record { exits = record { goes = false; leaves = a.exits.leaves; breaks = a.exits.breaks; continues = a.exits.continues }; read = a.read }

-- `on` says whether any walk goes on behind the first piece
abbrev pub endings_behind : Endings → Bool → Effect → Endings
endings_behind a on e = either (halted a) (either (given a.exits.goes e.unassigned) (given on e.assigned))

abbrev pub behind : Bool → Effect → Effect → Effect
behind on d e = record { unassigned = endings_behind d.unassigned on e; assigned = endings_behind d.assigned on e }

abbrev pub others_behind : Exits → Exits → Exits
others_behind a b = (behind a.goes (untouched a) (untouched b)).unassigned.exits

abbrev pub left_alone : Exits → Exits → Touched → Touched
left_alone a b t = record { variable = t.variable; effect = behind a.goes t.effect (untouched b) }

abbrev pub right_alone : Exits → Exits → Touched → Touched
right_alone a b t = record { variable = t.variable; effect = behind a.goes (untouched a) t.effect }

abbrev pub both_named : Exits → Touched → Touched → Touched
both_named a t u = record { variable = t.variable; effect = behind a.goes t.effect u.effect }

-- the first variable of a list, and then what is left of it, merged with another
abbrev pub merged_with : Exits → Exits → Touched → (List Touched → List Touched) → List Touched → List Touched
merged_with a b t rest [] = left_alone a b t ∷ rest []
merged_with a b t rest (u ∷ us) =
    if nat_lt t.variable u.variable then left_alone a b t ∷ rest (u ∷ us)
    else (if nat_lt u.variable t.variable then right_alone a b u ∷ merged_with a b t rest us else both_named a t u ∷ rest us)

abbrev pub merged : Exits → Exits → List Touched → List Touched → List Touched
merged a b [] us = map (right_alone a b) us
merged a b (t ∷ ts) us = merged_with a b t (merged a b ts) us

-- ---- notes in a frame

abbrev pub arm_endings : Bool → Endings → Endings
arm_endings passes a = record { exits = record { goes = passes; leaves = a.exits.goes || a.exits.leaves; breaks = a.exits.breaks; continues = a.exits.continues }; read = a.read }

abbrev pub if_endings : Endings → Endings
if_endings a = record { exits = record { goes = a.exits.goes || a.exits.leaves; leaves = false; breaks = a.exits.breaks; continues = a.exits.continues }; read = a.read }

abbrev pub loop_endings : Endings → Endings
loop_endings a = record { exits = record { goes = a.exits.leaves || a.exits.breaks; leaves = false; breaks = false; continues = false }; read = a.read }

-- whether a turn may leave a variable unassigned before the next turn
abbrev pub comes_back : Exits → Bool
comes_back e = e.goes || e.continues

abbrev pub loop_effect : Effect → Effect
loop_effect e = record {
  unassigned = loop_endings e.unassigned;
  assigned = either (loop_endings e.assigned) (given (comes_back e.assigned.exits) (loop_endings e.unassigned));
}

abbrev pub in_frame : Frame → Effect → Effect
in_frame (Arm always) e = record { unassigned = arm_endings (not always) e.unassigned; assigned = arm_endings false e.assigned }
in_frame If e = record { unassigned = if_endings e.unassigned; assigned = if_endings e.assigned }
in_frame Loop e = loop_effect e

abbrev pub others_in_frame : Frame → Exits → Exits
others_in_frame f e = (in_frame f (untouched e)).unassigned.exits

abbrev pub touched_in_frame : Frame → Touched → Touched
touched_in_frame f t = record { variable = t.variable; effect = in_frame f t.effect }

-- ---- looking up

-- the numbers rise, from that one on
abbrev pub Rises : ℕ → List Touched → Type 0
Rises n [] = Unit {0}
Rises n (t ∷ ts) = (n ≤ t.variable) × Rises (suc t.variable) ts

abbrev pub effect_in : Exits → ℕ → List Touched → Effect
effect_in others x [] = untouched others
effect_in others x (t ∷ ts) = if x == t.variable then t.effect else effect_in others x ts

abbrev pub effect_of : Summary → ℕ → Effect
effect_of m x = effect_in m.others x m.touched

abbrev pub endings_from : Bool → Effect → Endings
endings_from true e = e.assigned
endings_from false e = e.unassigned

-- ---- summaries

abbrev pub only_goes : Exits
only_goes = record { goes = true; leaves = false; breaks = false; continues = false }

abbrev pub summary_behind : Summary → Summary → Summary
summary_behind m n = record { others = others_behind m.others n.others; touched = merged m.others n.others m.touched n.touched }

-- the second alone where there is no first
abbrev pub both_or_one : Option Summary → Summary → Summary
both_or_one None n = n
both_or_one (Some m) n = summary_behind m n

abbrev pub summary_in_frame : Frame → Summary → Summary
summary_in_frame f m = record { others = others_in_frame f m.others; touched = map (touched_in_frame f) m.touched }

-- of what names no variable
abbrev pub plain : Exits → Summary
plain e = record { others = e; touched = [] }

-- of what names one variable and goes on
abbrev pub naming : ℕ → Effect → Summary
naming x effect = record { others = only_goes; touched = record { variable = x; effect = effect } ∷ [] }

abbrev pub read_effect : Place → Effect
read_effect p = record { unassigned = record { exits = only_goes; read = Some p }; assigned = no_endings }

abbrev pub assign_effect : Effect
assign_effect = record { unassigned = no_endings; assigned = no_endings }

abbrev pub forget_effect : Effect
forget_effect = record { unassigned = record { exits = only_goes; read = None }; assigned = record { exits = only_goes; read = None } }

abbrev pub exits_at_end : Exits
exits_at_end = record { goes = true; leaves = true; breaks = false; continues = false }

abbrev pub only_breaks : Exits
only_breaks = record { goes = false; leaves = false; breaks = true; continues = false }

abbrev pub only_continues : Exits
only_continues = record { goes = false; leaves = false; breaks = false; continues = true }
