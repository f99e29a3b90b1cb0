-- The first of what steps tell as broken wherever it stands, and of the reads that a summary has.
use Rattle.std.specs.Prelude.{Bool, true, if◌then◌else◌, List, [], ◌∷◌, Option, Some, None}
use Rattle.puya_base.specs.declared.source.Place.{Place}
use Rattle.puya_base.specs.declared.source.Refusal.{Refusal}
use Rattle.puya_base.specs.declared.source.Rule.{Rule}
use Rattle.puya_base.specs.declared.source.Rule.TheVariants.{P19}
use Rattle.path_rules.specs.declared.summary.Touched.{Touched}
use Rattle.path_rules.specs.Steps.{Step, broken, read, assign, forget, arm, choice, may_end, loop, break, continue, return, Steps, no_steps, a_step}
use Rattle.path_rules.specs.Rules.{refused}
use Rattle.path_rules.specs.Order.{earlier_place, earlier_refusal}

abbrev pub loop_word : Option Refusal → Bool → Place → Option Refusal
loop_word first inside p = if inside then first else earlier_refusal first (Some (refused P19 p))

-- what came first so far, and the step
abbrev mutual
  pub told_by : Option Refusal → Bool → Step → Option Refusal
  told_by first inside (broken r) = earlier_refusal first (Some r)
  told_by first inside (read x p) = first
  told_by first inside (assign x) = first
  told_by first inside (forget x) = first
  told_by first inside (arm always body) = told_by_all first inside body
  told_by first inside (choice fs) = told_by_all first inside fs
  told_by first inside may_end = first
  told_by first inside (loop fs) = told_by_all first true fs
  told_by first inside (break p) = loop_word first inside p
  told_by first inside (continue p) = loop_word first inside p
  told_by first inside return = first

  pub told_by_all : Option Refusal → Bool → Steps → Option Refusal
  told_by_all first inside no_steps = first
  told_by_all first inside (a_step f fs) = told_by_all (told_by first inside f) inside fs

abbrev pub first_read : Option Place → List Touched → Option Place
first_read first [] = first
first_read first (t ∷ ts) = first_read (earlier_place first t.effect.unassigned.read) ts

abbrev pub refused_at : Rule → Option Place → Option Refusal
refused_at rule None = None
refused_at rule (Some p) = Some (refused rule p)

abbrev pub where_it_holds : Bool → Option Place → Option Place
where_it_holds b p = if b then p else None
