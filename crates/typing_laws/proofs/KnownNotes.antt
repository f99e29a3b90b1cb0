-- What is so where notes tell of no broken rule.
use Rattle.std.proofs.Common.{◌≡◌, Bool, true, false, List, [], ◌∷◌, inl, inr, refl, sym, subst}
use Rattle.std.specs.Prelude.{if◌then◌else◌}
use Rattle.puya_base.specs.declared.source.Place.{Place}
use Rattle.puya_base.specs.declared.source.Rule.{Rule}
use Rattle.puya_base.specs.declared.source.Refusal.{Refusal}
use Rattle.path_rules.specs.declared.note.Note.{Note}
use Rattle.path_rules.specs.declared.note.NoteArm.{NoteArm}
use Rattle.path_rules.specs.declared.note.Note.TheVariants as note
use Rattle.path_rules.specs.Steps.{Steps, no_steps, a_step, Step, broken, read, assign, forget, arm, choice, may_end, loop, break, continue, return, one, before, in_turn, an_end, step_of, steps_of, arm_of, arms_of}
use Rattle.path_rules.specs.Rules.{Tells, TellAll}
use Rattle.path_rules.proofs.Equations.{step-Broken, step-Loop, arm-is}
use Rattle.meaning_rules.specs.Meanings.{broken_all}
use Rattle.meaning_rules.specs.Meanings as meanings
use Rattle.typing_laws.proofs.Good.{Quiet}
use Rattle.typing_laws.proofs.Quieting.{QuietIf}
use Rattle.typing_laws.proofs.Known.{IsUnbroken, Unbroken}

-- ---- what notes that tell of no broken rule are

tells_none : (i : Bool) (f : Step) → ((r : Refusal) → Tells i f r → ⊥) → IsUnbroken f
tells_none i (broken q) h = h q refl
tells_none i (read x p) h = tt
tells_none i (assign x) h = tt
tells_none i (forget x) h = tt
tells_none i (arm always body) h = tt
tells_none i (choice fs) h = tt
tells_none i may_end h = tt
tells_none i (loop fs) h = tt
tells_none i (break p) h = tt
tells_none i (continue p) h = tt
tells_none i return h = tt

pub quiet_unbroken : (i : Bool) (ns : List Note) → Quiet i ns → Unbroken ns
quiet_unbroken i [] q = tt
quiet_unbroken i (n ∷ ns) q = (tells_none i (step_of n) (λ r t. q r (inl t)), quiet_unbroken i ns (λ r t. q r (inr t)))

-- ---- a rule that is told as broken

pub not_broken : {A : Type 0} (r : Rule) (p : Place) (ns : List Note) → Unbroken (meanings.broken r p ∷ ns) → A
not_broken r p ns h = absurd (subst IsUnbroken (step-Broken (record { rule = r; place = p })) h.0)

pub none_broken : (fs : List Refusal) → Unbroken (broken_all fs) → fs ≡ []
none_broken [] h = refl
none_broken (f ∷ fs) h = absurd (subst IsUnbroken (step-Broken f) h.0)

pub is_held : (b : Bool) (r : Rule) (p : Place) → Unbroken (if b then [] else meanings.broken r p ∷ []) → b ≡ true
is_held true r p h = refl
is_held false r p h = not_broken r p [] h

pub not_held : (b : Bool) (r : Rule) (p : Place) → Unbroken (if b then meanings.broken r p ∷ [] else []) → b ≡ false
not_held true r p h = not_broken r p [] h
not_held false r p h = refl

-- ---- tests

steps_front : (i : Bool) (fs gs : Steps) (r : Refusal) → TellAll i fs r → TellAll i (before fs gs) r
steps_front i no_steps gs r t = absurd t
steps_front i (a_step f fs) gs r t = elim t [ inl h ↦ inl h | inr h ↦ inr (steps_front i fs gs r h) ]

pub quiet_test : (i : Bool) (test : List Note) (ends : Bool) (body ns : List Note) → Quiet i (note.Loop test ends body ∷ ns) → Quiet true test
quiet_test i test ends body ns q r t =
    q r (inl (subst (λ z. Tells i z r) (sym (step-Loop test ends body)) (steps_front true (steps_of test) (before (an_end ends) (steps_of body)) r t)))

test_in_arm : (i : Bool) (a : NoteArm) (r : Refusal) → TellAll i (steps_of a.test) r → TellAll i (arm_of a) r
test_in_arm i a r t = subst (λ z. TellAll i z r) (sym (arm-is a)) (steps_front i (steps_of a.test) (one (arm a.always (steps_of a.body))) r t)

pub quiet_arm_test : (i : Bool) (a : NoteArm) (arms : List NoteArm) (rest : List Note) → QuietIf i (a ∷ arms) rest → Quiet i a.test
quiet_arm_test i a arms rest q r t = q r (steps_front i (before (arm_of a) (in_turn (arms_of arms))) (steps_of rest) r (steps_front i (arm_of a) (in_turn (arms_of arms)) r (test_in_arm i a r t)))
