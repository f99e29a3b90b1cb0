-- Notes that tell of no broken rule are made of such notes.
use Rattle.std.proofs.Common.{◌≡◌, Bool, true, false, List, [], ◌∷◌, ◌++◌, inl, inr, refl, sym, subst}
use Rattle.puya_base.specs.declared.source.Place.{Place}
use Rattle.puya_base.specs.declared.source.Refusal.{Refusal}
use Rattle.puya_base.specs.declared.source.Rule.TheVariants as rule
use Rattle.path_rules.specs.declared.note.Note.{Note}
use Rattle.path_rules.specs.declared.note.NoteArm.{NoteArm}
use Rattle.path_rules.specs.declared.note.Note.TheVariants as note
use Rattle.path_rules.specs.Steps.{Steps, no_steps, a_step, one, before, in_turn, an_end, arm, steps_of, arm_of, arms_of}
use Rattle.path_rules.specs.Rules.{Tells, TellAll, refused}
use Rattle.path_rules.proofs.Equations.{step-If, step-Loop, step-Break, step-Continue, arm-is}
use Rattle.typing_laws.proofs.Good.{Quiet}

tell_front : (i : Bool) (a b : List Note) (r : Refusal) → TellAll i (steps_of a) r → TellAll i (steps_of (a ++ b)) r
tell_front i [] b r t = absurd t
tell_front i (n ∷ ns) b r t = elim t [ inl h ↦ inl h | inr h ↦ inr (tell_front i ns b r h) ]

pub tell_behind : (i : Bool) (a b : List Note) (r : Refusal) → TellAll i (steps_of b) r → TellAll i (steps_of (a ++ b)) r
tell_behind i [] b r t = t
tell_behind i (n ∷ ns) b r t = inr (tell_behind i ns b r t)

pub quiet_front : (i : Bool) (a b : List Note) → Quiet i (a ++ b) → Quiet i a
quiet_front i a b q r t = q r (tell_front i a b r t)

pub quiet_behind : (i : Bool) (a b : List Note) → Quiet i (a ++ b) → Quiet i b
quiet_behind i a b q r t = q r (tell_behind i a b r t)

-- ---- steps

steps_front : (i : Bool) (fs gs : Steps) (r : Refusal) → TellAll i fs r → TellAll i (before fs gs) r
steps_front i no_steps gs r t = absurd t
steps_front i (a_step f fs) gs r t = elim t [ inl h ↦ inl h | inr h ↦ inr (steps_front i fs gs r h) ]

steps_behind : (i : Bool) (fs gs : Steps) (r : Refusal) → TellAll i gs r → TellAll i (before fs gs) r
steps_behind i no_steps gs r t = t
steps_behind i (a_step f fs) gs r t = inr (steps_behind i fs gs r t)

-- ---- loop words

word_outside : (i : Bool) (p : Place) → (i ≡ false → ⊥) → i ≡ true
word_outside true p h = refl
word_outside false p h = absurd (h refl)

pub quiet_break : (i : Bool) (p : Place) (ns : List Note) → Quiet i (note.Break p ∷ ns) → i ≡ true
quiet_break i p ns q = word_outside i p (λ e. q (refused rule.P19 p) (inl (subst (λ z. Tells i z (refused rule.P19 p)) (sym (step-Break p)) (e, refl))))

pub quiet_continue : (i : Bool) (p : Place) (ns : List Note) → Quiet i (note.Continue p ∷ ns) → i ≡ true
quiet_continue i p ns q = word_outside i p (λ e. q (refused rule.P19 p) (inl (subst (λ z. Tells i z (refused rule.P19 p)) (sym (step-Continue p)) (e, refl))))

-- ---- a loop and its body

pub quiet_loop : (i : Bool) (test : List Note) (ends : Bool) (body ns : List Note) → Quiet i (note.Loop test ends body ∷ ns) → Quiet true body
quiet_loop i test ends body ns q r t =
    q r (inl (subst (λ z. Tells i z r) (sym (step-Loop test ends body))
    (steps_behind true (steps_of test) (before (an_end ends) (steps_of body)) r (steps_behind true (an_end ends) (steps_of body) r t))))

pub quiet_tail : (i : Bool) (n : Note) (ns : List Note) → Quiet i (n ∷ ns) → Quiet i ns
quiet_tail i n ns q r t = q r (inr t)

-- ---- the arms of an `if`

abbrev pub QuietIf : Bool → List NoteArm → List Note → Type 0
QuietIf i arms rest = (r : Refusal) → TellAll i (before (in_turn (arms_of arms)) (steps_of rest)) r → ⊥

pub quiet_if : (i : Bool) (arms : List NoteArm) (rest ns : List Note) → Quiet i (note.If arms rest ∷ ns) → QuietIf i arms rest
quiet_if i arms rest ns q r t = q r (inl (subst (λ z. Tells i z r) (sym (step-If arms rest)) t))

pub quiet_rest : (i : Bool) (rest : List Note) → QuietIf i [] rest → Quiet i rest
quiet_rest i rest q r t = q r t

further : (i : Bool) (fs gs hs : Steps) (r : Refusal) → TellAll i (before gs hs) r → TellAll i (before (before fs gs) hs) r
further i no_steps gs hs r t = t
further i (a_step f fs) gs hs r t = inr (further i fs gs hs r t)

pub quiet_arms : (i : Bool) (a : NoteArm) (arms : List NoteArm) (rest : List Note) → QuietIf i (a ∷ arms) rest → QuietIf i arms rest
quiet_arms i a arms rest q r t = q r (further i (arm_of a) (in_turn (arms_of arms)) (steps_of rest) r t)

in_arm : (i : Bool) (a : NoteArm) (r : Refusal) → TellAll i (steps_of a.body) r → TellAll i (arm_of a) r
in_arm i a r t = subst (λ z. TellAll i z r) (sym (arm-is a)) (steps_behind i (steps_of a.test) (one (arm a.always (steps_of a.body))) r (inl t))

pub quiet_arm : (i : Bool) (a : NoteArm) (arms : List NoteArm) (rest : List Note) → QuietIf i (a ∷ arms) rest → Quiet i a.body
quiet_arm i a arms rest q r t = q r (steps_front i (before (arm_of a) (in_turn (arms_of arms))) (steps_of rest) r (steps_front i (arm_of a) (in_turn (arms_of arms)) r (in_arm i a r t)))
