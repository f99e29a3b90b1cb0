-- Laws of walks.
use Rattle.std.proofs.Common.{◌≡◌, ℕ, ◌⊎◌, inl, inr, Bool, true, false, Some, None, refl, sym, ◌∙◌, ap, subst}
use Rattle.std.specs.Prelude.{if◌then◌else◌, ◌==◌}
use Rattle.path_rules.specs.Steps.{Step, assign, forget, arm, choice, loop, Steps, no_steps, a_step, one, before}
use Rattle.path_rules.specs.Walks.{goes, leaves, breaks, continues, Way, out, returns, at, is_on, behind_arm, behind_if, behind_loop, set_to, Walk, past_fault, at_read, past_read, assigns, forgets, done, passed, chosen, ends, stays, turns, broken_off, continued, returned, Walks, ended, stopped, went_on, Turns, last_turn, next_turn}

pub not_both : true ≡ false → ⊥
not_both e = cc

pub neither : false ≡ true → ⊥
neither e = cc

pub stays_on : (w : Way) → w ≡ out goes → is_on w ≡ false → ⊥
stays_on w e k = not_both (sym (ap is_on e) ∙ k)

-- ---- one list behind another

pub stop_before : (x : ℕ) (fs : Steps) (s : Bool) (w : Way) (t : Bool) → Walks x fs s w t → (gs : Steps) → is_on w ≡ false → Walks x (before fs gs) s w t
stop_before x _ _ _ _ (ended s) gs k = absurd (not_both k)
stop_before x _ _ _ _ (stopped f fs s w t h m) gs k = stopped f (before fs gs) s w t h m
stop_before x _ _ _ _ (went_on f fs s t w u m n) gs k = went_on f (before fs gs) s t w u m (stop_before x fs t w u n gs k)

on_by : (x : ℕ) (fs : Steps) (s : Bool) (w : Way) (t : Bool) → Walks x fs s w t → w ≡ out goes → (gs : Steps) (v : Way) (u : Bool) → Walks x gs t v u → Walks x (before fs gs) s v u
on_by x _ _ _ _ (ended s) e gs v u k = k
on_by x _ _ _ _ (stopped f fs s w t h m) e gs v u k = absurd (stays_on w e h)
on_by x _ _ _ _ (went_on f fs s t w r m n) e gs v u k = went_on f (before fs gs) s t v u m (on_by x fs t w r n e gs v u k)

pub on_before : (x : ℕ) (fs gs : Steps) (s t : Bool) (w : Way) (u : Bool) → Walks x fs s (out goes) t → Walks x gs t w u → Walks x (before fs gs) s w u
on_before x fs gs s t w u h k = on_by x fs s (out goes) t h refl gs w u k

-- how a walk takes the first of steps
pub step_cases : (x : ℕ) (f : Step) (fs : Steps) (s : Bool) (w : Way) (u : Bool) → Walks x (a_step f fs) s w u → ((is_on w ≡ false) × Walk x f s w u) ⊎ ((t : Bool) × Walk x f s (out goes) t × Walks x fs t w u)
step_cases x _ _ _ _ _ (stopped f fs s w t k m) = inl (k, m)
step_cases x _ _ _ _ _ (went_on f fs s t w u m n) = inr (t, m, n)

abbrev pub Split : ℕ → Steps → Steps → Bool → Way → Bool → Type 0
Split x fs gs s w u = ((is_on w ≡ false) × Walks x fs s w u) ⊎ ((t : Bool) × Walks x fs s (out goes) t × Walks x gs t w u)

split_further : (x : ℕ) (f : Step) (fs gs : Steps) (s t : Bool) (w : Way) (u : Bool) → Walk x f s (out goes) t → Split x fs gs t w u → Split x (a_step f fs) gs s w u
split_further x f fs gs s t w u m (inl p) = inl (p.0, went_on f fs s t w u m p.1)
split_further x f fs gs s t w u m (inr p) = inr (p.0, went_on f fs s t (out goes) p.0 m p.1, p.2)

mutual
  pub split : (x : ℕ) (fs gs : Steps) (s : Bool) (w : Way) (u : Bool) → Walks x (before fs gs) s w u → Split x fs gs s w u
  split x no_steps gs s w u h = inr (s, ended s, h)
  split x (a_step f fs) gs s w u h = elim (step_cases x f (before fs gs) s w u h) [ inl p ↦ inl (p.0, stopped f fs s w u p.0 p.1) | inr p ↦ split_further x f fs gs s p.0 w u p.1 (split x fs gs p.0 w u p.2) ]

-- ---- one step alone

one_out : (x : ℕ) (f : Step) (s : Bool) (w : Way) (t : Bool) → Walk x f s w t → (c : Bool) → is_on w ≡ c → Walks x (one f) s w t
one_out x f s w t h false e = stopped f no_steps s w t e h
one_out x f s (out goes) t h true e = went_on f no_steps s t (out goes) t h (ended t)
one_out x f s (out leaves) t h true e = absurd (neither e)
one_out x f s (out breaks) t h true e = absurd (neither e)
one_out x f s (out continues) t h true e = absurd (neither e)
one_out x f s returns t h true e = absurd (neither e)
one_out x f s (at p) t h true e = absurd (neither e)

pub one_to : (x : ℕ) (f : Step) (s : Bool) (w : Way) (t : Bool) → Walk x f s w t → Walks x (one f) s w t
one_to x f s w t h = one_out x f s w t h (is_on w) refl

no_more : (x : ℕ) (s : Bool) (w : Way) (t : Bool) → Walks x no_steps s w t → (w ≡ out goes) × (s ≡ t)
no_more x _ _ _ (ended s) = (refl, refl)

pub one_from : (x : ℕ) (f : Step) (s : Bool) (w : Way) (t : Bool) → Walks x (one f) s w t → Walk x f s w t
one_from x f s w t h = elim (step_cases x f no_steps s w t h) [
  | inl p ↦ p.1
  | inr p ↦ let e = no_more x p.0 w t p.2 in subst (λ v. Walk x f s v t) (sym e.0) (subst (λ r. Walk x f s (out goes) r) e.1 p.1)
]

-- ---- the same walk from another state

set_same : (c b s r : Bool) → ((if c then b else r) ≡ (if c then b else s)) ⊎ ((if c then b else r) ≡ r)
set_same true b s r = inl refl
set_same false b s r = inr refl

set_cases : (x y : ℕ) (b s r : Bool) → (set_to x y b r ≡ set_to x y b s) ⊎ (set_to x y b r ≡ r)
set_cases x y b s r = set_same (x == y) b s r

moved : (x : ℕ) (f : Step) (r : Bool) (w : Way) (v t : Bool) → Walk x f r w v → (v ≡ t) ⊎ (v ≡ r) → Walk x f r w t ⊎ Walk x f r w r
moved x f r w v t h (inl e) = inl (subst (λ z. Walk x f r w z) e h)
moved x f r w v t h (inr e) = inr (subst (λ z. Walk x f r w z) e h)

mutual
  also_step : (x : ℕ) (f : Step) (s : Bool) (w : Way) (t : Bool) → Walk x f s w t → (r : Bool) → Walk x f r w t ⊎ Walk x f r w r
  also_step x _ _ _ _ (past_fault q s) r = inr (past_fault q r)
  also_step x _ _ _ _ (at_read y p s h) r = inr (at_read y p r h)
  also_step x _ _ _ _ (past_read y p s) r = inr (past_read y p r)
  also_step x _ _ _ _ (assigns y s) r = moved x (assign y) r (out goes) (set_to x y true r) (set_to x y true s) (assigns y r) (set_cases x y true s r)
  also_step x _ _ _ _ (forgets y s) r = moved x (forget y) r (out goes) (set_to x y false r) (set_to x y false s) (forgets y r) (set_cases x y false s r)
  also_step x _ _ _ _ (done a fs s w v t h e) r = elim (also x fs s w t h r) [ inl k ↦ inl (done a fs r w v t k e) | inr k ↦ inr (done a fs r w v r k e) ]
  also_step x _ _ _ _ (passed a fs s e) r = inr (passed a fs r e)
  also_step x _ _ _ _ (chosen fs s w v t h e) r = elim (also x fs s w t h r) [ inl k ↦ inl (chosen fs r w v t k e) | inr k ↦ inr (chosen fs r w v r k e) ]
  also_step x _ _ _ _ (ends s) r = inr (ends r)
  also_step x _ _ _ _ (stays s) r = inr (stays r)
  also_step x _ _ _ _ (turns fs s w t h) r = elim (also_turns x fs s w t h r) [ inl k ↦ inl (turns fs r w t k) | inr k ↦ inr (turns fs r w r k) ]
  also_step x _ _ _ _ (broken_off p s) r = inr (broken_off p r)
  also_step x _ _ _ _ (continued p s) r = inr (continued p r)
  also_step x _ _ _ _ (returned s) r = inr (returned r)

  pub also : (x : ℕ) (fs : Steps) (s : Bool) (w : Way) (t : Bool) → Walks x fs s w t → (r : Bool) → Walks x fs r w t ⊎ Walks x fs r w r
  also x _ _ _ _ (ended s) r = inr (ended r)
  also x _ _ _ _ (stopped f fs s w t k h) r = elim (also_step x f s w t h r) [ inl m ↦ inl (stopped f fs r w t k m) | inr m ↦ inr (stopped f fs r w r k m) ]
  also x _ _ _ _ (went_on f fs s t w u h k) r = elim (also_step x f s (out goes) t h r) [
    | inl m ↦ inl (went_on f fs r t w u m k)
    | inr m ↦ elim (also x fs t w u k r) [ inl n ↦ inl (went_on f fs r r w u m n) | inr n ↦ inr (went_on f fs r r w r m n) ]
  ]

  also_turns : (x : ℕ) (fs : Steps) (s : Bool) (w : Way) (t : Bool) → Turns x fs s w t → (r : Bool) → Turns x fs r w t ⊎ Turns x fs r w r
  also_turns x _ _ _ _ (last_turn fs s w v t h e) r = elim (also x fs s w t h r) [ inl m ↦ inl (last_turn fs r w v t m e) | inr m ↦ inr (last_turn fs r w v r m e) ]
  also_turns x _ _ _ _ (next_turn fs s w t v u h e k) r = elim (also x fs s w t h r) [
    | inl m ↦ inl (next_turn fs r w t v u m e k)
    | inr m ↦ elim (also_turns x fs t v u k r) [ inl n ↦ inl (next_turn fs r w r v u m e n) | inr n ↦ inr (next_turn fs r w r v r m e n) ]
  ]

-- what a walk from the assigned variable leaves unassigned, the same walk from the unassigned one does
pub more : (x : ℕ) (fs : Steps) (w : Way) → Walks x fs true w false → Walks x fs false w false
more x fs w h = elim (also x fs true w false h false) [ inl k ↦ k | inr k ↦ k ]

-- some walk gets out so, from either state
pub from_any : (x : ℕ) (fs : Steps) (s : Bool) (w : Way) (t : Bool) → Walks x fs s w t → (r : Bool) → (v : Bool) × Walks x fs r w v
from_any x fs s w t h r = elim (also x fs s w t h r) [ inl k ↦ (t, k) | inr k ↦ (r, k) ]

-- ---- loops: two turns show all

abbrev pub LastTurn : ℕ → Steps → Bool → Way → Type 0
LastTurn x fs s v = (w : Way) × Walks x fs s w false × (behind_loop w ≡ Some v)

abbrev pub ComesBack : ℕ → Steps → Bool → Type 0
ComesBack x fs s = (w : Way) × Walks x fs s w false × (behind_loop w ≡ None)

abbrev pub TurnsOnce : ℕ → Steps → Bool → Way → Type 0
TurnsOnce x fs s v = LastTurn x fs s v ⊎ (ComesBack x fs s × LastTurn x fs false v)

unassigned_once : (x : ℕ) (fs : Steps) (v : Way) → TurnsOnce x fs true v → LastTurn x fs false v
unassigned_once x fs v (inl l) = (l.0, more x fs l.0 l.1, l.2)
unassigned_once x fs v (inr p) = p.1

pub into_last : (x : ℕ) (fs : Steps) (t : Bool) (v : Way) → TurnsOnce x fs t v → LastTurn x fs false v
into_last x fs true v h = unassigned_once x fs v h
into_last x fs false v (inl l) = l
into_last x fs false v (inr p) = p.1

turned : (x : ℕ) (fs : Steps) (s t : Bool) (w v : Way) → Walks x fs s w t → behind_loop w ≡ None → TurnsOnce x fs t v → TurnsOnce x fs s v
turned x fs false t w v h e k = inl (into_last x fs t v k)
turned x fs true true w v h e k = k
turned x fs true false w v h e k = inr ((w, h, e), into_last x fs false v k)

once : (x : ℕ) (fs : Steps) (s : Bool) (v : Way) (t : Bool) → Turns x fs s v t → t ≡ false → TurnsOnce x fs s v
once x _ _ _ _ (last_turn fs s w v t h e) z = inl (w, subst (λ r. Walks x fs s w r) z h, e)
once x _ _ _ _ (next_turn fs s w t v u h e k) z = turned x fs s t w v h e (once x fs t v u k z)

loop_cases : (x : ℕ) (fs : Steps) (s : Bool) (w : Way) (t : Bool) → Walk x (loop fs) s w t → Turns x fs s w t
loop_cases x _ _ _ _ (turns fs s w t h) = h

pub loop_from : (x : ℕ) (fs : Steps) (s : Bool) (v : Way) → Walk x (loop fs) s v false → TurnsOnce x fs s v
loop_from x fs s v h = once x fs s v false (loop_cases x fs s v false h) refl

last_to : (x : ℕ) (fs : Steps) (s : Bool) (v : Way) → LastTurn x fs s v → Turns x fs s v false
last_to x fs s v l = last_turn fs s l.0 v false l.1 l.2

pub loop_to : (x : ℕ) (fs : Steps) (s : Bool) (v : Way) → TurnsOnce x fs s v → Walk x (loop fs) s v false
loop_to x fs s v (inl l) = turns fs s v false (last_to x fs s v l)
loop_to x fs s v (inr p) = turns fs s v false (next_turn fs s p.0.0 false v false p.0.1 p.0.2 (last_to x fs false v p.1))

-- how a loop ends at all
ended_by : (x : ℕ) (fs : Steps) (s : Bool) (v : Way) (t : Bool) → Turns x fs s v t → (w : Way) × ((r q : Bool) × Walks x fs r w q) × (behind_loop w ≡ Some v)
ended_by x _ _ _ _ (last_turn fs s w v t h e) = (w, (s, t, h), e)
ended_by x _ _ _ _ (next_turn fs s w t v u h e k) = ended_by x fs t v u k

pub loop_ends : (x : ℕ) (fs : Steps) (s : Bool) (v : Way) (t : Bool) → Walk x (loop fs) s v t → (w : Way) × ((q : Bool) × Walks x fs s w q) × (behind_loop w ≡ Some v)
loop_ends x fs s v t h =
    let r = ended_by x fs s v t (loop_cases x fs s v t h) in
    (r.0, from_any x fs r.1.0 r.0 r.1.1 r.1.2 s, r.2)

-- ---- what a walk does at each kind of step

pub arm_cases : (x : ℕ) (always : Bool) (fs : Steps) (s : Bool) (v : Way) (t : Bool) → Walk x (arm always fs) s v t → ((always ≡ false) × (v ≡ out goes) × (s ≡ t)) ⊎ ((w : Way) × Walks x fs s w t × (behind_arm w ≡ v))
arm_cases x _ _ _ _ _ (done always fs s w v t h e) = inr (w, h, e)
arm_cases x _ _ _ _ _ (passed always fs s e) = inl (e, refl, refl)

pub if_cases : (x : ℕ) (fs : Steps) (s : Bool) (v : Way) (t : Bool) → Walk x (choice fs) s v t → (w : Way) × Walks x fs s w t × (behind_if w ≡ v)
if_cases x _ _ _ _ (chosen fs s w v t h e) = (w, h, e)
