-- Summaries of steps that are put together.
use Rattle.std.proofs.Common.{◌≡◌, ℕ, ◌⊎◌, inl, inr, Bool, true, false, not, Some, sym, subst}
use Rattle.std.proofs.lemmas.Bool.{true≢false, false≢true, not-true, not_from_false}
use Rattle.path_rules.specs.declared.summary.Exits.{Exits}
use Rattle.path_rules.specs.declared.summary.Endings.{Endings}
use Rattle.path_rules.specs.declared.summary.Effect.{Effect}
use Rattle.path_rules.specs.declared.summary.Summary.{Summary}
use Rattle.path_rules.specs.declared.summary.Frame.{Frame}
use Rattle.path_rules.specs.declared.summary.Frame.TheVariants.{Arm, If, Loop}
use Rattle.path_rules.specs.Steps.{arm, choice, loop, Steps, one, before}
use Rattle.path_rules.specs.Walks.{goes, leaves, breaks, continues, Way, out, returns, at, is_on, behind_arm, behind_if, behind_loop, done, passed, chosen, turns, Walks, last_turn}
use Rattle.path_rules.specs.Summaries.{untouched, given, endings_behind, behind, arm_endings, if_endings, loop_endings, comes_back, loop_effect, in_frame, others_in_frame, effect_of, endings_from, summary_behind, summary_in_frame}
use Rattle.path_rules.specs.Describes.{AreEndings, Ends, IsOut, GetsOut, Describes, step_in}
use Rattle.path_rules.proofs.WalkLaws.{stop_before, on_before, Split, split, one_to, one_from, more, from_any, LastTurn, into_last, loop_from, loop_to, loop_ends, arm_cases, if_cases}
use Rattle.path_rules.proofs.EndingLaws.{endings_iff, endings_either, endings_none, endings_given, endings_behind_are, arm_are, if_are, loop_are, back_to, back_from}
use Rattle.path_rules.proofs.MergeLaws.{merged_rises, merged_at, untouched_behind, frame_rises, frame_at}

-- ---- one piece behind another

abbrev Goes : ℕ → Steps → Bool → Type 0
Goes x fs s = (t : Bool) × Walks x fs s (out goes) t

on_from_either : (x : ℕ) (fs gs : Steps) (s : Bool) (w : Way) (t : Bool) → Walks x fs s (out goes) t → Walks x gs true w false → Walks x (before fs gs) s w false
on_from_either x fs gs s w true h k = on_before x fs gs s true w false h k
on_from_either x fs gs s w false h k = on_before x fs gs s false w false h (more x gs w k)

abbrev Pieces : ℕ → Steps → Steps → Bool → Way → Type 0
Pieces x fs gs s w = ((is_on w ≡ false) × Ends x fs s w) ⊎ ((Ends x fs s (out goes) × Ends x gs false w) ⊎ (Goes x fs s × Ends x gs true w))

pieces_to : (x : ℕ) (fs gs : Steps) (s : Bool) (w : Way) → Pieces x fs gs s w → Ends x (before fs gs) s w
pieces_to x fs gs s w (inl p) = stop_before x fs s w false p.1 gs p.0
pieces_to x fs gs s w (inr (inl p)) = on_before x fs gs s false w false p.0 p.1
pieces_to x fs gs s w (inr (inr p)) = on_from_either x fs gs s w p.0.0 p.0.1 p.1

second_piece : (x : ℕ) (fs gs : Steps) (s : Bool) (w : Way) (t : Bool) → Walks x fs s (out goes) t → Walks x gs t w false → Pieces x fs gs s w
second_piece x fs gs s w true h k = inr (inr ((true, h), k))
second_piece x fs gs s w false h k = inr (inl (h, k))

pieces_by : (x : ℕ) (fs gs : Steps) (s : Bool) (w : Way) → Split x fs gs s w false → Pieces x fs gs s w
pieces_by x fs gs s w (inl p) = inl p
pieces_by x fs gs s w (inr p) = second_piece x fs gs s w p.0 p.1 p.2

behind_walks : (x : ℕ) (fs gs : Steps) (s : Bool) (a : Endings) (on : Bool) (e : Effect) → (on ≡ true → Goes x fs s) → (Goes x fs s → on ≡ true) → AreEndings (Ends x fs s) a → AreEndings (Ends x gs false) e.unassigned → AreEndings (Ends x gs true) e.assigned → AreEndings (Ends x (before fs gs) s) (endings_behind a on e)
behind_walks x fs gs s a on e to from h k m =
    endings_iff (Pieces x fs gs s) (Ends x (before fs gs) s) (pieces_to x fs gs s) (λ w p. pieces_by x fs gs s w (split x fs gs s w false p)) (endings_behind a on e)
    (endings_behind_are (Ends x fs s) (Ends x gs false) (Ends x gs true) (Goes x fs s) a on e to from h k m)

module _ (m n : Summary) (fs gs : Steps) (h : Describes m fs) (k : Describes n gs) where
  goes_to : (x : ℕ) (s : Bool) → m.others.goes ≡ true → Goes x fs s
  goes_to x s e = ((h.others x s).each goes e).1

  goes_from : (x : ℕ) (s : Bool) → Goes x fs s → m.others.goes ≡ true
  goes_from x s g = (h.others x s).all goes (tt, g)

  effects_behind : (x : ℕ) (s : Bool) → AreEndings (Ends x (before fs gs) s) (endings_from s (behind m.others.goes (effect_of m x) (effect_of n x)))
  effects_behind x true = behind_walks x fs gs true (effect_of m x).assigned m.others.goes (effect_of n x) (goes_to x true) (goes_from x true) (h.effects x true) (k.effects x false) (k.effects x true)
  effects_behind x false = behind_walks x fs gs false (effect_of m x).unassigned m.others.goes (effect_of n x) (goes_to x false) (goes_from x false) (h.effects x false) (k.effects x false) (k.effects x true)

  abbrev OutOfPieces : ℕ → Bool → Way → Type 0
  OutOfPieces x s w = ((is_on w ≡ false) × GetsOut x fs s w) ⊎ ((GetsOut x fs s (out goes) × GetsOut x gs false w) ⊎ (Goes x fs s × ⊥))

  out_to : (x : ℕ) (s : Bool) (w : Way) → OutOfPieces x s w → GetsOut x (before fs gs) s w
  out_to x s w (inl p) = (p.1.0, (p.1.1.0, stop_before x fs s w p.1.1.0 p.1.1.1 gs p.0))
  out_to x s w (inr (inl p)) = let q = from_any x gs false w p.1.1.0 p.1.1.1 p.0.1.0 in (p.1.0, (q.0, on_before x fs gs s p.0.1.0 w q.0 p.0.1.1 q.1))
  out_to x s w (inr (inr p)) = absurd p.1

  out_by : (x : ℕ) (s : Bool) (w : Way) (u : Bool) → IsOut w → Split x fs gs s w u → OutOfPieces x s w
  out_by x s w u o (inl p) = inl (p.0, (o, (u, p.1)))
  out_by x s w u o (inr p) = inr (inl ((tt, (p.0, p.1)), (o, from_any x gs p.0 w u p.2 false)))

  others_of_both : (x : ℕ) (s : Bool) → AreEndings (GetsOut x (before fs gs) s) (endings_behind (untouched m.others).unassigned m.others.goes (untouched n.others))
  others_of_both x s =
      endings_iff (OutOfPieces x s) (GetsOut x (before fs gs) s) (out_to x s) (λ w p. out_by x s w p.1.0 p.0 (split x fs gs s w p.1.0 p.1.1)) (endings_behind (untouched m.others).unassigned m.others.goes (untouched n.others))
      (endings_behind_are (GetsOut x fs s) (GetsOut x gs false) (λ w. ⊥) (Goes x fs s) (untouched m.others).unassigned m.others.goes (untouched n.others) (goes_to x s) (goes_from x s) (h.others x s) (k.others x false) (endings_none (λ w. ⊥) (λ w z. z)))

  pub describes_behind : Describes (summary_behind m n) (before fs gs)
  describes_behind = record {
    rises = merged_rises m.others n.others m.touched n.touched 0 h.rises k.rises;
    others = λ x s. subst (λ e. AreEndings (GetsOut x (before fs gs) s) e.unassigned) (sym (untouched_behind m.others n.others)) (others_of_both x s);
    effects = λ x s. subst (λ e. AreEndings (Ends x (before fs gs) s) (endings_from s e)) (sym (merged_at m.others n.others x m.touched 0 h.rises n.touched 0 k.rises)) (effects_behind x s);
  }

-- ---- in a frame

arm_out : (w v : Way) → behind_arm w ≡ v → IsOut w → IsOut v
arm_out (out goes) v e o = subst IsOut e tt
arm_out (out leaves) v e o = subst IsOut e tt
arm_out (out breaks) v e o = subst IsOut e tt
arm_out (out continues) v e o = subst IsOut e tt
arm_out returns v e o = absurd o
arm_out (at p) v e o = absurd o

arm_was_out : (w : Way) → IsOut (behind_arm w) → IsOut w
arm_was_out (out e) o = tt
arm_was_out returns o = o
arm_was_out (at p) o = o

if_out : (w v : Way) → behind_if w ≡ v → IsOut w → IsOut v
if_out (out goes) v e o = subst IsOut e tt
if_out (out leaves) v e o = subst IsOut e tt
if_out (out breaks) v e o = subst IsOut e tt
if_out (out continues) v e o = subst IsOut e tt
if_out returns v e o = absurd o
if_out (at p) v e o = absurd o

if_was_out : (w : Way) → IsOut (behind_if w) → IsOut w
if_was_out (out e) o = tt
if_was_out returns o = o
if_was_out (at p) o = o

same_way : (w v : Way) → Some w ≡ Some v → w ≡ v
same_way w v e = cc

loop_out : (w v : Way) → behind_loop w ≡ Some v → IsOut w → IsOut v
loop_out (out goes) v e o = absurd (cc)
loop_out (out leaves) v e o = subst IsOut (same_way (out goes) v e) tt
loop_out (out breaks) v e o = subst IsOut (same_way (out goes) v e) tt
loop_out (out continues) v e o = absurd (cc)
loop_out returns v e o = absurd o
loop_out (at p) v e o = absurd o

loop_was_out : (w v : Way) → behind_loop w ≡ Some v → IsOut v → IsOut w
loop_was_out (out f) v e o = tt
loop_was_out returns v e o = subst IsOut (sym (same_way returns v e)) o
loop_was_out (at p) v e o = subst IsOut (sym (same_way (at p) v e)) o

module _ (x : ℕ) (fs : Steps) where
  arm_passing : (always : Bool) (e : Endings) → AreEndings (Ends x fs false) e → AreEndings (Ends x (one (arm always fs)) false) (arm_endings (not always) e)
  arm_passing always e h =
      endings_iff (λ v. ((not always ≡ true) × (v ≡ out goes)) ⊎ ((w : Way) × Ends x fs false w × (behind_arm w ≡ v))) (Ends x (one (arm always fs)) false)
      (λ v r. elim r [
        | inl p ↦ subst (λ z. Walks x (one (arm always fs)) false z false) (sym p.1) (one_to x (arm always fs) false (out goes) false (passed always fs false (not-true always p.0)))
        | inr p ↦ one_to x (arm always fs) false v false (done always fs false p.0 v false p.1 p.2)
      ])
      (λ v k. elim (arm_cases x always fs false v false (one_from x (arm always fs) false v false k)) [ inl p ↦ inl (not_from_false always p.0, p.1) | inr p ↦ inr p ])
      (arm_endings (not always) e) (arm_are (Ends x fs false) (not always) e h)

  arm_kept : (always : Bool) (e : Endings) → AreEndings (Ends x fs true) e → AreEndings (Ends x (one (arm always fs)) true) (arm_endings false e)
  arm_kept always e h =
      endings_iff (λ v. ((false ≡ true) × (v ≡ out goes)) ⊎ ((w : Way) × Ends x fs true w × (behind_arm w ≡ v))) (Ends x (one (arm always fs)) true)
      (λ v r. elim r [
        | inl p ↦ absurd (false≢true p.0)
        | inr p ↦ one_to x (arm always fs) true v false (done always fs true p.0 v false p.1 p.2)
      ])
      (λ v k. elim (arm_cases x always fs true v false (one_from x (arm always fs) true v false k)) [ inl p ↦ absurd (true≢false p.2) | inr p ↦ inr p ])
      (arm_endings false e) (arm_are (Ends x fs true) false e h)

  if_kept : (s : Bool) (e : Endings) → AreEndings (Ends x fs s) e → AreEndings (Ends x (one (choice fs)) s) (if_endings e)
  if_kept s e h =
      endings_iff (λ v. (w : Way) × Ends x fs s w × (behind_if w ≡ v)) (Ends x (one (choice fs)) s)
      (λ v p. one_to x (choice fs) s v false (chosen fs s p.0 v false p.1 p.2))
      (λ v k. if_cases x fs s v false (one_from x (choice fs) s v false k))
      (if_endings e) (if_are (Ends x fs s) e h)

  loop_unassigned : (e : Endings) → AreEndings (Ends x fs false) e → AreEndings (Ends x (one (loop fs)) false) (loop_endings e)
  loop_unassigned e h =
      endings_iff (LastTurn x fs false) (Ends x (one (loop fs)) false)
      (λ v l. one_to x (loop fs) false v false (loop_to x fs false v (inl l)))
      (λ v k. into_last x fs false v (loop_from x fs false v (one_from x (loop fs) false v false k)))
      (loop_endings e) (loop_are (Ends x fs false) e h)

  loop_assigned : (e : Effect) → AreEndings (Ends x fs false) e.unassigned → AreEndings (Ends x fs true) e.assigned → AreEndings (Ends x (one (loop fs)) true) (loop_effect e).assigned
  loop_assigned e h k =
      let back = comes_back e.assigned.exits in
      endings_iff (λ v. LastTurn x fs true v ⊎ ((back ≡ true) × LastTurn x fs false v)) (Ends x (one (loop fs)) true)
      (λ v r. one_to x (loop fs) true v false (loop_to x fs true v (elim r [ inl l ↦ inl l | inr p ↦ inr (back_to (Ends x fs true) e.assigned k p.0, p.1) ])))
      (λ v w. elim (loop_from x fs true v (one_from x (loop fs) true v false w)) [ inl l ↦ inl l | inr p ↦ inr (back_from (Ends x fs true) e.assigned k p.0.0 p.0.1 p.0.2, p.1) ])
      (loop_effect e).assigned
      (endings_either (LastTurn x fs true) (λ v. (back ≡ true) × LastTurn x fs false v) (loop_endings e.assigned) (given back (loop_endings e.unassigned))
      (loop_are (Ends x fs true) e.assigned k) (endings_given (LastTurn x fs false) back (loop_endings e.unassigned) (loop_are (Ends x fs false) e.unassigned h)))

  frame_effects : (f : Frame) (e : Effect) → AreEndings (Ends x fs false) e.unassigned → AreEndings (Ends x fs true) e.assigned → (s : Bool) → AreEndings (Ends x (one (step_in f fs)) s) (endings_from s (in_frame f e))
  frame_effects (Arm always) e h k true = arm_kept always e.assigned k
  frame_effects (Arm always) e h k false = arm_passing always e.unassigned h
  frame_effects If e h k true = if_kept true e.assigned k
  frame_effects If e h k false = if_kept false e.unassigned h
  frame_effects Loop e h k true = loop_assigned e h k
  frame_effects Loop e h k false = loop_unassigned e.unassigned h

  arm_others : (s always : Bool) (e : Endings) → AreEndings (GetsOut x fs s) e → AreEndings (GetsOut x (one (arm always fs)) s) (arm_endings (not always) e)
  arm_others s always e h =
      endings_iff (λ v. ((not always ≡ true) × (v ≡ out goes)) ⊎ ((w : Way) × GetsOut x fs s w × (behind_arm w ≡ v))) (GetsOut x (one (arm always fs)) s)
      (λ v r. elim r [
        | inl p ↦ subst (λ z. GetsOut x (one (arm always fs)) s z) (sym p.1) (tt, (s, one_to x (arm always fs) s (out goes) s (passed always fs s (not-true always p.0))))
        | inr p ↦ (arm_out p.0 v p.2 p.1.0, (p.1.1.0, one_to x (arm always fs) s v p.1.1.0 (done always fs s p.0 v p.1.1.0 p.1.1.1 p.2)))
      ])
      (λ v k. elim (arm_cases x always fs s v k.1.0 (one_from x (arm always fs) s v k.1.0 k.1.1)) [
        | inl p ↦ inl (not_from_false always p.0, p.1)
        | inr p ↦ inr (p.0, (arm_was_out p.0 (subst IsOut (sym p.2) k.0), (k.1.0, p.1)), p.2)
      ])
      (arm_endings (not always) e) (arm_are (GetsOut x fs s) (not always) e h)

  if_others : (s : Bool) (e : Endings) → AreEndings (GetsOut x fs s) e → AreEndings (GetsOut x (one (choice fs)) s) (if_endings e)
  if_others s e h =
      endings_iff (λ v. (w : Way) × GetsOut x fs s w × (behind_if w ≡ v)) (GetsOut x (one (choice fs)) s)
      (λ v p. (if_out p.0 v p.2 p.1.0, (p.1.1.0, one_to x (choice fs) s v p.1.1.0 (chosen fs s p.0 v p.1.1.0 p.1.1.1 p.2))))
      (λ v k. let p = if_cases x fs s v k.1.0 (one_from x (choice fs) s v k.1.0 k.1.1) in (p.0, (if_was_out p.0 (subst IsOut (sym p.2) k.0), (k.1.0, p.1)), p.2))
      (if_endings e) (if_are (GetsOut x fs s) e h)

  loop_others : (s : Bool) (e : Endings) → AreEndings (GetsOut x fs s) e → AreEndings (GetsOut x (one (loop fs)) s) (loop_endings e)
  loop_others s e h =
      endings_iff (λ v. (w : Way) × GetsOut x fs s w × (behind_loop w ≡ Some v)) (GetsOut x (one (loop fs)) s)
      (λ v p. (loop_out p.0 v p.2 p.1.0, (p.1.1.0, one_to x (loop fs) s v p.1.1.0 (turns fs s v p.1.1.0 (last_turn fs s p.0 v p.1.1.0 p.1.1.1 p.2)))))
      (λ v k. let p = loop_ends x fs s v k.1.0 (one_from x (loop fs) s v k.1.0 k.1.1) in (p.0, (loop_was_out p.0 v p.2 k.0, p.1), p.2))
      (loop_endings e) (loop_are (GetsOut x fs s) e h)

  frame_others : (f : Frame) (o : Exits) (s : Bool) → AreEndings (GetsOut x fs s) (untouched o).unassigned → AreEndings (GetsOut x (one (step_in f fs)) s) (untouched (others_in_frame f o)).unassigned
  frame_others (Arm always) o s h = arm_others s always (untouched o).unassigned h
  frame_others If o s h = if_others s (untouched o).unassigned h
  frame_others Loop o s h = loop_others s (untouched o).unassigned h

pub describes_in_frame : (f : Frame) (m : Summary) (fs : Steps) → Describes m fs → Describes (summary_in_frame f m) (one (step_in f fs))
describes_in_frame f m fs h = record {
  rises = frame_rises f 0 m.touched h.rises;
  others = λ x s. frame_others x fs f m.others s (h.others x s);
  effects = λ x s. subst (λ e. AreEndings (Ends x (one (step_in f fs)) s) (endings_from s e)) (sym (frame_at f m.others x m.touched)) (frame_effects x fs f (effect_of m x) (h.effects x false) (h.effects x true) s);
}
