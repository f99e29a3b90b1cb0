-- Walks of steps, as one variable sees them: from whether it is assigned to whether it is then (Python reference, chapter 8, for the ways on).
-- A condition may go either way, but for the literal True.
use Rattle.std.specs.Prelude.{ℕ, ◌≡◌, ◌==◌, Bool, true, false, if◌then◌else◌, Option, Some, None}
use Rattle.puya_base.specs.declared.source.Place.{Place}
use Rattle.puya_base.specs.declared.source.Refusal.{Refusal}
use Rattle.path_rules.specs.Steps.{Step, broken, read, assign, forget, arm, choice, may_end, loop, break, continue, return, Steps, no_steps, a_step}

-- how a walk gets out of steps: behind the last one, behind the `if` whose arm it has done or the loop that has ended, by `break`, by `continue`
pub data Exit : Type 0 where
  goes : Exit
  leaves : Exit
  breaks : Exit
  continues : Exit

-- how a walk ends: out of the steps, by `return`, or at a read of the variable that stands at a place
pub data Way : Type 0 where
  out : Exit → Way
  returns : Way
  at : Place → Way

abbrev pub is_on : Way → Bool
is_on (out goes) = true
is_on (out leaves) = false
is_on (out breaks) = false
is_on (out continues) = false
is_on returns = false
is_on (at p) = false

-- a walk that has done an arm leaves the `if`
abbrev pub behind_arm : Way → Way
behind_arm (out goes) = out leaves
behind_arm (out leaves) = out leaves
behind_arm (out breaks) = out breaks
behind_arm (out continues) = out continues
behind_arm returns = returns
behind_arm (at p) = at p

-- behind the `if` it goes on
abbrev pub behind_if : Way → Way
behind_if (out goes) = out goes
behind_if (out leaves) = out goes
behind_if (out breaks) = out breaks
behind_if (out continues) = out continues
behind_if returns = returns
behind_if (at p) = at p

-- a turn ends the loop, and the walk goes on behind it or returns, or the next turn follows
abbrev pub behind_loop : Way → Option Way
behind_loop (out goes) = None
behind_loop (out leaves) = Some (out goes)
behind_loop (out breaks) = Some (out goes)
behind_loop (out continues) = None
behind_loop returns = Some returns
behind_loop (at p) = Some (at p)

-- whether x is assigned, once y is or is not
abbrev pub set_to : ℕ → ℕ → Bool → Bool → Bool
set_to x y b s = if x == y then b else s

mutual
  -- a walk of one step
  pub data Walk (x : ℕ) : Step → Bool → Way → Bool → Type 0 where
    past_fault : (r : Refusal) (s : Bool) → Walk x (broken r) s (out goes) s
    at_read : (y : ℕ) (p : Place) (s : Bool) → (x == y) ≡ true → Walk x (read y p) s (at p) s
    past_read : (y : ℕ) (p : Place) (s : Bool) → Walk x (read y p) s (out goes) s
    assigns : (y : ℕ) (s : Bool) → Walk x (assign y) s (out goes) (set_to x y true s)
    forgets : (y : ℕ) (s : Bool) → Walk x (forget y) s (out goes) (set_to x y false s)
    done : (always : Bool) (body : Steps) (s : Bool) (w v : Way) (t : Bool) → Walks x body s w t → behind_arm w ≡ v → Walk x (arm always body) s v t
    passed : (always : Bool) (body : Steps) (s : Bool) → always ≡ false → Walk x (arm always body) s (out goes) s
    chosen : (fs : Steps) (s : Bool) (w v : Way) (t : Bool) → Walks x fs s w t → behind_if w ≡ v → Walk x (choice fs) s v t
    ends : (s : Bool) → Walk x may_end s (out leaves) s
    stays : (s : Bool) → Walk x may_end s (out goes) s
    turns : (fs : Steps) (s : Bool) (w : Way) (t : Bool) → Turns x fs s w t → Walk x (loop fs) s w t
    broken_off : (p : Place) (s : Bool) → Walk x (break p) s (out breaks) s
    continued : (p : Place) (s : Bool) → Walk x (continue p) s (out continues) s
    returned : (s : Bool) → Walk x return s returns s

  -- a walk of steps, one after another
  pub data Walks (x : ℕ) : Steps → Bool → Way → Bool → Type 0 where
    ended : (s : Bool) → Walks x no_steps s (out goes) s
    stopped : (f : Step) (fs : Steps) (s : Bool) (w : Way) (t : Bool) → is_on w ≡ false → Walk x f s w t → Walks x (a_step f fs) s w t
    went_on : (f : Step) (fs : Steps) (s t : Bool) (w : Way) (u : Bool) → Walk x f s (out goes) t → Walks x fs t w u → Walks x (a_step f fs) s w u

  -- a walk of the turns of a loop
  pub data Turns (x : ℕ) : Steps → Bool → Way → Bool → Type 0 where
    last_turn : (fs : Steps) (s : Bool) (w v : Way) (t : Bool) → Walks x fs s w t → behind_loop w ≡ Some v → Turns x fs s v t
    next_turn : (fs : Steps) (s : Bool) (w : Way) (t : Bool) (v : Way) (u : Bool) → Walks x fs s w t → behind_loop w ≡ None → Turns x fs t v u → Turns x fs s v u
