-- The walks of expressions are walks of the notes on them.
use Rattle.std.proofs.Common.{◌≡◌, ℕ, ◌⊎◌, inl, inr, Bool, true, false, List, [], ◌∷◌, refl, sym, ◌∙◌, subst}
use Rattle.std.specs.Prelude.{IsTrue, ◌==◌, not}
use Rattle.std.proofs.lemmas.Bool.{eqb-true, eqb-false}
use Rattle.puya_base.specs.declared.source.Place.{Place}
use Rattle.awst.specs.Paths as Paths
use Rattle.awst.specs.Paths.{Move, Moves, Way, none, one, joined, forked, is_always, ex_moves, form_moves, exs_moves}
use Rattle.awst.specs.Tree.{Ex, ex, Form, constant, variable, strict, both, one_of, choose, call, Exs, no_exprs, an_expr}
use Rattle.path_rules.specs.declared.note.Note.{Note}
use Rattle.path_rules.specs.Steps.{Step, broken, read, assign, forget, arm, choice, may_end, loop, break, continue, return, Steps, step_of, steps_of}
use Rattle.path_rules.specs.Walks as Walks
use Rattle.typing_laws.proofs.Truths.{never}
use Rattle.typing_laws.proofs.Good.{IsReading, IsAllowed, Reading, Allows, Within, FormWithin, AllWithin, Follows, Followed}
use Rattle.typing_laws.proofs.Anywhere.{allows_all}

-- ---- moves that are reads alone

abbrev mutual
  pub MoveReads : (ℕ → Bool) → Move → Type 0
  MoveReads reads (Paths.reads x p) = IsTrue (reads x)
  MoveReads reads (Paths.sets x) = ⊥
  MoveReads reads (Paths.forgets x) = ⊥
  MoveReads reads (Paths.forks a b) = MovesRead reads a × MovesRead reads b
  MoveReads reads (Paths.loops a e b) = ⊥
  MoveReads reads Paths.breaks = ⊥
  MoveReads reads Paths.continues = ⊥
  MoveReads reads Paths.leaves = ⊥

  -- each variable that is read may be read
  pub MovesRead : (ℕ → Bool) → Moves → Type 0
  MovesRead reads none = Unit {0}
  MovesRead reads (one m ms) = MoveReads reads m × MovesRead reads ms

pub joined_reads : (reads : ℕ → Bool) (a b : Moves) → MovesRead reads a → MovesRead reads b → MovesRead reads (joined a b)
joined_reads reads none b h k = k
joined_reads reads (one m ms) b h k = (h.0, joined_reads reads ms b h.1 k)

pub forked_reads : (reads : ℕ → Bool) (always : Bool) (a b : Moves) → MovesRead reads a → MovesRead reads b → MovesRead reads (forked always a b)
forked_reads reads true a b h k = h
forked_reads reads false a b h k = ((h, k), tt)

mutual
  pub ex_reads : (reads : ℕ → Bool) (e : Ex) → Within reads e → MovesRead reads (ex_moves e)
  ex_reads reads (ex node form) h = form_reads reads node.place form h

  form_reads : (reads : ℕ → Bool) (p : Place) (form : Form) → FormWithin reads form → MovesRead reads (form_moves p form)
  form_reads reads p (constant v) h = tt
  form_reads reads p (variable x) h = (h, tt)
  form_reads reads p (strict operation es) h = exs_read reads es h
  form_reads reads p (both a b) h = joined_reads reads (ex_moves a) (forked false (ex_moves b) none) (ex_reads reads a h.0) ((ex_reads reads b h.1, tt), tt)
  form_reads reads p (one_of a b) h = joined_reads reads (ex_moves a) (forked false (ex_moves b) none) (ex_reads reads a h.0) ((ex_reads reads b h.1, tt), tt)
  form_reads reads p (choose c a b) h =
      joined_reads reads (ex_moves c) (forked (is_always c) (ex_moves a) (ex_moves b)) (ex_reads reads c h.0)
      (forked_reads reads (is_always c) (ex_moves a) (ex_moves b) (ex_reads reads a h.1.0) (ex_reads reads b h.1.1))
  form_reads reads p (call f es order) h = exs_read reads es h

  exs_read : (reads : ℕ → Bool) (es : Exs) → AllWithin reads es → MovesRead reads (exs_moves es)
  exs_read reads no_exprs h = tt
  exs_read reads (an_expr e es) h = joined_reads reads (ex_moves e) (exs_moves es) (ex_reads reads e h.0) (exs_read reads es h.1)

-- ---- their walks

-- a walk goes on, or stops at a read of a variable that may be read
abbrev pub Stands : Bool → Way → Type 0
Stands b Paths.goes_on = Unit {0}
Stands b (Paths.at_read p) = IsTrue b
Stands b Paths.at_break = ⊥
Stands b Paths.at_continue = ⊥
Stands b Paths.at_end = ⊥

same_true : (x y : ℕ) (reads : ℕ → Bool) → (x == y) ≡ true → IsTrue (reads y) → IsTrue (reads x)
same_true x y reads e h = subst (λ z. IsTrue (reads z)) (sym (eqb-true x y e)) h

mutual
  move_stands : (x : ℕ) (reads : ℕ → Bool) (m : Move) (s t : Bool) (w : Way) → Paths.Walk x m s w t → MoveReads reads m → (s ≡ t) × Stands (reads x) w
  move_stands x reads _ _ _ _ (Paths.reading y p s e) h = (refl, same_true x y reads e h)
  move_stands x reads _ _ _ _ (Paths.past_read y p s) h = (refl, tt)
  move_stands x reads _ _ _ _ (Paths.setting y s) h = absurd h
  move_stands x reads _ _ _ _ (Paths.forgetting y s) h = absurd h
  move_stands x reads _ _ _ _ (Paths.first_way a b s t w k) h = moves_stand x reads a s t w k h.0
  move_stands x reads _ _ _ _ (Paths.second_way a b s t w k) h = moves_stand x reads b s t w k h.1
  move_stands x reads _ _ _ _ (Paths.looping c e b s t w k) h = absurd h
  move_stands x reads _ _ _ _ (Paths.breaking s) h = absurd h
  move_stands x reads _ _ _ _ (Paths.continuing s) h = absurd h
  move_stands x reads _ _ _ _ (Paths.leaving s) h = absurd h

  pub moves_stand : (x : ℕ) (reads : ℕ → Bool) (ms : Moves) (s t : Bool) (w : Way) → Paths.Walks x ms s w t → MovesRead reads ms → (s ≡ t) × Stands (reads x) w
  moves_stand x reads _ _ _ _ (Paths.ended s) h = (refl, tt)
  moves_stand x reads _ _ _ _ (Paths.stopped m ms s t w e k) h = move_stands x reads m s t w k h.0
  moves_stand x reads _ _ _ _ (Paths.went_on m ms s t u w k n) h =
      let a = move_stands x reads m s t Paths.goes_on k h.0 in
      let b = moves_stand x reads ms t u w n h.1 in
      (a.0 ∙ b.0, b.1)

-- ---- steps that tell of broken rules and reads alone

step_passed : (x : ℕ) (f : Step) (s : Bool) → IsReading f → Walks.Walk x f s (Walks.out Walks.goes) s
step_passed x (broken r) s h = Walks.past_fault r s
step_passed x (read y p) s h = Walks.past_read y p s
step_passed x (assign y) s h = absurd h
step_passed x (forget y) s h = absurd h
step_passed x (arm always body) s h = absurd h
step_passed x (choice fs) s h = absurd h
step_passed x may_end s h = absurd h
step_passed x (loop fs) s h = absurd h
step_passed x (break p) s h = absurd h
step_passed x (continue p) s h = absurd h
step_passed x return s h = absurd h

-- a walk of any variable goes past them
pub passed : (x : ℕ) (ns : List Note) (s : Bool) → Reading ns → Walks.Walks x (steps_of ns) s (Walks.out Walks.goes) s
passed x [] s h = Walks.ended s
passed x (n ∷ ns) s h = Walks.went_on (step_of n) (steps_of ns) s s (Walks.out Walks.goes) s (step_passed x (step_of n) s h.0) (passed x ns s h.1)

-- each variable but that one
abbrev but : ℕ → ℕ → Bool
but x y = not (x == y)

-- a walk can stop at a read of the variable
record StopsAt (x : ℕ) (fs : Steps) : Type 0 where
  place : Place
  walk : (s : Bool) → Walks.Walks x fs s (Walks.at place) s

record StepStops (x : ℕ) (f : Step) : Type 0 where
  place : Place
  walk : (s : Bool) → Walks.Walk x f s (Walks.at place) s

read_by : (x y : ℕ) (p : Place) (b : Bool) → (x == y) ≡ b → IsTrue (but x y) ⊎ StepStops x (read y p)
read_by x y p true e = inr (record { place = p; walk = λ s. Walks.at_read y p s e })
read_by x y p false e = inl (subst (λ z. IsTrue (not z)) (sym e) refl)

step_by : (x : ℕ) (f : Step) → IsReading f → IsAllowed (but x) f ⊎ StepStops x f
step_by x (broken r) h = inl tt
step_by x (read y p) h = read_by x y p (x == y) refl
step_by x (assign y) h = absurd h
step_by x (forget y) h = absurd h
step_by x (arm always body) h = absurd h
step_by x (choice fs) h = absurd h
step_by x may_end h = absurd h
step_by x (loop fs) h = absurd h
step_by x (break p) h = absurd h
step_by x (continue p) h = absurd h
step_by x return h = absurd h

-- they read no such variable, or a walk can stop at a read of it
stops_or_not : (x : ℕ) (ns : List Note) → Reading ns → Allows (but x) ns ⊎ StopsAt x (steps_of ns)
stops_or_not x [] h = inl tt
stops_or_not x (n ∷ ns) h = elim (step_by x (step_of n) h.0) [
  | inr k ↦ inr (record { place = k.place; walk = λ s. Walks.stopped (step_of n) (steps_of ns) s (Walks.at k.place) s refl (k.walk s) })
  | inl k ↦ elim (stops_or_not x ns h.1) [
    | inl l ↦ inl (k, l)
    | inr l ↦ inr (record {
      place = l.place;
      walk = λ s. Walks.went_on (step_of n) (steps_of ns) s s (Walks.at l.place) s (step_passed x (step_of n) s h.0) (l.walk s);
    })
  ]
]

-- ---- notes on expressions, and the moves of these

pub record Told (ns : List Note) (ms : Moves) : Type 0 where
  pub reading : Reading ns
  pub moves : (reads : ℕ → Bool) → Allows reads ns → MovesRead reads ms

-- some walk of the steps
goes_same : (x : ℕ) (ns : List Note) (s t : Bool) → Reading ns → s ≡ t → Followed x (steps_of ns) s Paths.goes_on t
goes_same x ns s t h e = record { way = Walks.out Walks.goes; agrees = tt; walk = subst (λ z. Walks.Walks x (steps_of ns) s (Walks.out Walks.goes) z) e (passed x ns s h) }

-- a variable that is not read stops no walk
not_itself_by : (x : ℕ) (b : Bool) → (x == x) ≡ b → IsTrue (not b) → ⊥
not_itself_by x true e h = never h
not_itself_by x false e h = eqb-false x x e refl

not_itself : (x : ℕ) → IsTrue (but x x) → ⊥
not_itself x h = not_itself_by x (x == x) refl h

told_by : (x : ℕ) (ns : List Note) (ms : Moves) → Told ns ms → (s t : Bool) (w : Way) → Paths.Walks x ms s w t → s ≡ t → Stands true w → Allows (but x) ns ⊎ StopsAt x (steps_of ns) → Followed x (steps_of ns) s w t
told_by x ns ms k s t Paths.goes_on h e g c = goes_same x ns s t k.reading e
told_by x ns ms k s t (Paths.at_read p) h e g (inl c) = absurd (not_itself x (moves_stand x (but x) ms s t (Paths.at_read p) h (k.moves (but x) c)).1)
told_by x ns ms k s t (Paths.at_read p) h e g (inr c) = record { way = Walks.at c.place; agrees = tt; walk = subst (λ z. Walks.Walks x (steps_of ns) s (Walks.at c.place) z) e (c.walk s) }
told_by x ns ms k s t Paths.at_break h e g c = absurd g
told_by x ns ms k s t Paths.at_continue h e g c = absurd g
told_by x ns ms k s t Paths.at_end h e g c = absurd g

-- each walk of an expression is one of the notes on it
pub told_follow : (ns : List Note) (ms : Moves) → Told ns ms → Follows (steps_of ns) ms
told_follow ns ms k x s t w h =
    let r = moves_stand x (λ y. true) ms s t w h (k.moves (λ y. true) (allows_all ns)) in
    told_by x ns ms k s t w h r.0 r.1 (stops_or_not x ns k.reading)

-- what is told of moves as such
pub told_reads : (ns : List Note) (ms : Moves) → Told ns ms → MovesRead (λ y. true) ms
told_reads ns ms k = k.moves (λ y. true) (allows_all ns)
