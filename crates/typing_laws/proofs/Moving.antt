-- Walks of moves: one list behind another, and the same walk from another state.
use Rattle.std.proofs.Common.{◌≡◌, ℕ, ◌⊎◌, inl, inr, Bool, true, false, refl, sym, ap, subst}
use Rattle.std.specs.Prelude.{if◌then◌else◌, ◌==◌}
use Rattle.awst.specs.Paths.{Move, Moves, Way, Walk, Walks, Turning, none, one, joined, sets, forgets, forks, loops, goes_on, at_break, at_continue, at_end, at_read, is_going, state_behind, reading, past_read, setting, forgetting, first_way, second_way, looping, breaking, continuing, leaving, ended, stopped, went_on, over, in_test, broken, returned, in_body, again, again_by_continue}

-- ---- one list behind another

pub joined-none : (ms : Moves) → joined ms none ≡ ms
joined-none none = refl
joined-none (one m ms) = ap (one m) (joined-none ms)

pub joined-joined : (a b c : Moves) → joined (joined a b) c ≡ joined a (joined b c)
joined-joined none b c = refl
joined-joined (one m ms) b c = ap (one m) (joined-joined ms b c)

-- how a walk takes the first of moves
pub move_cases : (x : ℕ) (m : Move) (ms : Moves) (s : Bool) (w : Way) (u : Bool) → Walks x (one m ms) s w u → ((is_going w ≡ false) × Walk x m s w u) ⊎ ((t : Bool) × Walk x m s goes_on t × Walks x ms t w u)
move_cases x _ _ _ _ _ (stopped m ms s t w k h) = inl (k, h)
move_cases x _ _ _ _ _ (went_on m ms s t u w h k) = inr (t, h, k)

abbrev pub Split : ℕ → Moves → Moves → Bool → Way → Bool → Type 0
Split x a b s w u = ((is_going w ≡ false) × Walks x a s w u) ⊎ ((t : Bool) × Walks x a s goes_on t × Walks x b t w u)

split_further : (x : ℕ) (m : Move) (a b : Moves) (s t : Bool) (w : Way) (u : Bool) → Walk x m s goes_on t → Split x a b t w u → Split x (one m a) b s w u
split_further x m a b s t w u h (inl p) = inl (p.0, went_on m a s t u w h p.1)
split_further x m a b s t w u h (inr p) = inr (p.0, went_on m a s t p.0 goes_on h p.1, p.2)

pub split : (x : ℕ) (a b : Moves) (s : Bool) (w : Way) (u : Bool) → Walks x (joined a b) s w u → Split x a b s w u
split x none b s w u h = inr (s, ended s, h)
split x (one m ms) b s w u h = elim (move_cases x m (joined ms b) s w u h) [ inl p ↦ inl (p.0, stopped m ms s u w p.0 p.1) | inr p ↦ split_further x m ms b s p.0 w u p.1 (split x ms b p.0 w u p.2) ]

-- ---- one move alone

no_more : (x : ℕ) (s : Bool) (w : Way) (t : Bool) → Walks x none s w t → (w ≡ goes_on) × (s ≡ t)
no_more x _ _ _ (ended s) = (refl, refl)

pub one_from : (x : ℕ) (m : Move) (s : Bool) (w : Way) (t : Bool) → Walks x (one m none) s w t → Walk x m s w t
one_from x m s w t h = elim (move_cases x m none s w t h) [
  | inl p ↦ p.1
  | inr p ↦ let e = no_more x p.0 w t p.2 in subst (λ v. Walk x m s v t) (sym e.0) (subst (λ r. Walk x m s goes_on r) e.1 p.1)
]

pub forks_cases : (x : ℕ) (a b : Moves) (s : Bool) (w : Way) (t : Bool) → Walk x (forks a b) s w t → Walks x a s w t ⊎ Walks x b s w t
forks_cases x _ _ _ _ _ (first_way a b s t w h) = inl h
forks_cases x _ _ _ _ _ (second_way a b s t w h) = inr h

pub loop_cases : (x : ℕ) (c : Moves) (can_end : Bool) (b : Moves) (s : Bool) (w : Way) (t : Bool) → Walk x (loops c can_end b) s w t → Turning x c can_end b s w t
loop_cases x _ _ _ _ _ _ (looping c can_end b s t w h) = h

-- ---- the same walk from another state

set_same : (c b s r : Bool) → ((if c then b else r) ≡ (if c then b else s)) ⊎ ((if c then b else r) ≡ r)
set_same true b s r = inl refl
set_same false b s r = inr refl

set_cases : (x y : ℕ) (b s r : Bool) → (state_behind x y b r ≡ state_behind x y b s) ⊎ (state_behind x y b r ≡ r)
set_cases x y b s r = set_same (x == y) b s r

moved : (x : ℕ) (m : Move) (r : Bool) (w : Way) (v t : Bool) → Walk x m r w v → (v ≡ t) ⊎ (v ≡ r) → Walk x m r w t ⊎ Walk x m r w r
moved x m r w v t h (inl e) = inl (subst (λ z. Walk x m r w z) e h)
moved x m r w v t h (inr e) = inr (subst (λ z. Walk x m r w z) e h)

-- a test and a body
both_by : (x : ℕ) (c b : Moves) (t u r : Bool) (w : Way) → Walks x b t w u → Walks x c r goes_on t ⊎ Walks x c r goes_on r → Walks x b r w u ⊎ Walks x b r w r
    → ((v : Bool) × Walks x c r goes_on v × Walks x b v w u) ⊎ ((v : Bool) × Walks x c r goes_on v × Walks x b v w r)
both_by x c b t u r w k (inl n) l = inl (t, n, k)
both_by x c b t u r w k (inr n) (inl l) = inl (r, n, l)
both_by x c b t u r w k (inr n) (inr l) = inr (r, n, l)

mutual
  also_move : (x : ℕ) (m : Move) (s t : Bool) (w : Way) → Walk x m s w t → (r : Bool) → Walk x m r w t ⊎ Walk x m r w r
  also_move x _ _ _ _ (reading y p s e) r = inr (reading y p r e)
  also_move x _ _ _ _ (past_read y p s) r = inr (past_read y p r)
  also_move x _ _ _ _ (setting y s) r = moved x (sets y) r goes_on (state_behind x y true r) (state_behind x y true s) (setting y r) (set_cases x y true s r)
  also_move x _ _ _ _ (forgetting y s) r = moved x (forgets y) r goes_on (state_behind x y false r) (state_behind x y false s) (forgetting y r) (set_cases x y false s r)
  also_move x _ _ _ _ (first_way a b s t w h) r = elim (also x a s t w h r) [ inl k ↦ inl (first_way a b r t w k) | inr k ↦ inr (first_way a b r r w k) ]
  also_move x _ _ _ _ (second_way a b s t w h) r = elim (also x b s t w h r) [ inl k ↦ inl (second_way a b r t w k) | inr k ↦ inr (second_way a b r r w k) ]
  also_move x _ _ _ _ (looping c e b s t w h) r = elim (also_turning x c e b s t w h r) [ inl k ↦ inl (looping c e b r t w k) | inr k ↦ inr (looping c e b r r w k) ]
  also_move x _ _ _ _ (breaking s) r = inr (breaking r)
  also_move x _ _ _ _ (continuing s) r = inr (continuing r)
  also_move x _ _ _ _ (leaving s) r = inr (leaving r)

  pub also : (x : ℕ) (ms : Moves) (s t : Bool) (w : Way) → Walks x ms s w t → (r : Bool) → Walks x ms r w t ⊎ Walks x ms r w r
  also x _ _ _ _ (ended s) r = inr (ended r)
  also x _ _ _ _ (stopped m ms s t w k h) r = elim (also_move x m s t w h r) [ inl n ↦ inl (stopped m ms r t w k n) | inr n ↦ inr (stopped m ms r r w k n) ]
  also x _ _ _ _ (went_on m ms s t u w h k) r = elim (also_move x m s t goes_on h r) [
    | inl n ↦ inl (went_on m ms r t u w n k)
    | inr n ↦ elim (also x ms t u w k r) [ inl l ↦ inl (went_on m ms r r u w n l) | inr l ↦ inr (went_on m ms r r r w n l) ]
  ]

  -- from there a loop is gone through the same way
  also_turning : (x : ℕ) (c : Moves) (e : Bool) (b : Moves) (s t : Bool) (w : Way) → Turning x c e b s w t → (r : Bool) → Turning x c e b r w t ⊎ Turning x c e b r w r
  also_turning x _ _ _ _ _ _ (over c b s t h) r = elim (also x c s t goes_on h r) [ inl k ↦ inl (over c b r t k) | inr k ↦ inr (over c b r r k) ]
  also_turning x _ _ _ _ _ _ (in_test c e b s t w g h) r = elim (also x c s t w h r) [ inl k ↦ inl (in_test c e b r t w g k) | inr k ↦ inr (in_test c e b r r w g k) ]
  also_turning x _ _ _ _ _ _ (broken c e b s t u h k) r = elim (both_by x c b t u r at_break k (also x c s t goes_on h r) (also x b t u at_break k r)) [ inl p ↦ inl (broken c e b r p.0 u p.1 p.2) | inr p ↦ inr (broken c e b r p.0 r p.1 p.2) ]
  also_turning x _ _ _ _ _ _ (returned c e b s t u h k) r = elim (both_by x c b t u r at_end k (also x c s t goes_on h r) (also x b t u at_end k r)) [ inl p ↦ inl (returned c e b r p.0 u p.1 p.2) | inr p ↦ inr (returned c e b r p.0 r p.1 p.2) ]
  also_turning x _ _ _ _ _ _ (in_body c e b s t u q h k) r = elim (both_by x c b t u r (at_read q) k (also x c s t goes_on h r) (also x b t u (at_read q) k r)) [ inl p ↦ inl (in_body c e b r p.0 u q p.1 p.2) | inr p ↦ inr (in_body c e b r p.0 r q p.1 p.2) ]
  also_turning x _ _ _ _ _ _ (again c e b s t u v w h k l) r = elim (both_by x c b t u r goes_on k (also x c s t goes_on h r) (also x b t u goes_on k r)) [
    | inl p ↦ inl (again c e b r p.0 u v w p.1 p.2 l)
    | inr p ↦ elim (also_turning x c e b u v w l r) [ inl n ↦ inl (again c e b r p.0 r v w p.1 p.2 n) | inr n ↦ inr (again c e b r p.0 r r w p.1 p.2 n) ]
  ]
  also_turning x _ _ _ _ _ _ (again_by_continue c e b s t u v w h k l) r = elim (both_by x c b t u r at_continue k (also x c s t goes_on h r) (also x b t u at_continue k r)) [
    | inl p ↦ inl (again_by_continue c e b r p.0 u v w p.1 p.2 l)
    | inr p ↦ elim (also_turning x c e b u v w l r) [ inl n ↦ inl (again_by_continue c e b r p.0 r v w p.1 p.2 n) | inr n ↦ inr (again_by_continue c e b r p.0 r r w p.1 p.2 n) ]
  ]
