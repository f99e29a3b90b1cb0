-- The functions that are reached are the least marks that hold the roots and are closed under calls.
use Rattle.std.proofs.Common.{◌≡◌, ℕ, zero, suc, ◌+◌, ◌<◌, ◌≤◌, ◌⊎◌, inl, inr, ◌∙◌, Bool, true, false, ◌||◌, ◌&&◌, cond, List, [], ◌∷◌, length, refl, sym, ap, subst, arith}
use Rattle.std.proofs.lemmas.Bool.{or_cases, or_left, or_right, and_parts, and_from, false≢true}
use Rattle.awst.specs.Meaning.{Function}
use Rattle.awst.specs.Weight.{sts_calls, is_called, spread_from, spread}
use Rattle.awst.specs.Marks.{marked_from}
use Rattle.awst.specs.Reach.{mark_at, calls_at}

-- what is marked in the first is marked in the second
pub record Below (marks more : List Bool) : Type 0 where
  pub same_length : length marks ≡ length more
  pub within : (g : ℕ) → mark_at marks g ≡ true → mark_at more g ≡ true

-- with a function those are marked that it calls
pub record Closed (functions : List Function) (marks : List Bool) : Type 0 where
  pub calls : (h g : ℕ) → mark_at marks h ≡ true → calls_at functions h g ≡ true → g < length marks → mark_at marks g ≡ true

pub mark_inside : (marks : List Bool) (g : ℕ) → mark_at marks g ≡ true → g < length marks
mark_inside [] g h = absurd (false≢true h)
mark_inside (mark ∷ marks) zero h = omega arith
mark_inside (mark ∷ marks) (suc g) h = omega (arith, mark_inside marks g h)

pub mark_of_marked : (x : ℕ) (f : ℕ → Bool) (marks : List Bool) (g : ℕ) → g < length marks → mark_at (marked_from x f marks) g ≡ (mark_at marks g || f (x + g))
mark_of_marked x f [] g h = absurd (omega arith)
mark_of_marked x f (mark ∷ marks) zero h = let e : x ≡ x + 0 = omega arith in ap (λ y. mark || f y) e
mark_of_marked x f (mark ∷ marks) (suc g) h =
    let e : x + 1 + g ≡ x + suc g = omega arith in
    mark_of_marked (x + 1) f marks g (omega arith) ∙ ap (λ y. mark_at marks g || f y) e

pub length-marked : (x : ℕ) (f : ℕ → Bool) (marks : List Bool) → length (marked_from x f marks) ≡ length marks
length-marked x f [] = refl
length-marked x f (mark ∷ marks) = ap suc (length-marked (x + 1) f marks)

spread_is_marked : (x : ℕ) (marks all : List Bool) (functions : List Function) → spread_from x marks all functions ≡ marked_from x (is_called all functions) marks
spread_is_marked x [] all functions = refl
spread_is_marked x (mark ∷ marks) all functions = ap (λ l. (mark || is_called all functions x) ∷ l) (spread_is_marked (x + 1) marks all functions)

called_by : (marks : List Bool) (functions : List Function) (h g : ℕ) → mark_at marks h ≡ true → calls_at functions h g ≡ true → is_called marks functions g ≡ true
called_by [] functions h g m c = absurd (false≢true m)
called_by (mark ∷ marks) [] h g m c = absurd (false≢true c)
called_by (mark ∷ marks) (function ∷ functions) zero g m c = or_left (mark && sts_calls function.body g) (is_called marks functions g) (and_from mark (sts_calls function.body g) m c)
called_by (mark ∷ marks) (function ∷ functions) (suc h) g m c = or_right (mark && sts_calls function.body g) (is_called marks functions g) (called_by marks functions h g m c)

Caller : List Bool → List Function → ℕ → Type 0
Caller marks functions g = (h : ℕ) × (mark_at marks h ≡ true) × (calls_at functions h g ≡ true)

later_caller : (mark : Bool) (marks : List Bool) (function : Function) (functions : List Function) (g : ℕ) → Caller marks functions g → Caller (mark ∷ marks) (function ∷ functions) g
unfolding Caller
later_caller mark marks function functions g c = (suc c.0, c.1, c.2)

caller_of : (marks : List Bool) (functions : List Function) (g : ℕ) → is_called marks functions g ≡ true → Caller marks functions g
unfolding Caller
caller_of [] functions g e = absurd (false≢true e)
caller_of (mark ∷ marks) [] g e = absurd (false≢true e)
caller_of (mark ∷ marks) (function ∷ functions) g e =
    elim (or_cases (mark && sts_calls function.body g) (is_called marks functions g) e) [
      | inl here ↦ (zero, (and_parts mark (sts_calls function.body g) here).0, (and_parts mark (sts_calls function.body g) here).1)
      | inr there ↦ later_caller mark marks function functions g (caller_of marks functions g there)
    ]

-- one step of spreading
step : List Function → List Bool → List Bool
step functions marks = spread_from 0 marks marks functions

step_mark : (functions : List Function) (marks : List Bool) (g : ℕ) → g < length marks → mark_at (step functions marks) g ≡ (mark_at marks g || is_called marks functions g)
unfolding step
step_mark functions marks g h = ap (λ l. mark_at l g) (spread_is_marked 0 marks marks functions) ∙ mark_of_marked 0 (is_called marks functions) marks g h ∙ (let e : 0 + g ≡ g = omega arith in ap (λ y. mark_at marks g || is_called marks functions y) e)

length-step : (functions : List Function) (marks : List Bool) → length (step functions marks) ≡ length marks
unfolding step
length-step functions marks = ap length (spread_is_marked 0 marks marks functions) ∙ length-marked 0 (is_called marks functions) marks

step_below : (functions : List Function) (marks more : List Bool) → Below marks more → Closed functions more → Below (step functions marks) more
unfolding Caller
step_below functions marks more b c = record {
  same_length = length-step functions marks ∙ b.same_length;
  within = λ g e.
      let inside : g < length marks = omega (arith, mark_inside (step functions marks) g e, length-step functions marks) in
      let e' : (mark_at marks g || is_called marks functions g) ≡ true = sym (step_mark functions marks g inside) ∙ e in
      elim (or_cases (mark_at marks g) (is_called marks functions g) e') [
        | inl here ↦ b.within g here
        | inr there ↦ let w = caller_of marks functions g there in c.calls w.0 g (b.within w.0 w.1) w.2 (omega (arith, inside, b.same_length))
      ];
}

-- what is closed holds all that spreads from within it
spread_below : (n : ℕ) (functions : List Function) (marks more : List Bool) → Below marks more → Closed functions more → Below (spread n functions marks) more
unfolding step
spread_below zero functions marks more b c = b
spread_below (suc n) functions marks more b c = spread_below n functions (step functions marks) more (step_below functions marks more b c) c

-- marks are kept
kept_by_step : (functions : List Function) (marks : List Bool) → Below marks (step functions marks)
kept_by_step functions marks = record {
  same_length = sym (length-step functions marks);
  within = λ g e. step_mark functions marks g (mark_inside marks g e) ∙ or_left (mark_at marks g) (is_called marks functions g) e;
}

below_below : (a b c : List Bool) → Below a b → Below b c → Below a c
below_below a b c p q = record { same_length = p.same_length ∙ q.same_length; within = λ g e. q.within g (p.within g e) }

kept_by_spread : (n : ℕ) (functions : List Function) (marks : List Bool) → Below marks (spread n functions marks)
unfolding step
kept_by_spread zero functions marks = record { same_length = refl; within = λ g e. e }
kept_by_spread (suc n) functions marks = below_below marks (step functions marks) (spread n functions (step functions marks)) (kept_by_step functions marks) (kept_by_spread n functions (step functions marks))

-- how many are marked
count : List Bool → ℕ
count [] = 0
count (mark ∷ marks) = cond mark 1 0 + count marks

count_small : (marks : List Bool) → count marks ≤ length marks
unfolding count
count_small [] = omega arith
count_small (true ∷ marks) = omega (arith, count_small marks)
count_small (false ∷ marks) = omega (arith, count_small marks)

count_full : (marks : List Bool) → length marks ≤ count marks → (g : ℕ) → g < length marks → mark_at marks g ≡ true
unfolding count
count_full [] h g l = absurd (omega arith)
count_full (true ∷ marks) h zero l = refl
count_full (true ∷ marks) h (suc g) l = count_full marks (omega arith) g (omega arith)
count_full (false ∷ marks) h g l = absurd (omega (arith, count_small marks))

Grows : List Bool → List Bool → Type 0
Grows marks more = (more ≡ marks) ⊎ (count marks < count more)

grows_behind : (mark : Bool) (marks more : List Bool) → Grows marks more → Grows (mark ∷ marks) (mark ∷ more)
unfolding Grows count
grows_behind mark marks more (inl e) = inl (ap (λ l. mark ∷ l) e)
grows_behind mark marks more (inr l) = inr (omega arith)

grows_here : (marks more : List Bool) → Grows marks more → Grows (false ∷ marks) (true ∷ more)
unfolding Grows count
grows_here marks more (inl e) = inr (omega (arith, ap count e))
grows_here marks more (inr l) = inr (omega arith)

marked_grows : (x : ℕ) (f : ℕ → Bool) (marks : List Bool) → Grows marks (marked_from x f marks)
unfolding Grows count
marked_grows x f [] = inl refl
marked_grows x f (true ∷ marks) = grows_behind true marks (marked_from (x + 1) f marks) (marked_grows (x + 1) f marks)
marked_grows x f (false ∷ marks) =
    elim (f x) as (λ b. Grows (false ∷ marks) (b ∷ marked_from (x + 1) f marks)) [
      | true ↦ grows_here marks (marked_from (x + 1) f marks) (marked_grows (x + 1) f marks)
      | false ↦ grows_behind false marks (marked_from (x + 1) f marks) (marked_grows (x + 1) f marks)
    ]

step_grows : (functions : List Function) (marks : List Bool) → Grows marks (step functions marks)
unfolding step
step_grows functions marks = subst (Grows marks) (sym (spread_is_marked 0 marks marks functions)) (marked_grows 0 (is_called marks functions) marks)

stays : (n : ℕ) (functions : List Function) (marks : List Bool) → step functions marks ≡ marks → spread n functions marks ≡ marks
unfolding step
stays zero functions marks e = refl
stays (suc n) functions marks e = ap (spread n functions) e ∙ stays n functions marks e

Done : ℕ → List Function → List Bool → Type 0
Done n functions marks = (step functions (spread n functions marks) ≡ spread n functions marks) ⊎ (n + count marks ≤ count (spread n functions marks))

done_more : (n : ℕ) (functions : List Function) (marks : List Bool) → Grows marks (step functions marks) → Done n functions (step functions marks) → Done (suc n) functions marks
unfolding Grows Done step
done_more n functions marks (inl e) d = let s : spread (suc n) functions marks ≡ marks = ap (spread n functions) e ∙ stays n functions marks e in inl (ap (λ m. step functions m) s ∙ e ∙ sym s)
done_more n functions marks (inr l) (inl e) = inl e
done_more n functions marks (inr l) (inr m) = inr (omega arith)

done : (n : ℕ) (functions : List Function) (marks : List Bool) → Done n functions marks
unfolding Done
done zero functions marks = inr (omega arith)
done (suc n) functions marks = done_more n functions marks (step_grows functions marks) (done n functions (step functions marks))

still_closed : (functions : List Function) (marks : List Bool) → step functions marks ≡ marks → Closed functions marks
still_closed functions marks e = record {
  calls = λ h g m c inside. sym (ap (λ l. mark_at l g) e) ∙ step_mark functions marks g inside ∙ or_right (mark_at marks g) (is_called marks functions g) (called_by marks functions h g m c);
}

full_closed : (functions : List Function) (marks : List Bool) → length marks ≤ count marks → Closed functions marks
full_closed functions marks l = record { calls = λ h g m c inside. count_full marks l g inside }

-- over as many calls as there are marks all is reached
spread_closed : (functions : List Function) (marks : List Bool) → Closed functions (spread (length marks) functions marks)
unfolding Done
spread_closed functions marks =
    let reached = spread (length marks) functions marks in
    let same : length marks ≡ length reached = (kept_by_spread (length marks) functions marks).same_length in
    elim (done (length marks) functions marks) [
      | inl e ↦ still_closed functions reached e
      | inr l ↦ full_closed functions reached (omega (arith, same, l))
    ]

both_true : (b c : Bool) → (b ≡ true → c ≡ true) → (c ≡ true → b ≡ true) → b ≡ c
both_true true c p q = sym (p refl)
both_true false true p q = q refl
both_true false false p q = refl

below_both : (marks more : List Bool) → Below marks more → Below more marks → marks ≡ more
below_both [] [] b d = refl
below_both [] (m ∷ more) b d = absurd (omega (arith, b.same_length))
below_both (mark ∷ marks) [] b d = absurd (omega (arith, b.same_length))
below_both (mark ∷ marks) (m ∷ more) b d =
    ap (λ l. mark ∷ l) (below_both marks more (record { same_length = omega (arith, b.same_length); within = λ g. b.within (suc g) }) (record { same_length = omega (arith, d.same_length); within = λ g. d.within (suc g) }))
    ∙ ap (λ x. x ∷ more) (both_true mark m (b.within zero) (d.within zero))

-- marks that hold the first ones, are closed, and hold nothing that is not reached
pub reached_is : (functions : List Function) (first marks : List Bool) → Below first marks → Closed functions marks → Below marks (spread (length first) functions first) → marks ≡ spread (length first) functions first
reached_is functions first marks holds closed sound = below_both marks (spread (length first) functions first) sound (spread_below (length first) functions first marks holds closed)

pub reached_closed : (functions : List Function) (first : List Bool) → Closed functions (spread (length first) functions first)
reached_closed functions first = spread_closed functions first

pub reached_keeps : (functions : List Function) (first : List Bool) → Below first (spread (length first) functions first)
reached_keeps functions first = kept_by_spread (length first) functions first
