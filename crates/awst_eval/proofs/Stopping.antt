-- How the ends of runs put together follow from the ends of their parts.
use Rattle.std.proofs.Common.{◌≡◌, Ok, Err, ap, Result, Option, ℕ, subst, sym, ◌∙◌}
use Rattle.runs.specs.Seen.{paid}
use Rattle.runs.specs.Steps.{World, Run, Gives, after, lift, pay, with_seen}
use Rattle.runs.specs.Steps as runs
use Rattle.awst_eval.specs.declared.stop.Stop.{Stop}
use Rattle.awst_eval.specs.declared.stop.Stop.TheVariants.{Failed, Going, Memory}
use Rattle.awst_eval.specs.Ended.{Ends, Lifts}

-- a run that stopped stops what follows it
pub stopped : {R S A B : Type 0} (shown : R → A) (known : S → B) (e : Stop) (r : runs.Result A) (next : A → Run B) (w : World) → Ends shown (Err e) r w → Ends known (Err e) (after r next) w
unfolding Ends
stopped shown known Failed r next w h = ap (λ x. after x next) h
stopped shown known Going r next w h = ap (λ x. after x next) h
stopped shown known Memory r next w h = tt

pub stops : {R S A B : Type 0} (shown : R → A) (known : S → B) (e : Stop) (x : Result S Stop) (r : runs.Result A) (next : A → Run B) (w : World) → Ends shown (Err e) r w → x ≡ Err e → Ends known x (after r next) w
stops shown known e x r next w h g = subst (λ (q : Result _ Stop). Ends known q (after r next) w) (sym g) (stopped shown known e r next w h)

-- behind a run that gave a value
pub behind : {R S A B : Type 0} (shown : R → A) (known : S → B) (a : R) (x : Result S Stop) (r : runs.Result A) (next : A → Run B) (w w2 : World) → Ends shown (Ok a) r w → Ends known x (next (shown a) w) w2 → Ends known x (after r next) w2
unfolding Ends
behind shown known a x r next w w2 h g = subst (λ (q : runs.Result _). Ends known x (after q next) w2) (sym h) g

-- want of memory says nothing
pub ran_out : {R A : Type 0} (shown : R → A) (x : Result R Stop) (r : runs.Result A) (w : World) → x ≡ Err Memory → Ends shown x r w
unfolding Ends
ran_out shown x r w h = let free : Ends shown (Err Memory) r w = tt in subst (λ (q : Result _ Stop). Ends shown q r w) (sym h) free

-- a value that is there, or a failure
pub lifted : {R A : Type 0} (shown : R → A) (x : Result R Stop) (o : Option A) (w : World) → Lifts shown x o → Ends shown x (lift o w) w
unfolding Ends
lifted shown (Ok r) o w h = ap (λ q. lift q w) h
lifted shown (Err Failed) o w h = ap (λ q. lift q w) h
lifted shown (Err Going) o w h = absurd h
lifted shown (Err Memory) o w h = tt

-- a run that pays first
pub paid_first : {R A : Type 0} (shown : R → A) (x : Result R Stop) (run : Run A) (amount price : ℕ) (w w1 w2 : World) → price ≡ amount → w1 ≡ with_seen w (paid price w.seen) → Ends shown x (run w1) w2 → Ends shown x (pay amount run w) w2
paid_first shown x run amount price w w1 w2 e h g =
    let same : w1 ≡ with_seen w (paid amount w.seen) = h ∙ ap (λ (k : ℕ). with_seen w (paid k w.seen)) e in
    subst (λ (v : World). Ends shown x (run v) w2) same g

-- a run that depends on numbers, by equal ones
pub by_two : {R A : Type 0} (shown : R → A) (x : Result R Stop) (run : ℕ → ℕ → Run A) (i j p q : ℕ) (w w2 : World) → i ≡ j → p ≡ q → Ends shown x (run i p w) w2 → Ends shown x (run j q w) w2
by_two shown x run i j p q w w2 e h g =
    subst (λ (k : ℕ). Ends shown x (run k q w) w2) e (subst (λ (k : ℕ). Ends shown x (run i k w) w2) h g)
