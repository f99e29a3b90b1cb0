-- How a run goes on.
use Rattle.std.proofs.Common.{◌≡◌, ℕ, zero, suc, ◌+◌, refl, arith, ap}
use Rattle.avm_state.specs.declared.call.Call.{Call}
use Rattle.avm_run.specs.declared.state.State.{State}
use Rattle.avm_run.specs.declared.outcome.Ran.{Ran}
use Rattle.avm_run.specs.declared.outcome.Outcome.TheVariants.{OverBudget}
use Rattle.avm_run.specs.Machine.{Code, Turn, Next, Stop, turn, goes_on}

pub going_on : (c : Code) (k : Call) (s t : State) → (n m : ℕ) → n ≡ m + 1 → turn c k s ≡ Next t → goes_on c k n (Next s) ≡ goes_on c k m (Next t)
unfolding goes_on
going_on c k s t n m e h = let e' : n ≡ suc m = omega arith in rw e' (ap (goes_on c k m) h)

pub ending : (c : Code) (k : Call) (s : State) (r : Ran) → (n m : ℕ) → n ≡ m + 1 → turn c k s ≡ Stop r → goes_on c k n (Next s) ≡ r
unfolding goes_on
ending c k s r n m e h = let e' : n ≡ suc m = omega arith in rw e' (ap (goes_on c k m) h)

pub run_out : (c : Code) (k : Call) (s t : State) → (n : ℕ) → n ≡ 1 → turn c k s ≡ Next t → goes_on c k n (Next s) ≡ record { outcome = OverBudget; pc = t.pc; spent = t.spent }
unfolding goes_on
run_out c k s t n e h = let e' : n ≡ suc zero = omega arith in rw e' (ap (goes_on c k zero) h)

pub stepping : (c : Code) (k : Call) (s : State) → (n m : ℕ) → n ≡ m + 1 → goes_on c k n (Next s) ≡ goes_on c k m (turn c k s)
unfolding goes_on
stepping c k s n m e = let e' : n ≡ suc m = omega arith in rw e' refl

pub ended : (c : Code) (k : Call) (n : ℕ) (r : Ran) → goes_on c k n (Stop r) ≡ r
unfolding goes_on
ended c k n r = refl
