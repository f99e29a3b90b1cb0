-- Calls of functions that are there, and of such that are not.
use Rattle.std.proofs.Common.{◌≡◌, suc, ◌-◌, arith, List, Result, Err, Option, Some, None, slice_get, option_map, sym, ap, subst, ◌∙◌, true, false, ℕ}
use Rattle.std.proofs.lemmas.Option.{slice_get-map}
use Rattle.avm_state.specs.declared.call.Call.{Call}
use Rattle.runs.specs.Steps.{World, Run}
use Rattle.runs.specs.Steps as runs
use Rattle.awst.specs.declared.contract.Contract.{Contract}
use Rattle.awst.specs.declared.contract.Func.{Func}
use Rattle.awst.specs.Values.{Val}
use Rattle.awst.specs.Functions.{function_of}
use Rattle.awst.specs.Meaning.{Function, Program, runs_function, called}
use Rattle.awst_eval.specs.declared.stop.Stop.{Stop}
use Rattle.awst_eval.specs.declared.stop.Stop.TheVariants.{Failed, Going}
use Rattle.awst_eval.specs.Ended.{Ends}
use Rattle.awst_eval.specs.Ticks.{Ticks}
use Rattle.awst_eval.specs.Frames.{program_at}
use Rattle.awst_eval.proofs.Ticking.{used, unused}

there : (contract : Contract) (call : Call) (f : ℕ) → slice_get (program_at contract call).functions f ≡ option_map function_of (slice_get contract.funcs f)
unfolding program_at
there contract call f = slice_get-map function_of contract.funcs f

pub found : {R : Type 0} (shown : R → Val) (x : Result R Stop) (contract : Contract) (call : Call) (calls : ℕ → List Val → Run Val) (n f : ℕ) (func : Func) (args : List Val) (w w2 : World) → slice_get contract.funcs f ≡ Some func →
    Ends shown x (runs_function (program_at contract call) calls n f (Some (function_of func)) args w) w2 → Ends shown x (runs_function (program_at contract call) calls n f (slice_get (program_at contract call).functions f) args w) w2
found shown x contract call calls n f func args w w2 h g =
    let e = there contract call f ∙ ap (λ o. option_map function_of o) h in
    subst (λ (o : Option Function). Ends shown x (runs_function (program_at contract call) calls n f o args w) w2) (sym e) g

pub missing : {R : Type 0} (shown : R → Val) (contract : Contract) (call : Call) (calls : ℕ → List Val → Run Val) (n f : ℕ) (args : List Val) (w : World) → slice_get contract.funcs f ≡ None →
    Ends shown (Err Failed) (runs_function (program_at contract call) calls n f (slice_get (program_at contract call).functions f) args w) w
unfolding Ends
missing shown contract call calls n f args w h =
    let e = there contract call f ∙ ap (λ o. option_map function_of o) h in
    ap (λ (o : Option Function). runs_function (program_at contract call) calls n f o args w) e

-- a call that uses one of the bound
pub used_for : {R : Type 0} (shown : R → Val) (x : Result R Stop) (program : Program) (n f : ℕ) (args : List Val) (old new w : World) → (n ≡ 0 → ⊥) → Ticks true old new →
    Ends shown x (runs_function program (called program (n - 1)) (n - 1) f (slice_get program.functions f) args new) w → Ends shown x (called program n f args old) w
used_for shown x program n f args old new w ne t g =
    let e : n ≡ suc (n - 1) = omega arith in
    let whole = ap (λ (k : ℕ). called program k f args old) e ∙ used (runs_function program (called program (n - 1)) (n - 1) f (slice_get program.functions f) args) old new t in
    subst (λ (r : runs.Result Val). Ends shown x r w) (sym whole) g

-- none of the bound is left
pub none_left : {R : Type 0} (shown : R → Val) (program : Program) (n f : ℕ) (args : List Val) (old new : World) → (n ≡ 0 → ⊥) → Ticks false old new → Ends shown (Err Going) (called program n f args old) new
unfolding Ends
none_left shown program n f args old new ne t =
    let e : n ≡ suc (n - 1) = omega arith in
    ap (λ (k : ℕ). called program k f args old) e ∙ unused (runs_function program (called program (n - 1)) (n - 1) f (slice_get program.functions f) args) old new t

pub over : {R : Type 0} (shown : R → Val) (program : Program) (n f : ℕ) (args : List Val) (w : World) → n ≡ 0 → Ends shown (Err Going) (called program n f args w) w
unfolding Ends
over shown program n f args w h = ap (λ (k : ℕ). called program k f args w) h
