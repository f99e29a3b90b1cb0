-- The clear state program does what its source says.
use Rattle.std.proofs.Common.{◌≡◌, ◌≢◌, ℕ, Bool, true, false, ◌+◌, ◌-◌, ◌^◌, ◌<◌, ◌≤◌, List, [], ◌∷◌, ◌++◌, length, Ok, refl, ap, sym, ◌∙◌, subst, arith}
use Rattle.std.specs.Prelude.{◌==◌, if◌then◌else◌}
use Rattle.std.proofs.lemmas.List.{append-nil}
use Rattle.puya_base.specs.declared.value.Value.{Value}
use Rattle.puya_base.specs.declared.value.Value.TheVariants as value
use Rattle.avm_ops.specs.Code.{instr_bytes}
use Rattle.avm_ops.specs.Table.{row_of, table}
use Rattle.avm_ops.specs.Varint.{number_bytes}
use Rattle.avm_state.specs.declared.call.Call.{Call}
use Rattle.avm_state.specs.LedgerState.{LedgerState}
use Rattle.avm_run.specs.declared.state.State.{State}
use Rattle.avm_run.specs.declared.outcome.Outcome.TheVariants.{Approved, Rejected, OverBudget, OverDepth}
use Rattle.avm_run.specs.declared.outcome.Ran.{Ran}
use Rattle.avm_run.specs.Constants.{constant_row}
use Rattle.avm_run.specs.Flow.{way}
use Rattle.avm_run.specs.Form.{IsWellFormed, checked, outline}
use Rattle.avm_run.specs.Machine.{Next, act, effect, flow_act, goes_on, operand_act, perform, start, stop}
use Rattle.avm_run.specs.Bytes.{code_of, run_of, standing_of}
use Rattle.avm_run.proofs.Runs.{ended}
use Rattle.compiler.specs.declared.form.Sum.{Sum}
use Rattle.compiler.specs.Programs.{plain, clear_program, program_of, push, IsClear}
use Rattle.compiler.proofs.WellFormed.{push_form, return_form, well_formed}
use Rattle.compiler.proofs.Serving.{at_place, turn_at, run_step, push_cost, return_cost, first_push}

returns_one : (s : State) (k : Call) (pc next : ℕ) → perform (standing_of (plain 67) next) k (at_place s pc 1 (value.Int 1 ∷ [])) ≡ stop (Approved s.ledger) pc 2
unfolding row_of table act flow_act way
returns_one s k pc next = refl

-- what a run of the program may be
record Clears (k : Call) (l : LedgerState) (r : Ran) : Type 0 where
  pub approved : (m : LedgerState) → r.outcome ≡ Approved m → m ≡ l
  pub rejected : r.outcome ≢ Rejected
  pub over_budget : r.outcome ≡ OverBudget → k.budget < 142
  pub over_depth : r.outcome ≢ OverDepth

clears_over : (k : Call) (l : LedgerState) (pc spent : ℕ) → k.budget < 142 → Clears k l (record { outcome = OverBudget; pc = pc; spent = spent })
clears_over k l pc spent h = record { approved = λ m e. cc; rejected = λ e. cc; over_budget = λ e. h; over_depth = λ e. cc }

same_ledger : (l m : LedgerState) → Approved l ≡ Approved m → m ≡ l
same_ledger l m e = cc

clears_done : (k : Call) (l : LedgerState) (pc spent : ℕ) → Clears k l (record { outcome = Approved l; pc = pc; spent = spent })
clears_done k l pc spent = record { approved = λ m e. same_ledger l m e; rejected = λ e. cc; over_budget = λ e. cc; over_depth = λ e. cc }

-- the whole run
clears_at : (k : Call) (l : LedgerState) (code : List ℕ) → code ≡ 10 ∷ (instr_bytes (push 1) ++ instr_bytes (plain 67)) → Clears k l (run_of code k l)
clears_at k l code is =
    let n = k.budget in
    let s = start (code_of code) l in
    let first = instr_bytes (push 1) in
    let last = instr_bytes (plain 67) in
    let pc2 = 1 + length first in
    let one = value.Int 1 ∷ [] in
    let at2 : code ≡ (10 ∷ first) ++ (last ++ []) = is ∙ ap (λ (t : List ℕ). (10 ∷ first) ++ t) (sym (append-nil last)) in
    let low : 1 < 2 ^ 64 = omega arith in
    run_step (Clears k l) (code_of code) k (n + 1) s (standing_of (push 1) pc2) (omega arith) (omega arith) (push_cost 1) (turn_at (10 ∷ []) last (push 1) code k s (push_form 1 low) is refl)
    (λ h. clears_over k l 1 0 (omega arith))
    (λ h1. subst (λ t. Clears k l (goes_on (code_of code) k (n + 1 - 1) t)) (sym (first_push s k 1 1 pc2))
    (run_step (Clears k l) (code_of code) k (n + 1 - 1) (at_place s pc2 1 one) (standing_of (plain 67) (pc2 + length last)) (omega arith) h1 return_cost (turn_at (10 ∷ first) [] (plain 67) code k (at_place s pc2 1 one) return_form at2 (omega arith))
    (λ h. clears_over k l _ 1 (omega arith))
    (λ h2. subst (λ t. Clears k l (goes_on (code_of code) k (n + 1 - 1 - 1) t)) (sym (returns_one s k pc2 (pc2 + length last)))
    (subst (Clears k l) (sym (ended (code_of code) k (n + 1 - 1 - 1) _)) (clears_done k l pc2 2)))))

pub clear_form : IsWellFormed clear_program
unfolding clear_program checked outline number_bytes row_of table
clear_form = refl

pub clears : IsClear clear_program
unfolding clear_program
clears =
    let good : (k : Call) (l : LedgerState) → Clears k l (run_of clear_program k l) = λ k l. clears_at k l clear_program refl in
    record {
      well_formed = clear_form;
      approved = λ k l. (good k l).approved;
      rejected = λ k l. (good k l).rejected;
      over_budget = λ k l. (good k l).over_budget;
      over_depth = λ k l. (good k l).over_depth;
    }
