-- The program that is built does what its source says.
use Rattle.std.proofs.Common.{◌≡◌, ◌≢◌, ℕ, ◌+◌, ◌-◌, ◌*◌, ◌^◌, ◌<◌, ◌≤◌, ◌⊎◌, inl, inr, Bool, true, false, not, List, [], ◌∷◌, ◌++◌, length, Option, Some, None, Ok, refl, ap, sym, ◌∙◌, subst, arith}
use Rattle.std.specs.Prelude.{option_map, nat_lt, ◌==◌, if◌then◌else◌}
use Rattle.std.proofs.lemmas.Bool.Decides.{nat_tests}
use Rattle.puya_base.specs.declared.value.Value.{Value}
use Rattle.puya_base.specs.declared.value.Value.TheVariants as value
use Rattle.avm_ops.specs.declared.instr.Instr.{Instr}
use Rattle.avm_ops.specs.Code.{instr_bytes, HasForm}
use Rattle.avm_ops.specs.Table.{row_of, table}
use Rattle.avm_ops.specs.Rows.{shape_of}
use Rattle.avm_state.specs.declared.call.Call.{Call}
use Rattle.avm_state.specs.LedgerState.{LedgerState}
use Rattle.avm_run.specs.declared.state.State.{State}
use Rattle.avm_run.specs.declared.outcome.Outcome.{Outcome}
use Rattle.avm_run.specs.declared.outcome.Outcome.TheVariants.{Approved, Rejected, OverBudget, OverDepth}
use Rattle.avm_run.specs.declared.outcome.Ran.{Ran}
use Rattle.avm_run.specs.Constants.{constant_row}
use Rattle.avm_run.specs.Flow.{way}
use Rattle.avm_run.specs.Machine.{Standing, Code, Act, Next, act, after, effect, fetched, flow_act, goes_on, operand_act, perform, pushed, start, stop, turn}
use Rattle.avm_run.specs.Bytes.{code_of, run_of, standing, standing_of}
use Rattle.avm_run.proofs.Runs.{ending, stepping, ended}
use Rattle.compiler.specs.declared.form.Operator.{Operator}
use Rattle.compiler.specs.declared.form.Operator.TheVariants.{Plus, Times}
use Rattle.compiler.specs.declared.form.Sum.{Sum}
use Rattle.compiler.specs.Programs.{value_of, result_of, opcode, plain, program_of, push, Serves}
use Rattle.compiler.proofs.WellFormed.{Parts, parts, read_at, push_form, op_form, return_form, well_formed}

-- the machine at a place, with so much spent and a stack; all else as at the start
abbrev pub at_place : State → ℕ → ℕ → List Value → State
at_place s pc spent stack = record s { pc = pc; spent = spent; entering = false; stack = stack }

-- at a place where an instruction stands, that one is fetched
pub turn_at : (front rest : List ℕ) (i : Instr) (code : List ℕ) (k : Call) (s : State) → HasForm i → code ≡ front ++ (instr_bytes i ++ rest) → s.pc ≡ length front
    → turn (code_of code) k s ≡ fetched k s (Some (standing_of i (s.pc + length (instr_bytes i))))
unfolding turn
turn_at front rest i code k s form is at = ap (λ r. fetched k s (standing r)) (read_at front rest i code s.pc form is at)

run_step_by : (P : Ran → Type 0) (code : Code) (k : Call) (fuel : ℕ) (s : State) (st : Standing) (b : Bool) → nat_lt k.budget (s.spent + 1) ≡ b → fuel ≡ fuel - 1 + 1
    → turn code k s ≡ (if b then stop OverBudget s.pc s.spent else perform st k s)
    → (k.budget < s.spent + 1 → P (record { outcome = OverBudget; pc = s.pc; spent = s.spent }))
    → (s.spent + 1 ≤ k.budget → P (goes_on code k (fuel - 1) (perform st k s)))
    → P (goes_on code k fuel (Next s))
run_step_by P code k fuel s st true is f t over on = subst P (sym (ending code k s _ fuel (fuel - 1) f t)) (over (grind (arith, nat_tests)))
run_step_by P code k fuel s st false is f t over on =
    subst P (sym (stepping code k s fuel (fuel - 1) f ∙ ap (goes_on code k (fuel - 1)) t)) (on (grind (arith, nat_tests)))

-- a run that stops here for its budget, or goes on
pub run_step : (P : Ran → Type 0) (code : Code) (k : Call) (fuel : ℕ) (s : State) (st : Standing) → s.spent + fuel ≡ k.budget + 1 → s.spent ≤ k.budget → (shape_of st.instr).cost ≡ 1
    → turn code k s ≡ fetched k s (Some st)
    → (k.budget < s.spent + 1 → P (record { outcome = OverBudget; pc = s.pc; spent = s.spent }))
    → (s.spent + 1 ≤ k.budget → P (goes_on code k (fuel - 1) (perform st k s)))
    → P (goes_on code k fuel (Next s))
run_step P code k fuel s st count low cost t over on =
    let same : (if nat_lt k.budget (s.spent + (shape_of st.instr).cost) then stop OverBudget s.pc s.spent else perform st k s) ≡ (if nat_lt k.budget (s.spent + 1) then stop OverBudget s.pc s.spent else perform st k s)
    = ap (λ (c : ℕ). if nat_lt k.budget (s.spent + c) then stop OverBudget s.pc s.spent else perform st k s) cost in
    run_step_by P code k fuel s st (nat_lt k.budget (s.spent + 1)) refl (omega arith) (t ∙ same) over on

pub push_cost : (n : ℕ) → (shape_of (push n)).cost ≡ 1
unfolding row_of table
push_cost n = refl

op_cost : (o : Operator) → (shape_of (plain (opcode o))).cost ≡ 1
unfolding row_of table
op_cost Plus = refl
op_cost Times = refl

pub return_cost : (shape_of (plain 67)).cost ≡ 1
unfolding row_of table
return_cost = refl

pub first_push : (s : State) (k : Call) (a pc next : ℕ) → perform (standing_of (push a) next) k (at_place s pc 0 []) ≡ Next (at_place s next 1 (value.Int a ∷ []))
unfolding row_of table act operand_act effect constant_row
first_push s k a pc next = refl

second_push : (s : State) (k : Call) (a b pc next : ℕ) → perform (standing_of (push b) next) k (at_place s pc 1 (value.Int a ∷ [])) ≡ Next (at_place s next 2 (value.Int a ∷ value.Int b ∷ []))
unfolding row_of table act operand_act effect constant_row
second_push s k a b pc next = refl

-- the operator's result, where it fits
abbrev result_act : State → ℕ → Bool → Act
result_act s v b = pushed (option_map (λ (results : List Value). (s, results)) (option_map (λ n. value.Int n ∷ []) (if b then Some v else None)))

operates : (o : Operator) (s : State) (k : Call) (a b pc next : ℕ)
    → perform (standing_of (plain (opcode o)) next) k (at_place s pc 2 (value.Int a ∷ value.Int b ∷ [])) ≡ after pc 3 (result_act (at_place s next 3 []) (result_of o a b) (nat_lt (result_of o a b) (2 ^ 64)))
unfolding row_of table act operand_act effect
operates Plus s k a b pc next = refl
operates Times s k a b pc next = refl

returns_it : (s : State) (k : Call) (v pc next : ℕ) → perform (standing_of (plain 67) next) k (at_place s pc 3 (value.Int v ∷ [])) ≡ stop (if not (v == 0) then Approved s.ledger else Rejected) pc 4
unfolding row_of table act flow_act way
returns_it s k v pc next = refl

-- what a run of the program may be
pub record Good (v : ℕ) (k : Call) (l : LedgerState) (r : Ran) : Type 0 where
  pub approved : (m : LedgerState) → r.outcome ≡ Approved m → (1 ≤ v) × (v < 2 ^ 64) × (m ≡ l)
  pub rejected : r.outcome ≡ Rejected → (v ≡ 0) ⊎ (2 ^ 64 ≤ v)
  pub over_budget : r.outcome ≡ OverBudget → k.budget < 166
  pub over_depth : r.outcome ≢ OverDepth

good_over : (v : ℕ) (k : Call) (l : LedgerState) (pc spent : ℕ) → k.budget < 166 → Good v k l (record { outcome = OverBudget; pc = pc; spent = spent })
good_over v k l pc spent h = record { approved = λ m e. cc; rejected = λ e. cc; over_budget = λ e. h; over_depth = λ e. cc }

good_too_large : (v : ℕ) (k : Call) (l : LedgerState) (pc spent : ℕ) → 2 ^ 64 ≤ v → Good v k l (record { outcome = Rejected; pc = pc; spent = spent })
good_too_large v k l pc spent h = record { approved = λ m e. cc; rejected = λ e. inr h; over_budget = λ e. cc; over_depth = λ e. cc }

same_ledger : (l m : LedgerState) → Approved l ≡ Approved m → m ≡ l
same_ledger l m e = cc

good_decided : (v : ℕ) (k : Call) (l : LedgerState) (pc spent : ℕ) (b : Bool) → (v == 0) ≡ b → v < 2 ^ 64 → Good v k l (record { outcome = (if not b then Approved l else Rejected); pc = pc; spent = spent })
good_decided v k l pc spent true is h = let zero_is : v ≡ 0 = grind (arith, nat_tests) in record { approved = λ m e. cc; rejected = λ e. inl zero_is; over_budget = λ e. cc; over_depth = λ e. cc }
good_decided v k l pc spent false is h = let low : 1 ≤ v = grind (arith, nat_tests) in record { approved = λ m e. (low, h, same_ledger l m e); rejected = λ e. cc; over_budget = λ e. cc; over_depth = λ e. cc }

-- the last instruction, on one number
last_step : (code front : List ℕ) (k : Call) (s : State) (fuel v pc : ℕ) → code ≡ front ++ (instr_bytes (plain 67) ++ []) → pc ≡ length front → 3 + fuel ≡ k.budget + 1 → 3 ≤ k.budget → v < 2 ^ 64
    → Good v k s.ledger (goes_on (code_of code) k fuel (Next (at_place s pc 3 (value.Int v ∷ []))))
last_step code front k s fuel v pc is at count low small =
    let here = at_place s pc 3 (value.Int v ∷ []) in
    let next = pc + length (instr_bytes (plain 67)) in
    run_step (Good v k s.ledger) (code_of code) k fuel here (standing_of (plain 67) next) count low return_cost (turn_at front [] (plain 67) code k here return_form is at)
    (λ h. good_over v k s.ledger pc 3 (omega arith))
    (λ h. subst (λ t. Good v k s.ledger (goes_on (code_of code) k (fuel - 1) t)) (sym (returns_it s k v pc next))
    (subst (Good v k s.ledger) (sym (ended (code_of code) k (fuel - 1) _)) (good_decided v k s.ledger pc 4 (v == 0) refl small)))

-- the operator, on two numbers
operator_done : (code front : List ℕ) (k : Call) (s : State) (fuel v pc next : ℕ) (b : Bool) → nat_lt v (2 ^ 64) ≡ b → code ≡ front ++ (instr_bytes (plain 67) ++ []) → next ≡ length front → 3 + fuel ≡ k.budget + 1 → 3 ≤ k.budget
    → Good v k s.ledger (goes_on (code_of code) k fuel (after pc 3 (result_act (at_place s next 3 []) v b)))
operator_done code front k s fuel v pc next true is e at count low = last_step code front k s fuel v next e at count low (grind (arith, nat_tests))
operator_done code front k s fuel v pc next false is e at count low = subst (Good v k s.ledger) (sym (ended (code_of code) k fuel _)) (good_too_large v k s.ledger pc 3 (grind (arith, nat_tests)))

-- the whole run
good_at : (o : Operator) (a b : ℕ) (k : Call) (l : LedgerState) (code : List ℕ) → a < 2 ^ 64 → b < 2 ^ 64 → Parts code (push a) (push b) (plain (opcode o)) (plain 67)
    → Good (result_of o a b) k l (run_of code k l)
good_at o a b k l code small_a small_b p =
    let v = result_of o a b in
    let n = k.budget in
    let s = start (code_of code) l in
    let first = instr_bytes (push a) in
    let second = instr_bytes (push b) in
    let third = instr_bytes (plain (opcode o)) in
    let fourth = instr_bytes (plain 67) in
    let pc2 = 1 + length first in
    let pc3 = 1 + length first + length second in
    let pc4 = 1 + length first + length second + length third in
    let one = value.Int a ∷ [] in
    let two = value.Int a ∷ value.Int b ∷ [] in
    run_step (Good v k l) (code_of code) k (n + 1) s (standing_of (push a) pc2) (omega arith) (omega arith) (push_cost a) (turn_at (10 ∷ []) (second ++ (third ++ fourth)) (push a) code k s (push_form a small_a) p.at1 refl)
    (λ h. good_over v k l 1 0 (omega arith))
    (λ h1. subst (λ t. Good v k l (goes_on (code_of code) k (n + 1 - 1) t)) (sym (first_push s k a 1 pc2))
    (run_step (Good v k l) (code_of code) k (n + 1 - 1) (at_place s pc2 1 one) (standing_of (push b) pc3) (omega arith) h1 (push_cost b) (turn_at (10 ∷ first) (third ++ fourth) (push b) code k (at_place s pc2 1 one) (push_form b small_b) p.at2 p.p2)
    (λ h. good_over v k l _ 1 (omega arith))
    (λ h2. subst (λ t. Good v k l (goes_on (code_of code) k (n + 1 - 1 - 1) t)) (sym (second_push s k a b pc2 pc3))
    (run_step (Good v k l) (code_of code) k (n + 1 - 1 - 1) (at_place s pc3 2 two) (standing_of (plain (opcode o)) pc4) (omega arith) h2 (op_cost o) (turn_at ((10 ∷ first) ++ second) fourth (plain (opcode o)) code k (at_place s pc3 2 two) (op_form o) p.at3 p.p3)
    (λ h. good_over v k l _ 2 (omega arith))
    (λ h3. subst (λ t. Good v k l (goes_on (code_of code) k (n + 1 - 1 - 1 - 1) t)) (sym (operates o s k a b pc3 pc4))
    (operator_done code (((10 ∷ first) ++ second) ++ third) k s (n + 1 - 1 - 1 - 1) v pc3 pc4 (nat_lt v (2 ^ 64)) refl p.at4 p.p4 (omega arith) h3))))))

pub serves : (s : Sum) → s.left < 2 ^ 64 → s.right < 2 ^ 64 → Serves s (program_of s)
unfolding program_of
serves s ha hb =
    let good : (k : Call) (l : LedgerState) → Good (value_of s) k l (run_of (program_of s) k l) =
    λ k l. good_at s.operator s.left s.right k l (program_of s) ha hb (parts (program_of s) (push s.left) (push s.right) (plain (opcode s.operator)) (plain 67) refl) in
    record {
      well_formed = well_formed s ha hb;
      approved = λ k l. (good k l).approved;
      rejected = λ k l. (good k l).rejected;
      over_budget = λ k l. (good k l).over_budget;
      over_depth = λ k l. (good k l).over_depth;
    }
