-- The programs of the one form of source, and what they do.
use Rattle.std.specs.Prelude.{◌≡◌, ℕ, ◌+◌, ◌*◌, ◌^◌, ◌<◌, ◌≤◌, ◌⊎◌, ◌≢◌, List, ◌∷◌, ◌++◌}
use Rattle.avm_ops.specs.declared.instr.Instr.{Instr}
use Rattle.avm_ops.specs.declared.instr.Imm.TheVariants as imm
use Rattle.avm_ops.specs.Code.{instr_bytes}
use Rattle.avm_state.specs.declared.call.Call.{Call}
use Rattle.avm_state.specs.LedgerState.{LedgerState}
use Rattle.avm_run.specs.declared.outcome.Outcome.TheVariants.{Approved, Rejected, OverBudget, OverDepth}
use Rattle.avm_run.specs.Bytes.{run_of}
use Rattle.avm_run.specs.Form.{IsWellFormed}
use Rattle.compiler.specs.declared.form.Operator.{Operator}
use Rattle.compiler.specs.declared.form.Operator.TheVariants.{Plus, Times}
use Rattle.compiler.specs.declared.form.Sum.{Sum}

abbrev pub result_of : Operator → ℕ → ℕ → ℕ
result_of Plus a b = a + b
result_of Times a b = a * b

abbrev pub value_of : Sum → ℕ
value_of s = result_of s.operator s.left s.right

abbrev pub opcode : Operator → ℕ
opcode Plus = 8
opcode Times = 11

-- an instruction without immediates
abbrev pub plain : ℕ → Instr
plain op = record { op = op; imm = imm.Nothing }

-- `pushint`
abbrev pub push : ℕ → Instr
push n = record { op = 129; imm = imm.Int n }

-- version 10: push both numbers, operate, return
unfoldable pub program_of : Sum → List ℕ
program_of s = 10 ∷ (instr_bytes (push s.left) ++ (instr_bytes (push s.right) ++ (instr_bytes (plain (opcode s.operator)) ++ instr_bytes (plain 67))))

-- a well-formed program that does what the source says, in every call, on every ledger, and at every budget; it changes nothing
pub record Serves (s : Sum) (program : List ℕ) : Type 0 where
  pub well_formed : IsWellFormed program
  pub approved : (k : Call) (l m : LedgerState) → (run_of program k l).outcome ≡ Approved m → (1 ≤ value_of s) × (value_of s < 2 ^ 64) × (m ≡ l)
  pub rejected : (k : Call) (l : LedgerState) → (run_of program k l).outcome ≡ Rejected → (value_of s ≡ 0) ⊎ (2 ^ 64 ≤ value_of s)
  pub over_budget : (k : Call) (l : LedgerState) → (run_of program k l).outcome ≡ OverBudget → k.budget < 166
  pub over_depth : (k : Call) (l : LedgerState) → (run_of program k l).outcome ≢ OverDepth

-- version 10: push 1, return
unfoldable pub clear_program : List ℕ
clear_program = 10 ∷ (instr_bytes (push 1) ++ instr_bytes (plain 67))

-- a well-formed program that does what a clear state program says that gives 1: it approves and changes nothing
pub record IsClear (program : List ℕ) : Type 0 where
  pub well_formed : IsWellFormed program
  pub approved : (k : Call) (l m : LedgerState) → (run_of program k l).outcome ≡ Approved m → m ≡ l
  pub rejected : (k : Call) (l : LedgerState) → (run_of program k l).outcome ≢ Rejected
  pub over_budget : (k : Call) (l : LedgerState) → (run_of program k l).outcome ≡ OverBudget → k.budget < 142
  pub over_depth : (k : Call) (l : LedgerState) → (run_of program k l).outcome ≢ OverDepth
