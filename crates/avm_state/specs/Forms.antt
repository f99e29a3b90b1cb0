-- Calls and ledgers in form (AVM specification, "Execution Environment for Smart Contracts"; consensus parameters of application calls).
use Rattle.std.specs.Prelude.{ℕ, ◌≡◌, ◌≤◌, ◌≢◌, true, List, [], length, Some, IsTrue}
use Rattle.std.specs.List.{All}
use Rattle.std.specs.FinMap as map
use Rattle.puya_base.specs.declared.value.Value.{Value}
use Rattle.avm_state.specs.declared.call.Call.{Call}
use Rattle.avm_state.specs.LedgerState.{LedgerState, has_opted}
use Rattle.avm_state.specs.Calls.{is_box_name, clear_state}
use Rattle.avm_state.specs.Steps.{is_pair_within, box_limit, total_length}

-- an address has 32 bytes
abbrev pub IsAddress : List ℕ → Type 0
IsAddress bytes = length bytes ≡ 32

-- a call that the network accepts
pub record IsCallInForm (call : Call) : Type 0 where
  pub application : 1 ≤ call.application
  pub completion : call.on_completion ≤ 5
  pub creation : call.creating ≡ true → call.on_completion ≢ clear_state
  pub sender : IsAddress call.sender
  pub creator : IsAddress call.creator
  pub arg_count : length call.args ≤ 16
  pub arg_bytes : total_length call.args ≤ 2048
  pub note : length call.note ≤ 1024
  pub account_count : length call.accounts ≤ 4
  pub accounts : All IsAddress call.accounts
  pub box_count : length call.boxes ≤ 8
  pub boxes : All (λ name. IsTrue (is_box_name name)) call.boxes
  pub some_budget : 1 ≤ call.budget
  pub most_budget : call.budget ≤ 11200

-- a ledger that the steps keep within their limits
pub record IsLedgerInForm (ledger : LedgerState) : Type 0 where
  pub global : (key : List ℕ) (value : Value) → map.get ledger.global key ≡ Some value → IsTrue (is_pair_within key value)
  pub local : (account key : List ℕ) (value : Value) → map.get ledger.local (account, key) ≡ Some value → IsTrue (is_pair_within key value)
  pub opted : (account key : List ℕ) (value : Value) → map.get ledger.local (account, key) ≡ Some value → IsTrue (has_opted ledger account)
  pub box_names : (name bytes : List ℕ) → map.get ledger.boxes name ≡ Some bytes → IsTrue (is_box_name name)
  pub box_sizes : (name bytes : List ℕ) → map.get ledger.boxes name ≡ Some bytes → length bytes ≤ box_limit

-- a ledger before a call: in form, and nothing logged
pub record IsStarting (ledger : LedgerState) : Type 0 where
  pub in_form : IsLedgerInForm ledger
  pub no_logs : ledger.logs ≡ []
