-- What a call lets its steps name (AVM specification, "Resource availability": accounts by offset or address, boxes by name).
use Rattle.std.specs.Prelude.{ℕ, zero, suc, Bool, if◌then◌else◌, ◌&&◌, ◌||◌, not, nat_lt, nat_le, List, length, slice_get, Option, Some, None, bytes_eq, ◌==◌}
use Rattle.std.specs.List.{list_any}
use Rattle.puya_base.specs.declared.value.Value.{Value}
use Rattle.puya_base.specs.declared.value.Value.TheVariants.{Int, Bytes}
use Rattle.avm_state.specs.declared.call.Call.{Call}
use Rattle.avm_state.specs.LedgerState.{LedgerState, has_opted}

-- the bytes are one of the list
abbrev pub is_listed : List (List ℕ) → List ℕ → Bool
is_listed list bytes = list_any (λ b. bytes_eq b bytes) list

-- an address: 32 bytes that are the sender's or a listed account's
abbrev pub is_account : Call → List ℕ → Bool
is_account call bytes = (length bytes == 32) && (bytes_eq call.sender bytes || is_listed call.accounts bytes)

-- the account that a value names: 0 is the sender, i the i-th listed account from 1, bytes are an address
abbrev pub account_of : Call → Value → Option (List ℕ)
account_of call (Int zero) = Some call.sender
account_of call (Int (suc i)) = slice_get call.accounts i
account_of call (Bytes b) = if is_account call b then Some b else None

-- the same where it has opted in
abbrev pub opted_in : LedgerState → Option (List ℕ) → Option (List ℕ)
opted_in ledger None = None
opted_in ledger (Some account) = if has_opted ledger account then Some account else None

-- the account whose local state a step may touch
abbrev pub local_account_of : Call → LedgerState → Value → Option (List ℕ)
local_account_of call ledger who = opted_in ledger (account_of call who)

-- a box name: 1 to 64 bytes
abbrev pub is_box_name : List ℕ → Bool
is_box_name name = nat_lt 0 (length name) && nat_le (length name) 64

-- the clear state program's number, which may touch no box
abbrev pub clear_state : ℕ
clear_state = 3

-- the name is empty, too long or not listed, or the call runs a clear state program
abbrev pub is_box_refused : Call → List ℕ → Bool
is_box_refused call name = not (is_box_name name) || not (is_listed call.boxes name) || (call.on_completion == clear_state)
