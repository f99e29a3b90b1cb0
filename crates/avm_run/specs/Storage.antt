-- Rows that read and change the ledger (AVM specification, "State Access" and "Box Access"), by the ledger's steps; none where a row fails.
use Rattle.std.specs.Prelude.{ℕ, ◌==◌, ◌||◌, Bool, true, false, if◌then◌else◌, List, [], ◌∷◌, length, Option, Some, None, option_map, ⊤}
use Rattle.puya_base.specs.declared.value.Value.{Value}
use Rattle.puya_base.specs.declared.value.Value.TheVariants.{Int, Bytes}
use Rattle.avm_ops.specs.declared.rows.StateRow.{StateRow}
use Rattle.avm_ops.specs.declared.rows.StateRow.TheVariants.{LocalGet, LocalGetEx, LocalPut, LocalDel, GlobalGet, GlobalGetEx, GlobalPut, GlobalDel, BoxCreate, BoxExtract, BoxReplace, BoxDel, BoxLen, BoxGet, BoxPut, Log}
use Rattle.avm_state.specs.declared.call.Call.{Call}
use Rattle.avm_state.specs.LedgerState.{LedgerState}
use Rattle.avm_state.specs.Steps.{Step, global_get_step, global_put_step, global_del_step, local_get_step, local_put_step, local_del_step, box_create_step, box_get_step, box_put_step, box_del_step, box_len_step, box_extract_step, box_replace_step, add_log_step}

-- the ledger after a row, and what it pushes
abbrev pub Stored : Type 0
Stored = Option (LedgerState × List Value)

-- a step's answer as values
abbrev pub pushing : {A : Type 0} → (A → List Value) → Step A → Stored
pushing f None = None
pushing f (Some p) = Some (p.0, f p.1)

abbrev pub nothing : ⊤ → List Value
nothing u = []

-- 1 or 0
abbrev pub truth : Bool → Value
truth true = Int 1
truth false = Int 0

abbrev pub as_flag : Bool → List Value
as_flag b = truth b ∷ []

-- an absent value reads as the number 0
abbrev pub or_zero : Option Value → List Value
or_zero None = Int 0 ∷ []
or_zero (Some v) = v ∷ []

-- a value and 1, or 0 and 0
abbrev pub and_flag : Option Value → List Value
and_flag None = Int 0 ∷ Int 0 ∷ []
and_flag (Some v) = v ∷ Int 1 ∷ []

-- bytes and 1, or no bytes and 0
abbrev pub bytes_and_flag : Option (List ℕ) → List Value
bytes_and_flag None = Bytes [] ∷ Int 0 ∷ []
bytes_and_flag (Some b) = Bytes b ∷ Int 1 ∷ []

-- a length and 1, or 0 and 0
abbrev pub length_and_flag : Option ℕ → List Value
length_and_flag None = Int 0 ∷ Int 0 ∷ []
length_and_flag (Some n) = Int n ∷ Int 1 ∷ []

abbrev pub one_bytes : List ℕ → List Value
one_bytes b = Bytes b ∷ []

-- the number names the application that is called: it is 0 or its own
abbrev pub is_current : Call → ℕ → Bool
is_current call app = (app == 0) || (app == call.application)

abbrev pub where_current : Call → ℕ → Stored → Stored
where_current call app step = if is_current call app then step else None

-- rows of the local state
unfoldable pub local_row : StateRow → Call → LedgerState → List Value → Stored
local_row LocalGet call ledger (who ∷ Bytes key ∷ []) = pushing or_zero (local_get_step call ledger who key)
local_row LocalGetEx call ledger (who ∷ Int app ∷ Bytes key ∷ []) = where_current call app (pushing and_flag (local_get_step call ledger who key))
local_row LocalPut call ledger (who ∷ Bytes key ∷ value ∷ []) = pushing nothing (local_put_step call ledger who key value)
local_row LocalDel call ledger (who ∷ Bytes key ∷ []) = pushing nothing (local_del_step call ledger who key)
local_row _ call ledger _ = None

-- rows of the global state
unfoldable pub global_row : StateRow → Call → LedgerState → List Value → Stored
global_row GlobalGet call ledger (Bytes key ∷ []) = pushing or_zero (global_get_step ledger key)
global_row GlobalGetEx call ledger (Int app ∷ Bytes key ∷ []) = where_current call app (pushing and_flag (global_get_step ledger key))
global_row GlobalPut call ledger (Bytes key ∷ value ∷ []) = pushing nothing (global_put_step ledger key value)
global_row GlobalDel call ledger (Bytes key ∷ []) = pushing nothing (global_del_step ledger key)
global_row _ call ledger _ = None

-- rows that make, remove or measure a box
unfoldable pub place_row : StateRow → Call → LedgerState → List Value → Stored
place_row BoxCreate call ledger (Bytes name ∷ Int size ∷ []) = pushing as_flag (box_create_step call ledger name size)
place_row BoxDel call ledger (Bytes name ∷ []) = pushing as_flag (box_del_step call ledger name)
place_row BoxLen call ledger (Bytes name ∷ []) = pushing length_and_flag (box_len_step call ledger name)
place_row _ call ledger _ = None

-- rows that read or write the bytes of a box
unfoldable pub content_row : StateRow → Call → LedgerState → List Value → Stored
content_row BoxExtract call ledger (Bytes name ∷ Int start ∷ Int size ∷ []) = pushing one_bytes (box_extract_step call ledger name start size)
content_row BoxReplace call ledger (Bytes name ∷ Int start ∷ Bytes part ∷ []) = pushing nothing (box_replace_step call ledger name start part)
content_row BoxGet call ledger (Bytes name ∷ []) = pushing bytes_and_flag (box_get_step call ledger name)
content_row BoxPut call ledger (Bytes name ∷ Bytes value ∷ []) = pushing nothing (box_put_step call ledger name value)
content_row _ call ledger _ = None

unfoldable pub log_row : LedgerState → List Value → Stored
log_row ledger (Bytes bytes ∷ []) = pushing nothing (add_log_step ledger bytes)
log_row ledger _ = None

-- the ledger after a row on its operands, the deepest first, and what it pushes
unfoldable pub storage_row : StateRow → Call → LedgerState → List Value → Stored
storage_row LocalGet call ledger vs = local_row LocalGet call ledger vs
storage_row LocalGetEx call ledger vs = local_row LocalGetEx call ledger vs
storage_row LocalPut call ledger vs = local_row LocalPut call ledger vs
storage_row LocalDel call ledger vs = local_row LocalDel call ledger vs
storage_row GlobalGet call ledger vs = global_row GlobalGet call ledger vs
storage_row GlobalGetEx call ledger vs = global_row GlobalGetEx call ledger vs
storage_row GlobalPut call ledger vs = global_row GlobalPut call ledger vs
storage_row GlobalDel call ledger vs = global_row GlobalDel call ledger vs
storage_row BoxCreate call ledger vs = place_row BoxCreate call ledger vs
storage_row BoxDel call ledger vs = place_row BoxDel call ledger vs
storage_row BoxLen call ledger vs = place_row BoxLen call ledger vs
storage_row BoxExtract call ledger vs = content_row BoxExtract call ledger vs
storage_row BoxReplace call ledger vs = content_row BoxReplace call ledger vs
storage_row BoxGet call ledger vs = content_row BoxGet call ledger vs
storage_row BoxPut call ledger vs = content_row BoxPut call ledger vs
storage_row Log call ledger vs = log_row ledger vs
