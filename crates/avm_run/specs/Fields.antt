-- Rows that push a field (AVM specification, "Transaction Fields" and "Global Fields"); none where a row fails.
use Rattle.std.specs.Prelude.{ℕ, ◌==◌, Bool, if◌then◌else◌, List, [], ◌∷◌, length, replicate, slice_get, Option, Some, None, option_map}
use Rattle.puya_base.specs.declared.value.Value.{Value}
use Rattle.puya_base.specs.declared.value.Value.TheVariants.{Int, Bytes}
use Rattle.avm_ops.specs.declared.instr.Imm.{Imm}
use Rattle.avm_ops.specs.declared.instr.Imm.TheVariants as imm
use Rattle.avm_ops.specs.declared.rows.FieldRow.{FieldRow}
use Rattle.avm_ops.specs.declared.rows.FieldRow.TheVariants.{Txn, Global, Txna, Txnas}
use Rattle.avm_state.specs.declared.call.Call.{Call}

-- Sender 0, Fee 1, Note 5, ApplicationID 24, which is 0 in a creating call, OnCompletion 25, NumAppArgs 27
abbrev pub transaction_field : Call → ℕ → Option Value
transaction_field call f =
    if f == 0 then Some (Bytes call.sender) else
    (if f == 1 then Some (Int call.fee) else
    (if f == 5 then Some (Bytes call.note) else
    (if f == 24 then Some (Int (if call.creating then 0 else call.application)) else
    (if f == 25 then Some (Int call.on_completion) else
    (if f == 27 then Some (Int (length call.args)) else None)))))

-- ZeroAddress 3, Round 6, LatestTimestamp 7, CurrentApplicationID 8, CreatorAddress 9
abbrev pub global_field : Call → ℕ → Option Value
global_field call f =
    if f == 3 then Some (Bytes (replicate 32 0)) else
    (if f == 6 then Some (Int call.round) else
    (if f == 7 then Some (Int call.timestamp) else
    (if f == 8 then Some (Int call.application) else
    (if f == 9 then Some (Bytes call.creator) else None))))

-- ApplicationArgs 26: one argument; fails past the last
abbrev pub array_field : Call → ℕ → ℕ → Option Value
array_field call f i = if f == 26 then option_map Bytes (slice_get call.args i) else None

-- what a row pushes; `txnas` takes the index from the stack
unfoldable pub field : FieldRow → Imm → Call → List Value → Option Value
field Txn (imm.Byte f) call [] = transaction_field call f
field Global (imm.Byte f) call [] = global_field call f
field Txna (imm.Two f i) call [] = array_field call f i
field Txnas (imm.Byte f) call (Int i ∷ []) = array_field call f i
field _ _ call _ = None
