-- The steps on a ledger, each as the new ledger and the answer, or none where it fails
-- (AVM specification, "Opcodes": app_global_get_ex, app_global_put, app_global_del, app_local_get_ex, app_local_put, app_local_del,
-- box_create, box_get, box_put, box_del, box_len, box_extract, box_replace, log).
use Rattle.std.specs.Prelude.{ℕ, ◌+◌, ◌≡◌, Bool, true, false, if◌then◌else◌, ◌&&◌, nat_lt, nat_le, ◌==◌, List, [], ◌∷◌, ◌++◌, length, take, drop, replicate, Option, Some, None, option_map, Result, Ok, Err, ⊤}
use Rattle.std.specs.FinMap as map
use Rattle.puya_base.specs.declared.faults.StepFault.{StepFault}
use Rattle.puya_base.specs.declared.faults.StepFault.TheVariants.{Fails, Memory}
use Rattle.puya_base.specs.declared.value.Value.{Value}
use Rattle.puya_base.specs.declared.value.Value.TheVariants.{Int, Bytes}
use Rattle.avm_state.specs.declared.call.Call.{Call}
use Rattle.avm_state.specs.LedgerState.{LedgerState, BytesMap, has_opted}
use Rattle.avm_state.specs.Calls.{local_account_of, is_box_name, is_box_refused}

-- the most bytes of a key, of a key with the bytes under it, of a box, and of a value on the stack
abbrev pub key_limit : ℕ
key_limit = 64

abbrev pub pair_limit : ℕ
pair_limit = 128

abbrev pub box_limit : ℕ
box_limit = 32768

abbrev pub value_limit : ℕ
value_limit = 4096

-- the most logs of a call, and the most bytes of them together
abbrev pub log_count_limit : ℕ
log_count_limit = 32

abbrev pub log_bytes_limit : ℕ
log_bytes_limit = 1024

-- what a step gives: the ledger after it and its answer, or none where it fails
abbrev pub Step : Type 0 → Type 0
Step A = Option (LedgerState × A)

-- an answer, and the ledger left as it is
abbrev pub answers : {A : Type 0} → LedgerState → A → Step A
answers ledger a = Some (ledger, a)

-- the ledger after it, with nothing to answer
abbrev pub leaves : LedgerState → Step ⊤
leaves ledger = Some (ledger, tt)

-- a step that fails where a test does
abbrev pub where_holds : {A : Type 0} → Bool → Step A → Step A
where_holds test step = if test then step else None

-- a step that fails where there is nothing
abbrev pub where_some : {A B : Type 0} → Option B → (B → Step A) → Step A
where_some None step = None
where_some (Some b) step = step b

-- a key and a value that may stand under it
abbrev pub is_pair_within : List ℕ → Value → Bool
is_pair_within key (Int n) = nat_le (length key) key_limit
is_pair_within key (Bytes b) = nat_le (length key) key_limit && nat_le (length key + length b) pair_limit

abbrev pub with_global : LedgerState → List ℕ → Value → LedgerState
with_global old key value = record old { global = map.insert old.global key value }

abbrev pub without_global : LedgerState → List ℕ → LedgerState
without_global old key = record old { global = map.remove old.global key }

abbrev pub with_local : LedgerState → List ℕ → List ℕ → Value → LedgerState
with_local old account key value = record old { local = map.insert old.local (account, key) value }

abbrev pub without_local : LedgerState → List ℕ → List ℕ → LedgerState
without_local old account key = record old { local = map.remove old.local (account, key) }

abbrev pub with_box : LedgerState → List ℕ → List ℕ → LedgerState
with_box old name bytes = record old { boxes = map.insert old.boxes name bytes }

abbrev pub without_box : LedgerState → List ℕ → LedgerState
without_box old name = record old { boxes = map.remove old.boxes name }

abbrev pub with_opted : LedgerState → List ℕ → LedgerState
with_opted old account = record old { opted = map.insert old.opted account tt }

abbrev pub with_log : LedgerState → List ℕ → LedgerState
with_log old bytes = record old { logs = old.logs ++ bytes ∷ [] }

-- the value, if there is one
abbrev pub global_get_step : LedgerState → List ℕ → Step (Option Value)
global_get_step old key = answers old (map.get old.global key)

-- sets it; fails past the limits of a key and of a pair
abbrev pub global_put_step : LedgerState → List ℕ → Value → Step ⊤
global_put_step old key value = where_holds (is_pair_within key value) (leaves (with_global old key value))

-- removes it, where there is one
abbrev pub global_del_step : LedgerState → List ℕ → Step ⊤
global_del_step old key = leaves (without_global old key)

-- the account's value, if there is one; fails where no opted account is named
abbrev pub local_get_step : Call → LedgerState → Value → List ℕ → Step (Option Value)
local_get_step call old who key = where_some (local_account_of call old who) (λ account. answers old (map.get old.local (account, key)))

-- sets it; fails where no opted account is named, or past the limits of a pair
abbrev pub local_put_step : Call → LedgerState → Value → List ℕ → Value → Step ⊤
local_put_step call old who key value = where_some (local_account_of call old who) (λ account. where_holds (is_pair_within key value) (leaves (with_local old account key value)))

-- removes it, where there is one; fails where no opted account is named
abbrev pub local_del_step : Call → LedgerState → Value → List ℕ → Step ⊤
local_del_step call old who key = where_some (local_account_of call old who) (λ account. leaves (without_local old account key))

-- a step on a box, which fails where the name is refused
abbrev pub on_box : {A : Type 0} → Call → List ℕ → Step A → Step A
on_box call name step = if is_box_refused call name then None else step

-- makes the box where there is none; where there is one its length must be the size
abbrev pub created : LedgerState → List ℕ → ℕ → Option (List ℕ) → Step Bool
created old name size None = Some (with_box old name (replicate size 0), true)
created old name size (Some bytes) = where_holds (length bytes == size) (answers old false)

-- true where it was made, filled with zeros, false where it was there
abbrev pub box_create_step : Call → LedgerState → List ℕ → ℕ → Step Bool
box_create_step call old name size = on_box call name (where_holds (nat_le size box_limit) (created old name size (map.get old.boxes name)))

-- the bytes, which must fit the stack
abbrev pub gotten : LedgerState → Option (List ℕ) → Step (Option (List ℕ))
gotten old None = answers old None
gotten old (Some bytes) = where_holds (nat_le (length bytes) value_limit) (answers old (Some bytes))

-- the bytes, if the box is there
abbrev pub box_get_step : Call → LedgerState → List ℕ → Step (Option (List ℕ))
box_get_step call old name = on_box call name (gotten old (map.get old.boxes name))

-- there is no box, or one of that length
abbrev pub has_length_if_there : Option (List ℕ) → ℕ → Bool
has_length_if_there None size = true
has_length_if_there (Some bytes) size = length bytes == size

-- makes the box, or sets one of the same length
abbrev pub box_put_step : Call → LedgerState → List ℕ → List ℕ → Step ⊤
box_put_step call old name bytes = on_box call name (where_holds (has_length_if_there (map.get old.boxes name) (length bytes)) (leaves (with_box old name bytes)))

-- removes the box; whether it was there
abbrev pub box_del_step : Call → LedgerState → List ℕ → Step Bool
box_del_step call old name = on_box call name (Some (without_box old name, map.contains_key old.boxes name))

-- the length in bytes, if the box is there
abbrev pub box_len_step : Call → LedgerState → List ℕ → Step (Option ℕ)
box_len_step call old name = on_box call name (answers old (option_map length (map.get old.boxes name)))

-- the len bytes from start on, which must stand within the box and fit the stack
abbrev pub extracted : LedgerState → ℕ → ℕ → List ℕ → Step (List ℕ)
extracted old start len bytes = where_holds (nat_le (start + len) (length bytes) && nat_le len value_limit) (answers old (take len (drop start bytes)))

-- a part of a box that is there
abbrev pub box_extract_step : Call → LedgerState → List ℕ → ℕ → ℕ → Step (List ℕ)
box_extract_step call old name start len = on_box call name (where_some (map.get old.boxes name) (extracted old start len))

-- the bytes with a part written over those from start on
abbrev pub overwritten : List ℕ → ℕ → List ℕ → List ℕ
overwritten bytes start part = take start bytes ++ part ++ drop (start + length part) bytes

-- whether the part stands within the bytes from start on
abbrev pub is_part_within : List ℕ → ℕ → List ℕ → Bool
is_part_within bytes start part = nat_le (start + length part) (length bytes)

-- the part, which must stand within the box, written over it
abbrev pub replaced : LedgerState → List ℕ → ℕ → List ℕ → List ℕ → Step ⊤
replaced old name start part bytes = where_holds (is_part_within bytes start part) (leaves (with_box old name (overwritten bytes start part)))

-- overwrites a part of a box that is there
abbrev pub box_replace_step : Call → LedgerState → List ℕ → ℕ → List ℕ → Step ⊤
box_replace_step call old name start part = on_box call name (where_some (map.get old.boxes name) (replaced old name start part))

-- the bytes of all of them together
abbrev pub total_length : List (List ℕ) → ℕ
total_length [] = 0
total_length (item ∷ list) = length item + total_length list

-- there is room for one more log of that length
abbrev pub has_log_room : List (List ℕ) → ℕ → Bool
has_log_room logs size = nat_lt (length logs) log_count_limit && nat_le (total_length logs + size) log_bytes_limit

-- appends a log; fails past 32 logs and past 1024 bytes of them together
abbrev pub add_log_step : LedgerState → List ℕ → Step ⊤
add_log_step old bytes = where_holds (has_log_room old.logs (length bytes)) (leaves (with_log old bytes))

-- sets an account's local value without a call: fails where it has not opted in, or past the limits of a pair
abbrev pub set_local_step : LedgerState → List ℕ → List ℕ → Value → Step ⊤
set_local_step old account key value = where_holds (has_opted old account && is_pair_within key value) (leaves (with_local old account key value))

-- makes or sets a box without a call: fails where the name is empty or too long, or the box too large
abbrev pub set_box_step : LedgerState → List ℕ → List ℕ → Step ⊤
set_box_step old name bytes = where_holds (is_box_name name && nat_le (length bytes) box_limit) (leaves (with_box old name bytes))

-- what a call of a step answers and leaves: what is due; Fails exactly where nothing is due; and nothing changed on Fails and on Memory
abbrev pub Steps : {A : Type 0} → Step A → LedgerState → LedgerState → Result A StepFault → Type 0
Steps due old new (Ok answer) = due ≡ Some (new, answer)
Steps due old new (Err Fails) = (due ≡ None) × (new ≡ old)
Steps due old new (Err Memory) = new ≡ old

-- the same of a step that takes no memory: it never answers Memory
abbrev pub StepsInPlace : {A : Type 0} → Step A → LedgerState → LedgerState → Result A StepFault → Type 0
StepsInPlace due old new (Ok answer) = due ≡ Some (new, answer)
StepsInPlace due old new (Err Fails) = (due ≡ None) × (new ≡ old)
StepsInPlace due old new (Err Memory) = ⊥

-- the same of a step that only reads
abbrev pub Reads : {A : Type 0} → Step A → LedgerState → Result A StepFault → Type 0
Reads due now = Steps due now now

abbrev pub ReadsInPlace : {A : Type 0} → Step A → LedgerState → Result A StepFault → Type 0
ReadsInPlace due now = StepsInPlace due now now

-- writes the part over the bytes where it stands within them, and else nothing
abbrev pub WritesPart : List ℕ → List ℕ → ℕ → List ℕ → Bool → Type 0
WritesPart old new start part true = (is_part_within old start part ≡ true) × (new ≡ overwritten old start part)
WritesPart old new start part false = (is_part_within old start part ≡ false) × (new ≡ old)

-- the same of the bytes that stand under a key; writes nothing where there are none
abbrev pub Overwrites : BytesMap (List ℕ) → BytesMap (List ℕ) → List ℕ → ℕ → List ℕ → Option (List ℕ) → Bool → Type 0
Overwrites old new key start part None true = ⊥
Overwrites old new key start part None false = new ≡ old
Overwrites old new key start part (Some bytes) true = (is_part_within bytes start part ≡ true) × (new ≡ map.insert old key (overwritten bytes start part))
Overwrites old new key start part (Some bytes) false = (is_part_within bytes start part ≡ false) × (new ≡ old)
