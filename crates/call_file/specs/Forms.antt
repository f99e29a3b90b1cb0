-- What the value of a field stands for (JSON: RFC 8259; bytes in hexadecimal: RFC 4648, section 8, in either case; the limits: the consensus parameters of application calls).
-- Each form is the thing that a value stands for, or none where the value is of no such form.
use Rattle.std.specs.Prelude.{ℕ, Bool, if◌then◌else◌, ◌&&◌, ◌==◌, not, nat_le, List, [], ◌∷◌, length, Option, Some, None, option_map, option_and_then}
use Rattle.std.specs.Result.{result_ok}
use Rattle.std.specs.Option.{option_or}
use Rattle.hex.specs.Hex.{decode_of}
use Rattle.serde_json.specs.Data.{Data, Items, no_items, item}
use Rattle.serde_json.specs.Find.{as_str, as_number, as_u64, as_array}
use Rattle.puya_base.specs.declared.value.Value.{Value}
use Rattle.puya_base.specs.declared.value.Value.TheVariants.{Int, Bytes}
use Rattle.avm_state.specs.Calls.{clear_state}
use Rattle.avm_state.specs.Steps.{total_length}

-- a thing that meets a test
abbrev pub kept : {A : Type 0} → (A → Bool) → Option A → Option A
kept test None = None
kept test (Some a) = if test a then Some a else None

-- a whole number from 0 to 2^64-1
abbrev pub number : Data → Option ℕ
number d = option_and_then as_u64 (as_number d)

-- one from 1
abbrev pub from_one : Data → Option ℕ
from_one d = kept (nat_le 1) (number d)

-- one from low to high
abbrev pub number_within : ℕ → ℕ → Data → Option ℕ
number_within low high d = kept (λ n. nat_le low n && nat_le n high) (number d)

-- an on-completion number, which is no clear state where the call creates
abbrev pub completion : Bool → Data → Option ℕ
completion creating d = kept (λ n. not (creating && (n == clear_state))) (number_within 0 5 d)

-- the bytes of a text of hexadecimal digits
abbrev pub hex_bytes : List ℕ → Option (List ℕ)
hex_bytes text = result_ok (decode_of text)

-- from low to high of them
abbrev pub within_bytes : ℕ → ℕ → List ℕ → Bool
within_bytes low high bytes = nat_le low (length bytes) && nat_le (length bytes) high

-- from low to high bytes
abbrev pub bytes_within : ℕ → ℕ → Data → Option (List ℕ)
bytes_within low high d = kept (within_bytes low high) (option_and_then hex_bytes (as_str d))

abbrev pub list_of : Items → List Data
list_of no_items = []
list_of (item d ds) = d ∷ list_of ds

-- the items of a list of at most so many
abbrev pub items_within : ℕ → Data → Option (List Data)
items_within most d = kept (λ ds. nat_le (length ds) most) (option_map list_of (as_array d))

-- one thing before others
abbrev pub before : {A : Type 0} → Option (List A) → A → Option (List A)
before rest a = option_map (λ others. a ∷ others) rest

-- what each of them stands for, where each stands for something
abbrev pub each : {A : Type 0} → (Data → Option A) → List Data → Option (List A)
each reads [] = Some []
each reads (d ∷ ds) = option_and_then (before (each reads ds)) (reads d)

-- a list of at most so many, of one form
abbrev pub list_within : {A : Type 0} → ℕ → (Data → Option A) → Data → Option (List A)
list_within most reads d = option_and_then (each reads) (items_within most d)

-- at most 16 arguments, of at most 2048 bytes together
abbrev pub arguments : Data → Option (List (List ℕ))
arguments d = kept (λ list. nat_le (total_length list) 2048) (list_within 16 (bytes_within 0 2048) d)

-- a stored value: a number, or bytes
abbrev pub stored : Data → Option Value
stored d = option_or (option_map Int (number d)) (option_map Bytes (bytes_within 0 128 d))

-- two things, where there are both
abbrev pub both : {A B : Type 0} → Option A → Option B → Option (A × B)
both None second = None
both (Some a) second = option_map (λ b. (a, b)) second

-- a list of exactly two, and one of exactly three
abbrev pub two : List Data → Option (Data × Data)
two [] = None
two (a ∷ []) = None
two (a ∷ b ∷ []) = Some (a, b)
two (a ∷ b ∷ c ∷ more) = None

abbrev pub three : List Data → Option (Data × (Data × Data))
three [] = None
three (a ∷ []) = None
three (a ∷ b ∷ []) = None
three (a ∷ b ∷ c ∷ []) = Some (a, (b, c))
three (a ∷ b ∷ c ∷ d ∷ more) = None

abbrev pub pair : Data → Option (Data × Data)
pair d = option_and_then two (option_map list_of (as_array d))

abbrev pub triple : Data → Option (Data × (Data × Data))
triple d = option_and_then three (option_map list_of (as_array d))

-- an address, a key and a box name
abbrev pub address : Data → Option (List ℕ)
address = bytes_within 32 32

abbrev pub key : Data → Option (List ℕ)
key = bytes_within 0 64

abbrev pub box_name : Data → Option (List ℕ)
box_name = bytes_within 1 64

-- a key and what stands under it
abbrev pub global_entry : Data → Option (List ℕ × Value)
global_entry d = option_and_then (λ p. both (key p.0) (stored p.1)) (pair d)

-- an account, a key of its own and what stands under it
abbrev pub local_entry : Data → Option (List ℕ × (List ℕ × Value))
local_entry d = option_and_then (λ t. both (address t.0) (both (key t.1.0) (stored t.1.1))) (triple d)

-- a name and the bytes of the box
abbrev pub box_entry : Data → Option (List ℕ × List ℕ)
box_entry d = option_and_then (λ p. both (box_name p.0) (bytes_within 0 32768 p.1)) (pair d)
