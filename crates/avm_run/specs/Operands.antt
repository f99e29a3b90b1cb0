-- Values on the stack, whose top stands last (AVM specification, "The Stack").
use Rattle.std.specs.Prelude.{ℕ, ◌-◌, ◌==◌, Bool, false, nat_lt, nat_le, if◌then◌else◌, List, [], ◌∷◌, ◌++◌, length, take, drop, bytes_eq, Option, Some, None}
use Rattle.puya_base.specs.declared.value.Value.{Value}
use Rattle.puya_base.specs.declared.value.Value.TheVariants.{Int, Bytes}

-- the most bytes of a value on the stack
abbrev pub max_bytes : ℕ
max_bytes = 4096

-- bytes as a value, where they are few enough
abbrev pub bytes_value : List ℕ → Option (List Value)
bytes_value b = if nat_le (length b) max_bytes then Some (Bytes b ∷ []) else None

-- what stands below the top n values
abbrev pub below : ℕ → List Value → List Value
below n stack = take (length stack - n) stack

-- the top n values, the deepest first
abbrev pub top : ℕ → List Value → List Value
top n stack = drop (length stack - n) stack

-- what comes of the top n values, or nothing where there are fewer
abbrev pub with_top : {A : Type 0} → ℕ → List Value → (List Value → Option A) → Option A
with_top n stack f = if nat_lt (length stack) n then None else f (top n stack)

-- two values of one kind, and equal
abbrev pub is_same : Value → Value → Bool
is_same (Int a) (Int b) = a == b
is_same (Bytes a) (Bytes b) = bytes_eq a b
is_same _ _ = false
