-- Rows that move values on the stack (AVM specification, "Opcodes": bury to uncover). The top stands last; none where a row fails.
use Rattle.std.specs.Prelude.{ℕ, ◌+◌, ◌-◌, ◌==◌, Bool, nat_lt, nat_le, ◌||◌, if◌then◌else◌, List, [], ◌∷◌, ◌++◌, length, take, drop, replicate, insert, remove, slice_get, slice_set, Option, Some, None, option_map}
use Rattle.puya_base.specs.declared.value.Value.{Value}
use Rattle.avm_ops.specs.declared.instr.Imm.{Imm}
use Rattle.avm_ops.specs.declared.instr.Imm.TheVariants as imm
use Rattle.avm_ops.specs.declared.rows.StackRow.{StackRow}
use Rattle.avm_ops.specs.declared.rows.StackRow.TheVariants.{Bury, PopN, DupN, Pop, Dup, Dup2, Dig, Swap, Cover, Uncover}

-- the place at a depth below the top, which has depth 0
abbrev pub at_depth : ℕ → List Value → ℕ
at_depth n stack = length stack - 1 - n

-- where there are that many values
abbrev pub having : ℕ → List Value → List Value → Option (List Value)
having n stack after = if nat_le n (length stack) then Some after else None

-- the stack with a copy of the value at a depth on top
abbrev pub dig : ℕ → List Value → Option (List Value)
dig n stack = if nat_lt n (length stack) then option_map (λ v. stack ++ v ∷ []) (slice_get stack (at_depth n stack)) else None

-- the top leaves, and stands in the place of the value at a depth counted before
abbrev pub bury : ℕ → List Value → Option (List Value)
bury n stack =
    if (n == 0) || nat_le (length stack) n then None else
    option_map (λ v. slice_set (take (length stack - 1) stack) (at_depth n stack) v) (slice_get stack (length stack - 1))

-- the top goes below n values
abbrev pub cover : ℕ → List Value → Option (List Value)
cover n stack = if nat_lt n (length stack) then option_map (λ v. insert (take (length stack - 1) stack) (at_depth n stack) v) (slice_get stack (length stack - 1)) else None

-- the value at a depth goes to the top
abbrev pub uncover : ℕ → List Value → Option (List Value)
uncover n stack = if nat_lt n (length stack) then option_map (λ v. remove stack (at_depth n stack) ++ v ∷ []) (slice_get stack (at_depth n stack)) else None

-- n copies of the top on it
abbrev pub dup_times : ℕ → List Value → Option (List Value)
dup_times n stack = option_map (λ v. stack ++ replicate n v) (slice_get stack (length stack - 1))

abbrev pub pop_times : ℕ → List Value → Option (List Value)
pop_times n stack = having n stack (take (length stack - n) stack)

-- the stack after a row whose immediate is n
abbrev pub counted_row : StackRow → ℕ → List Value → Option (List Value)
counted_row Bury n stack = bury n stack
counted_row PopN n stack = pop_times n stack
counted_row DupN n stack = dup_times n stack
counted_row Dig n stack = dig n stack
counted_row Cover n stack = cover n stack
counted_row Uncover n stack = uncover n stack
counted_row _ n stack = None

-- the stack after a row without an immediate
abbrev pub plain_row : StackRow → List Value → Option (List Value)
plain_row Pop stack = pop_times 1 stack
plain_row Dup stack = dig 0 stack
plain_row Dup2 stack = option_map (λ two. stack ++ two) (if nat_le 2 (length stack) then Some (drop (length stack - 2) stack) else None)
plain_row Swap stack = uncover 1 stack
plain_row _ stack = None

-- the stack after a row that moves values, or none where it fails
unfoldable pub stack_row : StackRow → Imm → List Value → Option (List Value)
stack_row row (imm.Byte n) stack = counted_row row n stack
stack_row row imm.Nothing stack = plain_row row stack
stack_row row _ stack = None
