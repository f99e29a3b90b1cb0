-- Rows that push constants (AVM specification, "Loading Values"); none where a row fails.
use Rattle.std.specs.Prelude.{ℕ, Bool, nat_le, if◌then◌else◌, List, [], ◌∷◌, length, map, slice_get, Option, Some, None, option_map, option_and_then}
use Rattle.std.specs.List.{list_all}
use Rattle.puya_base.specs.declared.value.Value.{Value}
use Rattle.puya_base.specs.declared.value.Value.TheVariants.{Int, Bytes}
use Rattle.avm_ops.specs.declared.instr.Imm.{Imm}
use Rattle.avm_ops.specs.declared.instr.Imm.TheVariants as imm
use Rattle.avm_ops.specs.declared.rows.ConstantRow.{ConstantRow}
use Rattle.avm_ops.specs.declared.rows.ConstantRow.TheVariants.{PushInt, PushBytes, PushInts, PushBytess, IntBlock, BytesBlock, Int as IntConstant, Bytes as BytesConstant, IntAt, BytesAt}
use Rattle.avm_run.specs.declared.blocks.Blocks.{Blocks}
use Rattle.avm_run.specs.Operands.{max_bytes, bytes_value}

-- the number at a place of the block; fails past it
abbrev pub int_at : Blocks → ℕ → Option (List Value)
int_at blocks i = option_map (λ n. Int n ∷ []) (slice_get blocks.ints i)

-- the bytes at a place of the block; fails past it, and where they are too many for the stack
abbrev pub bytes_at : Blocks → ℕ → Option (List Value)
bytes_at blocks i = option_and_then bytes_value (slice_get blocks.blobs i)

-- several byte strings, each few enough for the stack
abbrev pub bytes_values : List (List ℕ) → Option (List Value)
bytes_values bs = if list_all (λ b. nat_le (length b) max_bytes) bs then Some (map Bytes bs) else None

-- values, and the blocks as they were
abbrev pub leaving : Blocks → Option (List Value) → Option (Blocks × List Value)
leaving blocks None = None
leaving blocks (Some values) = Some (blocks, values)

-- the blocks after a row, and what it pushes, the deepest first
unfoldable pub constant_row : ConstantRow → Imm → Blocks → Option (Blocks × List Value)
constant_row PushInt (imm.Int n) blocks = Some (blocks, Int n ∷ [])
constant_row PushBytes (imm.Bytes b) blocks = leaving blocks (bytes_value b)
constant_row PushInts (imm.Ints ns) blocks = Some (blocks, map Int ns)
constant_row PushBytess (imm.Blobs bs) blocks = leaving blocks (bytes_values bs)
constant_row IntBlock (imm.Ints ns) blocks = Some (record blocks { ints = ns }, [])
constant_row BytesBlock (imm.Blobs bs) blocks = Some (record blocks { blobs = bs }, [])
constant_row IntConstant (imm.Byte i) blocks = leaving blocks (int_at blocks i)
constant_row BytesConstant (imm.Byte i) blocks = leaving blocks (bytes_at blocks i)
constant_row (IntAt i) imm.Nothing blocks = leaving blocks (int_at blocks i)
constant_row (BytesAt i) imm.Nothing blocks = leaving blocks (bytes_at blocks i)
constant_row _ _ blocks = None
