-- The scratch places (AVM specification, "Scratch Space"); none where a row fails.
use Rattle.std.specs.Prelude.{ℕ, nat_lt, if◌then◌else◌, List, [], ◌∷◌, length, replicate, slice_get, slice_set, Option, Some, None, option_map}
use Rattle.puya_base.specs.declared.value.Value.{Value}
use Rattle.puya_base.specs.declared.value.Value.TheVariants.{Int}
use Rattle.avm_ops.specs.declared.instr.Imm.{Imm}
use Rattle.avm_ops.specs.declared.instr.Imm.TheVariants as imm
use Rattle.avm_ops.specs.declared.rows.ScratchRow.{ScratchRow}
use Rattle.avm_ops.specs.declared.rows.ScratchRow.TheVariants.{Load, Store}

-- 256 places, each with the number 0
abbrev pub no_scratch : List Value
no_scratch = replicate 256 (Int 0)

-- the places after a row, and what it pushes
unfoldable pub scratch_row : ScratchRow → Imm → List Value → List Value → Option (List Value × List Value)
scratch_row Load (imm.Byte i) scratch [] = option_map (λ v. (scratch, v ∷ [])) (slice_get scratch i)
scratch_row Store (imm.Byte i) scratch (v ∷ []) = if nat_lt i (length scratch) then Some (slice_set scratch i v, []) else None
scratch_row _ _ scratch _ = None
