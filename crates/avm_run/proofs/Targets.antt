-- The targets of a branch.
use Rattle.std.proofs.Common.{◌≡◌, ℕ, ap, ◌∙◌, refl}
use Rattle.std.specs.Prelude.{ℤ, Option, Some, None, map, option_map, slice_get}
use Rattle.std.proofs.lemmas.Option.{slice_get-map}
use Rattle.avm_ops.specs.declared.instr.Imm.{Imm}
use Rattle.avm_run.specs.Bytes.{offsets_of, place, target, targets_of}

twice : (next : ℕ) (o : Option ℤ) → option_map place (option_map (target next) o) ≡ option_map (λ j. place (target next j)) o
twice next None = refl
twice next (Some j) = refl

-- the target of a number is that of the offset of that number
pub target_at : (next : ℕ) (i : Imm) (n : ℕ) → slice_get (map place (targets_of next i)) n ≡ option_map (λ j. place (target next j)) (slice_get (offsets_of i) n)
target_at next i n =
    slice_get-map place (targets_of next i) n
    ∙ ap (option_map place) (slice_get-map (target next) (offsets_of i) n)
    ∙ twice next (slice_get (offsets_of i) n)
