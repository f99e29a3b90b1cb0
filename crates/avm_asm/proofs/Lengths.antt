-- Lengths of spellings.
use Rattle.std.proofs.Common.{◌≡◌, ℕ, ℤ, ◌+◌, ◌*◌, ◌<◌, ◌^◌, List, [], ◌∷◌, length, refl, arith, length-append}
use Rattle.std.specs.List.{flat_map}
use Rattle.avm_ops.specs.Immediate.{jump_bytes}
use Rattle.avm_asm.specs.Assembled.{counted}

pub length-jump_bytes : (j : ℤ) → length (jump_bytes j) ≡ 2
length-jump_bytes j = refl

pub length-jumps : (js : List ℤ) → length (flat_map jump_bytes js) ≡ 2 * length js
length-jumps [] = refl
length-jumps (j ∷ js) = omega (arith, length-append (jump_bytes j) (flat_map jump_bytes js), length-jump_bytes j, length-jumps js)

-- a sum up to the last value of a counter, when nothing is left to add
pub counted_whole : (total whole : ℕ) → total < 2 ^ 64 → counted (total + 0) ≡ counted whole → total ≡ counted whole
counted_whole total whole h e = omega (arith, e)
