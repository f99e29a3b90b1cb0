-- Loops over bytes.
use Rattle.std.proofs.Common.{◌≡◌, ℕ, ◌+◌, ◌*◌, ◌<◌, List, [], ◌∷◌, ◌++◌, length, take, get_or, refl}
use Rattle.std.specs.List.{repeat}
use Rattle.avm_ops.specs.Numbers.{big_endian}
use Rattle.avm_ops.proofs.Digits.{big_endian-more, repeat-more}

pub value_more : (xs : List ℕ) (i n : ℕ) → i < length xs → n ≡ big_endian (take i xs) → n * 256 + get_or xs i 0 ≡ big_endian (take (i + 1) xs)
value_more xs i n h e = rw (big_endian-more xs i h, ← e) refl

pub zeros_more : (n : ℕ) → ◌++◌ {A = ℕ} (repeat {A = ℕ} n (0 ∷ [])) (0 ∷ []) ≡ repeat {A = ℕ} (n + 1) (0 ∷ [])
zeros_more n = repeat-more n (0 ∷ [])
