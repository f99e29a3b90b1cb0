-- Two rows of lanes of 64 bits combined lane by lane (Rust's u64 and its portable SIMD, `std::simd`).
use Rattle.std.specs.Prelude.{◌≡◌, ◌≢◌, ℕ, ◌<◌, ◌≤◌, Bool, true, false, List, length, slice_index, bit_and}
use Rattle.std.specs.Int.{bit_not, w64}

-- the bits of the first word that the second has not
abbrev pub without : ℕ → ℕ → ℕ
without a b = bit_and a (bit_not w64 b)

-- The lanes from `start` up to `end` became those of both rows combined, the others stayed, and the flag says whether any lane changed.
pub record Combined (f : ℕ → ℕ → ℕ) (start end : ℕ) (old other new : List ℕ) (changed : Bool) : Type 0 where
  pub long : length new ≡ length old
  pub inside : (k : ℕ) → start ≤ k → k < end → slice_index new k ≡ f (slice_index old k) (slice_index other k)
  pub before : (k : ℕ) → k < start → slice_index new k ≡ slice_index old k
  pub after : (k : ℕ) → end ≤ k → slice_index new k ≡ slice_index old k
  pub differs : changed ≡ true → new ≢ old
  pub stays : changed ≡ false → new ≡ old
