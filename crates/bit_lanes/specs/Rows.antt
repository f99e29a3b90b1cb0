-- Sets of the natural numbers below a bound as rows of bits (bit vectors): a number is in the set where the bit of its place is set.
-- Callers see a row as the list of its truth values, the least number first.
use Rattle.std.specs.Prelude.{◌≡◌, ℕ, ◌+◌, ◌*◌, ◌/◌, ◌%◌, ◌^◌, ◌<◌, ◌≤◌, Bool, false, not, ◌&&◌, ◌||◌, nat_eq, List, map, length, slice_index, count_by}
use Rattle.std.specs.Int.{bit_at}
use Rattle.std.specs.List.{range_with_len}
use Rattle.std.specs.Simd.Lanes.{zip2}

-- what lies in one of two sets, in the first and not in the second, and in both
abbrev pub union : List Bool → List Bool → List Bool
union a b = zip2 (λ x y. x || y) a b

abbrev pub difference : List Bool → List Bool → List Bool
difference a b = zip2 (λ x y. x && not y) a b

abbrev pub intersection : List Bool → List Bool → List Bool
intersection a b = zip2 (λ x y. x && y) a b

-- how many numbers are in the set
abbrev pub size : List Bool → ℕ
size a = count_by (λ x. x) a

-- whether the bit of a word at that place is set
unfoldable pub is_set : ℕ → ℕ → Bool
is_set word i = nat_eq (bit_at word i) 1

-- whether a number is in the set that lanes of 64 bits hold, the least number in the lowest bit of the first lane
unfoldable pub is_member : List ℕ → ℕ → Bool
is_member lanes i = is_set (slice_index lanes (i / 64)) (i % 64)

-- the set of the numbers below `bits` that the lanes hold
unfoldable pub members : ℕ → List ℕ → List Bool
members bits lanes = map (is_member lanes) (range_with_len 0 bits)

-- the count of bits is a word, the lanes are words and as many as the bits take, and no bit at or past the last is set
pub record IsRow (bits : ℕ) (lanes : List ℕ) : Type 0 where
  pub small : bits < 2 ^ 64
  pub enough : bits ≤ 64 * length lanes
  pub least : 64 * length lanes < bits + 64
  pub clear : (i : ℕ) → bits ≤ i → is_member lanes i ≡ false
  pub words : (k : ℕ) → slice_index lanes k < 2 ^ 64
