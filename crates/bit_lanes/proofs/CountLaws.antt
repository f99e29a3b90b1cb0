-- How many numbers are in the set that lanes hold.
use Rattle.std.proofs.Common.{◌≡◌, ℕ, ◌+◌, ◌-◌, ◌*◌, ◌/◌, ◌%◌, ◌^◌, ◌<◌, ◌≤◌, Bool, false, cond, List, [], ◌∷◌, ◌++◌, map, length, get_or, count_ones, refl, subst, ap, sym, ◌∙◌, inl, inr, arith}
use Rattle.std.proofs.lemmas.Bool.{cases_lt}
use Rattle.std.proofs.lemmas.List.{ext_get_or, length-append, get_or_append_left, get_or-append_right, map-id}
use Rattle.std.proofs.lemmas.List.FromFn.{length-map-range_with_len, get_or-map-range_with_len}
use Rattle.std.proofs.lemmas.List.Sums.{sum_by-append, count_by-le-length}
use Rattle.std.proofs.lemmas.Nat.Bits.{same_from_bits_below}
use Rattle.std.proofs.lemmas.Simd.{mask_l-lt, bit_mask_l, ones-mask_l}
use Rattle.std.specs.Int.{bit_at}
use Rattle.std.specs.List.{range_with_len}
use Rattle.std.specs.Simd.Lanes.{mask_l}
use Rattle.bit_lanes.specs.Rows.{is_set, is_member, members, size, IsRow}
use Rattle.bit_lanes.proofs.BitLaws.{bit_cases}
use Rattle.bit_lanes.proofs.RowLaws.{length-members}

-- a list made from a function of the index, in two parts
split : (f : ℕ → Bool) (m n : ℕ) → map f (range_with_len 0 (m + n)) ≡ map f (range_with_len 0 m) ++ map (λ i. f (m + i)) (range_with_len 0 n)
split f m n =
    let front = map f (range_with_len 0 m) in
    let back = map (λ i. f (m + i)) (range_with_len 0 n) in
    let long = length-map-range_with_len f 0 (m + n) in
    let front_long = length-map-range_with_len f 0 m in
    let back_long = length-map-range_with_len (λ i. f (m + i)) 0 n in
    ext_get_or false (map f (range_with_len 0 (m + n))) (front ++ back) (omega (arith, length-append front back, long, front_long, back_long))
    (λ i lt. get_or-map-range_with_len f 0 (m + n) i i false (omega (arith, long)) (omega arith) ∙ sym (elim (cases_lt i m) [
      | inl below ↦ get_or_append_left front back false i (omega (arith, front_long)) ∙ get_or-map-range_with_len f 0 m i i false below (omega arith)
      | inr past ↦ get_or-append_right front back m i false front_long past
          ∙ get_or-map-range_with_len (λ j. f (m + j)) 0 n (i - m) (i - m) false (omega (arith, long)) (omega arith) ∙ ap f (omega arith)
    ]))

size_split : (f : ℕ → Bool) (m n : ℕ) → size (map f (range_with_len 0 (m + n))) ≡ size (map f (range_with_len 0 m)) + size (map (λ i. f (m + i)) (range_with_len 0 n))
size_split f m n = ap size (split f m n) ∙ sum_by-append (λ b. cond b 1 0) (map f (range_with_len 0 m)) (map (λ i. f (m + i)) (range_with_len 0 n))

none_in : (xs : List ℕ) → size (map (λ _. false) xs) ≡ 0
none_in [] = refl
none_in (x ∷ xs) = rw (none_in xs) refl

-- a word's bits
bit_from_test : (x i : ℕ) → cond (is_set x i) 1 0 ≡ bit_at x i
unfolding is_set
bit_from_test x i = elim (bit_cases x i) [ inl p ↦ rw p refl | inr p ↦ rw p refl ]

word_size : (x : ℕ) → x < 2 ^ 64 → size (map (is_set x) (range_with_len 0 64)) ≡ count_ones x
word_size x fits =
    let bits = map (is_set x) (range_with_len 0 64) in
    let long : length bits ≡ 64 = length-map-range_with_len (is_set x) 0 64 in
    let small : mask_l bits < 2 ^ 64 = subst (λ n. mask_l bits < 2 ^ n) long (mask_l-lt bits) in
    let same : mask_l bits ≡ x = same_from_bits_below 64 (mask_l bits) x small fits (λ i lt.
    bit_mask_l bits i ∙ ap (λ b. cond b 1 0) (get_or-map-range_with_len (is_set x) 0 64 i i false lt (omega arith)) ∙ bit_from_test x i) in
    sym (ones-mask_l (λ b. b) bits) ∙ ap (λ l. count_ones (mask_l l)) (map-id bits) ∙ ap count_ones same

in_lane : (lanes : List ℕ) (k i : ℕ) → i < 64 → is_member lanes (64 * k + i) ≡ is_set (get_or lanes k 0) i
unfolding is_member
in_lane lanes k i lt =
    let lane : (64 * k + i) / 64 ≡ k = omega arith in
    let place : (64 * k + i) % 64 ≡ i = omega arith in
    rw (lane, place) refl

-- the numbers of one more lane
pub size_more : (lanes : List ℕ) (k : ℕ) → get_or lanes k 0 < 2 ^ 64 → size (members (64 * (k + 1)) lanes) ≡ size (members (64 * k) lanes) + count_ones (get_or lanes k 0)
unfolding members
size_more lanes k fits =
    let next : 64 * (k + 1) ≡ 64 * k + 64 = omega arith in
    let lane = map (λ i. is_member lanes (64 * k + i)) (range_with_len 0 64) in
    let word = map (is_set (get_or lanes k 0)) (range_with_len 0 64) in
    let same : lane ≡ word = ext_get_or false lane word
    (length-map-range_with_len (λ i. is_member lanes (64 * k + i)) 0 64 ∙ sym (length-map-range_with_len (is_set (get_or lanes k 0)) 0 64))
    (λ i lt. let below : i < 64 = omega (arith, length-map-range_with_len (λ j. is_member lanes (64 * k + j)) 0 64) in
    get_or-map-range_with_len (λ j. is_member lanes (64 * k + j)) 0 64 i i false below (omega arith) ∙ in_lane lanes k i below
    ∙ sym (get_or-map-range_with_len (is_set (get_or lanes k 0)) 0 64 i i false below (omega arith))) in
    ap (λ n. size (map (is_member lanes) (range_with_len 0 n))) next ∙ size_split (is_member lanes) (64 * k) 64
    ∙ ap (λ n. size (map (is_member lanes) (range_with_len 0 (64 * k))) + n) (ap size same ∙ word_size (get_or lanes k 0) fits)

-- none lies at or past the last bit
pub size_past : (bits : ℕ) (lanes : List ℕ) → IsRow bits lanes → (n : ℕ) → bits ≤ n → size (members n lanes) ≡ size (members bits lanes)
unfolding members
size_past bits lanes row n past =
    let back : n ≡ bits + (n - bits) = omega arith in
    ap (λ m. size (map (is_member lanes) (range_with_len 0 m))) back ∙ size_split (is_member lanes) bits (n - bits)
    ∙ ap (λ m. size (map (is_member lanes) (range_with_len 0 bits)) + m)
    ((λ j. size (map (λ i. row.clear (bits + i) (omega arith) j) (range_with_len 0 (n - bits)))) ∙ none_in (range_with_len 0 (n - bits)))
    ∙ omega arith

pub size_le : (bits : ℕ) (lanes : List ℕ) → IsRow bits lanes → (n : ℕ) → size (members n lanes) ≤ bits
size_le bits lanes row n = elim (cases_lt n bits) [
  | inl lt ↦ omega (arith, count_by-le-length (λ b. b) (members n lanes), length-members n lanes)
  | inr past ↦ omega (arith, size_past bits lanes row n past, count_by-le-length (λ b. b) (members bits lanes), length-members bits lanes)
]

-- ---- the loop over the lanes, where the slice that is read holds the row's lanes
pub none_counted : (lanes : List ℕ) → size (members 0 lanes) ≡ 0
unfolding members
none_counted lanes = refl

module _ (bits : ℕ) (lanes items : List ℕ) (row : IsRow bits lanes) (items_is : items ≡ lanes) (k total : ℕ) (so_far : total ≡ size (members (64 * k) items)) where
  items_row : IsRow bits items
  items_row = subst (IsRow bits) (sym items_is) row

  pub counted_more : total + count_ones (get_or items k 0) ≡ size (members (64 * (k + 1)) items)
  counted_more = ap (λ n. n + count_ones (get_or items k 0)) so_far ∙ sym (size_more items k (items_row.words k))

  pub counted_fits : total + count_ones (get_or items k 0) < 2 ^ 64
  counted_fits = omega (arith, counted_more, size_le bits items items_row (64 * (k + 1)), items_row.small)

  pub counted_all : length items ≤ k → (value : List Bool) → members bits lanes ≡ value → total ≡ size value
  counted_all past value value_is =
      so_far ∙ size_past bits items items_row (64 * k) (omega (arith, items_row.enough)) ∙ ap (λ l. size (members bits l)) items_is ∙ ap size value_is
