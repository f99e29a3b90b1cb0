-- What a row of lanes holds, as a list of truth values.
use Rattle.std.proofs.Common.{◌≡◌, ◌≢◌, ℕ, ◌+◌, ◌*◌, ◌/◌, ◌%◌, ◌^◌, ◌<◌, ◌≤◌, Bool, true, false, List, map, length, get_or, set, replicate, bit_and, bit_or, refl, ap, sym, ◌∙◌, inl, inr, arith, w64, subst, eqb}
use Rattle.std.proofs.lemmas.Bool.{cases_lt, cases_eq}
use Rattle.std.proofs.lemmas.List.{get_or_past, get_or_read, ext_get_or, get_or-set_same, get_or-set_other, length-set, get_or-replicate, length-replicate}
use Rattle.std.proofs.lemmas.List.FromFn.{length-map-range_with_len, get_or-map-range_with_len}
use Rattle.std.proofs.lemmas.Nat.Bits.{bit_at_set_same, bit_at_set_other, bit_at_clear_same, bit_at_clear_other, shr_and_one}
use Rattle.std.proofs.lemmas.Nat.{or_lt, and_le_l}
use Rattle.std.proofs.lemmas.Option.{slice_get-get_or}
use Rattle.std.proofs.lemmas.Simd.{zip2-map}
use Rattle.std.specs.Prelude.{Decides, Some, slice_get}
use Rattle.std.specs.Int.{bit_not}
use Rattle.std.specs.List.{range_with_len}
use Rattle.std.specs.Simd.Lanes.{zip2}
use Rattle.bit_lanes.specs.Rows.{is_set, is_member, members, IsRow}
use Rattle.bit_lanes.specs.Lanes.{Combined}
use Rattle.bit_lanes.proofs.BitLaws.{Agrees, is_set-zero, member_past, lanes_from_members}

pub length-members : (bits : ℕ) (lanes : List ℕ) → length (members bits lanes) ≡ bits
unfolding members
length-members bits lanes = length-map-range_with_len (is_member lanes) 0 bits

pub get_or-members : (bits : ℕ) (lanes : List ℕ) (i : ℕ) → i < bits → get_or (members bits lanes) i false ≡ is_member lanes i
unfolding members
get_or-members bits lanes i within = get_or-map-range_with_len (is_member lanes) 0 bits i i false within (omega arith)

-- ---- an empty row
pub empty_member : (n i : ℕ) → is_member (replicate n 0) i ≡ false
unfolding is_member
empty_member n i = elim (cases_lt (i / 64) n) [
  | inl lt ↦ ap (λ x. is_set x (i % 64)) (get_or-replicate n (i / 64) 0 0 lt) ∙ is_set-zero (i % 64)
  | inr past ↦ member_past (replicate n 0) i (omega (arith, length-replicate {A = ℕ} n 0))
]

pub empty_members : (bits n : ℕ) → members bits (replicate n 0) ≡ replicate bits false
empty_members bits n =
    ext_get_or false (members bits (replicate n 0)) (replicate bits false) (length-members bits (replicate n 0) ∙ sym (length-replicate bits false))
    (λ i lt. let within : i < bits = omega (arith, length-members bits (replicate n 0)) in
    get_or-members bits (replicate n 0) i within ∙ empty_member n i ∙ sym (get_or-replicate bits i false false within))

pub empty_row : (bits n : ℕ) → bits < 2 ^ 64 → bits ≤ 64 * n → 64 * n < bits + 64 → IsRow bits (replicate n 0)
empty_row bits n small enough least = record {
  small = small;
  enough = omega (arith, length-replicate {A = ℕ} n 0);
  least = omega (arith, length-replicate {A = ℕ} n 0);
  clear = λ i _. empty_member n i;
  words = λ k. elim (cases_lt k n) [
    | inl lt ↦ omega (arith, get_or-replicate {A = ℕ} n k 0 0 lt)
    | inr past ↦ omega (arith, get_or_past {X = ℕ} (replicate n 0) k 0 (omega (arith, length-replicate {A = ℕ} n 0)))
  ];
}

-- ---- equal rows
pub rows_from_members : (bits : ℕ) (a b : List ℕ) → IsRow bits a → IsRow bits b → members bits a ≡ members bits b → a ≡ b
rows_from_members bits a b ra rb same =
    let even : length a ≡ length b = omega (arith, ra.enough, ra.least, rb.enough, rb.least) in
    lanes_from_members a b even ra.words rb.words (λ i. elim (cases_lt i bits) [
      | inl within ↦ sym (get_or-members bits a i within) ∙ ap (λ l. get_or l i false) same ∙ get_or-members bits b i within
      | inr past ↦ ra.clear i past ∙ sym (rb.clear i past)
    ])

pub same_bits : (bits other_bits : ℕ) (old other : List ℕ) (mine theirs : List Bool) → members bits old ≡ mine → members other_bits other ≡ theirs → length theirs ≡ length mine → other_bits ≡ bits
same_bits bits other_bits old other mine theirs mine_is theirs_is even =
    sym (length-members other_bits other) ∙ ap length theirs_is ∙ even ∙ sym (ap length mine_is) ∙ length-members bits old

pub same_lengths : (bits other_bits : ℕ) (old other : List ℕ) (mine theirs : List Bool) → IsRow bits old → IsRow other_bits other → members bits old ≡ mine → members other_bits other ≡ theirs
    → length theirs ≡ length mine → length other ≡ length old
same_lengths bits other_bits old other mine theirs a b mine_is theirs_is even =
    omega (arith, same_bits bits other_bits old other mine theirs mine_is theirs_is even, a.enough, a.least, b.enough, b.least)

-- whether the lanes are equal is whether the sets are
pub same_decides : (bits other_bits : ℕ) (old other first second : List ℕ) (mine theirs : List Bool) (answer : Bool) → IsRow bits old → IsRow other_bits other
    → members bits old ≡ mine → members other_bits other ≡ theirs → length theirs ≡ length mine → first ≡ old → second ≡ other
    → Decides answer (first ≡ second) → Decides answer (mine ≡ theirs)
same_decides bits other_bits old other first second mine theirs answer a b mine_is theirs_is even first_is second_is told =
    let even_bits = same_bits bits other_bits old other mine theirs mine_is theirs_is even in (
      λ is. sym mine_is ∙ ap (members bits) (sym first_is ∙ told.0 is ∙ second_is) ∙ ap (λ n. members n other) (sym even_bits) ∙ theirs_is,
      λ same. told.1 (first_is
          ∙ rows_from_members bits old other a (subst (λ n. IsRow n other) even_bits b) (mine_is ∙ same ∙ sym theirs_is ∙ ap (λ n. members n other) even_bits)
          ∙ sym second_is),
    )

-- ---- two rows combined
module _ (f : ℕ → ℕ → ℕ) (g : Bool → Bool → Bool) (agrees : Agrees f g) (bits : ℕ) (old other new : List ℕ) (changed : Bool)
    (c : Combined f 0 (length old) old other new changed) (a : IsRow bits old) (b : IsRow bits other) where
  combined_member : (i : ℕ) → is_member new i ≡ g (is_member old i) (is_member other i)
  unfolding is_member
  combined_member i = elim (cases_lt (i / 64) (length old)) as (λ _. is_member new i ≡ g (is_member old i) (is_member other i)) [
    | inl lt ↦ ap (λ x. is_set x (i % 64)) (c.inside (i / 64) (omega arith) lt) ∙ agrees.bits (get_or old (i / 64) 0) (get_or other (i / 64) 0) (i % 64) (a.words (i / 64)) (b.words (i / 64)) (omega arith)
    | inr past ↦
        member_past new i (omega (arith, c.long)) ∙ sym agrees.none
        ∙ sym (λ j. g (member_past old i past j) (member_past other i (omega (arith, a.enough, a.least, b.enough, b.least)) j))
  ]

  pub combined_members : members bits new ≡ zip2 g (members bits old) (members bits other)
  unfolding members
  combined_members = (λ j. map (λ i. combined_member i j) (range_with_len 0 bits)) ∙ sym (zip2-map g (is_member old) (is_member other) (range_with_len 0 bits))

  pub combined_row : IsRow bits new
  combined_row = record {
    small = a.small;
    enough = omega (arith, a.enough, c.long);
    least = omega (arith, a.least, c.long);
    clear = λ i past. combined_member i ∙ (λ j. g (a.clear i past j) (b.clear i past j)) ∙ agrees.none;
    words = λ k. elim (cases_lt k (length old)) [
      | inl lt ↦ rw (c.inside k (omega arith) lt) (agrees.fits (get_or old k 0) (get_or other k 0) (a.words k) (b.words k))
      | inr past ↦ omega (arith, c.after k past, a.words k)
    ];
  }

  pub changed_set : (changed ≡ true → members bits new ≢ members bits old) × (members bits new ≢ members bits old → changed ≡ true)
  changed_set = (
    λ grew same. c.differs grew (rows_from_members bits new old combined_row a same),
    λ apart. flag changed refl apart,
  )
    where
      flag : (b : Bool) → changed ≡ b → (members bits new ≢ members bits old) → changed ≡ true
      flag true is apart = is
      flag false is apart = absurd (apart (ap (members bits) (c.stays is)))

-- the same of what the code holds: the slices are the rows' lanes, and the values their sets
module _ (f : ℕ → ℕ → ℕ) (g : Bool → Bool → Bool) (agrees : Agrees f g) (bits other_bits : ℕ) (old other into from new final : List ℕ) (changed : Bool) (mine theirs : List Bool)
    (c : Combined f 0 (length into) into from new changed) (into_is : into ≡ old) (from_is : from ≡ other) (final_is : final ≡ new)
    (a : IsRow bits old) (b : IsRow other_bits other) (mine_is : members bits old ≡ mine) (theirs_is : members other_bits other ≡ theirs) (even : length theirs ≡ length mine) where
  even_bits : other_bits ≡ bits
  even_bits = same_bits bits other_bits old other mine theirs mine_is theirs_is even

  other_row : IsRow bits other
  other_row = subst (λ n. IsRow n other) even_bits b

  other_value : members bits other ≡ theirs
  other_value = ap (λ n. members n other) (sym even_bits) ∙ theirs_is

  on_lanes : Combined f 0 (length old) old other new changed
  on_lanes = subst (λ o. Combined f 0 (length old) old o new changed) from_is (subst (λ i. Combined f 0 (length i) i from new changed) into_is c)

  pub row_after : IsRow bits final
  row_after = subst (IsRow bits) (sym final_is) (combined_row f g agrees bits old other new changed on_lanes a other_row)

  pub set_after : members bits final ≡ zip2 g mine theirs
  set_after = ap (members bits) final_is ∙ combined_members f g agrees bits old other new changed on_lanes a other_row ∙ (λ i. zip2 g (mine_is i) (other_value i))

  pub length_after : length (members bits final) ≡ length mine
  length_after = length-members bits final ∙ sym (length-members bits old) ∙ ap length mine_is

  pub changed_after : (changed ≡ true → members bits final ≢ mine) × (members bits final ≢ mine → changed ≡ true)
  changed_after =
      let told = changed_set f g agrees bits old other new changed on_lanes a other_row in
      let there = ap (members bits) final_is in (
        λ grew same. told.0 grew (sym there ∙ same ∙ sym mine_is),
        λ apart. told.1 (λ same. apart (there ∙ same ∙ mine_is)),
      )

-- ---- one number put in or taken out
module _ (bits : ℕ) (lanes : List ℕ) (i word : ℕ) (flag : Bool) (within : i < bits) (row : IsRow bits lanes) (fits : word < 2 ^ 64)
    (here : is_set word (i % 64) ≡ flag) (others : (j : ℕ) → j < 64 → j ≢ i % 64 → is_set word j ≡ is_set (get_or lanes (i / 64) 0) j) where
  inside : i / 64 < length lanes
  inside = omega (arith, row.enough)

  changed_here : is_member (set lanes (i / 64) word) i ≡ flag
  unfolding is_member
  changed_here = ap (λ x. is_set x (i % 64)) (get_or-set_same lanes (i / 64) word 0 inside) ∙ here

  kept_elsewhere : (j : ℕ) → j ≢ i → is_member (set lanes (i / 64) word) j ≡ is_member lanes j
  unfolding is_member
  kept_elsewhere j apart = elim (cases_eq (j / 64) (i / 64)) [
    | inl lane ↦
        ap (λ k. is_set (get_or (set lanes (i / 64) word) k 0) (j % 64)) lane
        ∙ ap (λ x. is_set x (j % 64)) (get_or-set_same lanes (i / 64) word 0 inside)
        ∙ others (j % 64) (omega arith) (λ place. apart (omega arith))
        ∙ ap (λ k. is_set (get_or lanes k 0) (j % 64)) (sym lane)
    | inr lane ↦ ap (λ x. is_set x (j % 64)) (get_or-set_other lanes (i / 64) (j / 64) word 0 lane)
  ]

  pub changed_members : members bits (set lanes (i / 64) word) ≡ set (members bits lanes) i flag
  changed_members =
      let new = set lanes (i / 64) word in
      ext_get_or false (members bits new) (set (members bits lanes) i flag)
      (length-members bits new ∙ sym (length-set (members bits lanes) i flag ∙ length-members bits lanes))
      (λ j lt. let below : j < bits = omega (arith, length-members bits new) in
      get_or-members bits new j below ∙ elim (cases_eq j i) [
        | inl at ↦ ap (is_member new) at ∙ changed_here ∙ sym (get_or-set_same (members bits lanes) i flag false (omega (arith, length-members bits lanes)))
            ∙ ap (λ k. get_or (set (members bits lanes) i flag) k false) (sym at)
        | inr apart ↦ kept_elsewhere j apart ∙ sym (get_or-members bits lanes j below) ∙ sym (get_or-set_other (members bits lanes) i j flag false apart)
      ])

  pub changed_row : IsRow bits (set lanes (i / 64) word)
  changed_row = record {
    small = row.small;
    enough = omega (arith, row.enough, length-set lanes (i / 64) word);
    least = omega (arith, row.least, length-set lanes (i / 64) word);
    clear = λ j past. kept_elsewhere j (λ at. absurd (omega arith)) ∙ row.clear j past;
    words = λ k. elim (cases_eq k (i / 64)) [
      | inl at ↦ omega (arith, ap (λ j. get_or (set lanes (i / 64) word) j 0) at, get_or-set_same lanes (i / 64) word 0 inside)
      | inr apart ↦ omega (arith, get_or-set_other lanes (i / 64) k word 0 apart, row.words k)
    ];
  }

-- the bit of a place in a word set and cleared
pub set_here : (word k : ℕ) → k < 64 → is_set (bit_or word (1 * 2 ^ k % 2 ^ 64)) k ≡ true
unfolding is_set
set_here word k within = rw (bit_at_set_same w64 word k within) refl

pub set_others : (word k : ℕ) → k < 64 → (j : ℕ) → j < 64 → j ≢ k → is_set (bit_or word (1 * 2 ^ k % 2 ^ 64)) j ≡ is_set word j
unfolding is_set
set_others word k within j _ apart = rw (bit_at_set_other w64 word k within j apart) refl

pub clear_here : (word k : ℕ) → k < 64 → is_set (bit_and word (bit_not w64 (1 * 2 ^ k % 2 ^ 64))) k ≡ false
unfolding is_set
clear_here word k within = rw (bit_at_clear_same w64 word k within) refl

pub clear_others : (word k : ℕ) → k < 64 → (j : ℕ) → j < 64 → j ≢ k → is_set (bit_and word (bit_not w64 (1 * 2 ^ k % 2 ^ 64))) j ≡ is_set word j
unfolding is_set
clear_others word k within j small apart = rw (bit_at_clear_other w64 word k within j small apart) refl

-- the lane of a number below the bound
pub lane_within : (bits i : ℕ) (lanes : List ℕ) (value : List Bool) → IsRow bits lanes → members bits lanes ≡ value → i < length value → i / 64 < length lanes
lane_within bits i lanes value row value_is within = omega (arith, row.enough, length-members bits lanes, ap length value_is)

-- a number put in or taken out, of what the code holds
module _ (bits : ℕ) (lanes : List ℕ) (i : ℕ) (value : List Bool) (row : IsRow bits lanes) (value_is : members bits lanes ≡ value) (within : i < length value)
    (word : ℕ) (word_is : word ≡ get_or lanes (i / 64) word) where
  below : i < bits
  below = omega (arith, length-members bits lanes, ap length value_is)

  lane_is : word ≡ get_or lanes (i / 64) 0
  lane_is = get_or_read lanes (i / 64) word (lane_within bits i lanes value row value_is within) word_is 0

  word_fits : word < 2 ^ 64
  word_fits = omega (arith, row.words (i / 64), lane_is)

  bit_fits : 1 * 2 ^ (i % 64) % 2 ^ 64 < 2 ^ 64
  bit_fits = omega arith

  set_others_of : (j : ℕ) → j < 64 → j ≢ i % 64 → is_set (bit_or word (1 * 2 ^ (i % 64) % 2 ^ 64)) j ≡ is_set (get_or lanes (i / 64) 0) j
  set_others_of j small apart = set_others word (i % 64) (omega arith) j small apart ∙ ap (λ x. is_set x j) lane_is

  clear_others_of : (j : ℕ) → j < 64 → j ≢ i % 64 → is_set (bit_and word (bit_not w64 (1 * 2 ^ (i % 64) % 2 ^ 64))) j ≡ is_set (get_or lanes (i / 64) 0) j
  clear_others_of j small apart = clear_others word (i % 64) (omega arith) j small apart ∙ ap (λ x. is_set x j) lane_is

  pub row_with : IsRow bits (set lanes (i / 64) (bit_or word (1 * 2 ^ (i % 64) % 2 ^ 64)))
  row_with = changed_row bits lanes i (bit_or word (1 * 2 ^ (i % 64) % 2 ^ 64)) true below row
      (or_lt 64 word (1 * 2 ^ (i % 64) % 2 ^ 64) word_fits bit_fits) (set_here word (i % 64) (omega arith)) set_others_of

  pub set_with : members bits (set lanes (i / 64) (bit_or word (1 * 2 ^ (i % 64) % 2 ^ 64))) ≡ set value i true
  set_with = changed_members bits lanes i (bit_or word (1 * 2 ^ (i % 64) % 2 ^ 64)) true below row
      (or_lt 64 word (1 * 2 ^ (i % 64) % 2 ^ 64) word_fits bit_fits) (set_here word (i % 64) (omega arith)) set_others_of ∙ ap (λ l. set l i true) value_is

  pub row_without : IsRow bits (set lanes (i / 64) (bit_and word (bit_not w64 (1 * 2 ^ (i % 64) % 2 ^ 64))))
  row_without = changed_row bits lanes i (bit_and word (bit_not w64 (1 * 2 ^ (i % 64) % 2 ^ 64))) false below row
      (omega (arith, and_le_l word (bit_not w64 (1 * 2 ^ (i % 64) % 2 ^ 64)), word_fits)) (clear_here word (i % 64) (omega arith)) clear_others_of

  pub set_without : members bits (set lanes (i / 64) (bit_and word (bit_not w64 (1 * 2 ^ (i % 64) % 2 ^ 64)))) ≡ set value i false
  set_without = changed_members bits lanes i (bit_and word (bit_not w64 (1 * 2 ^ (i % 64) % 2 ^ 64))) false below row
      (omega (arith, and_le_l word (bit_not w64 (1 * 2 ^ (i % 64) % 2 ^ 64)), word_fits)) (clear_here word (i % 64) (omega arith)) clear_others_of ∙ ap (λ l. set l i false) value_is

  pub told_member : slice_get value i ≡ Some (eqb (bit_and (word / 2 ^ (i % 64)) 1) 1)
  unfolding is_set is_member
  told_member =
      let read : is_member lanes i ≡ eqb (bit_and (word / 2 ^ (i % 64)) 1) 1 =
      ap (λ x. is_set x (i % 64)) (sym lane_is) ∙ ap (λ n. eqb n 1) (sym (shr_and_one word (i % 64))) in
      slice_get-get_or value i false within ∙ ap Some (ap (λ l. get_or l i false) (sym value_is) ∙ get_or-members bits lanes i below ∙ read)
