-- Bits of words, and the numbers of the set that lanes hold.
use Rattle.std.proofs.Common.{◌≡◌, ◌⊎◌, ℕ, ◌+◌, ◌*◌, ◌/◌, ◌%◌, ◌^◌, ◌<◌, ◌≤◌, min, Bool, false, not, ◌&&◌, ◌||◌, eqb, List, length, get_or, bit_and, bit_or, refl, ap, sym, ◌∙◌, inl, inr, arith, w64}
use Rattle.std.proofs.lemmas.Bool.{cases_eq}
use Rattle.std.proofs.lemmas.List.{get_or_past, ext_get_or}
use Rattle.std.proofs.lemmas.Nat.Bits.{bit_at-lt, bit_at-zero, bit_at_or, bit_at_and, bit_at_not, same_from_bits_below}
use Rattle.std.proofs.lemmas.Nat.{or_lt, and_le_l}
use Rattle.std.specs.Int.{bit_at, bit_not}
use Rattle.bit_lanes.specs.Rows.{is_set, is_member}
use Rattle.bit_lanes.specs.Lanes.{without}

-- a bit is 0 or 1
pub bit_cases : (n i : ℕ) → (bit_at n i ≡ 0) ⊎ (bit_at n i ≡ 1)
bit_cases n i = elim (cases_eq (bit_at n i) 0) [
  | inl none ↦ inl none
  | inr some ↦ inr (omega (arith, bit_at-lt n i))
]

pub bit_from_is_set : (a b i j : ℕ) → is_set a i ≡ is_set b j → bit_at a i ≡ bit_at b j
unfolding is_set
bit_from_is_set a b i j same = elim (bit_cases a i) [
  | inl p ↦ elim (bit_cases b j) [
    | inl q ↦ p ∙ sym q
    | inr q ↦ absurd (let clash : eqb 0 1 ≡ eqb 1 1 = rw (p, q) at same in cc clash)
  ]
  | inr p ↦ elim (bit_cases b j) [
    | inl q ↦ absurd (let clash : eqb 1 1 ≡ eqb 0 1 = rw (p, q) at same in cc clash)
    | inr q ↦ p ∙ sym q
  ]
]

pub is_set-zero : (i : ℕ) → is_set 0 i ≡ false
unfolding is_set
is_set-zero i = ap (λ n. eqb n 1) (bit_at-zero i)

-- a combination of words is one of truth values, bit by bit
pub record Agrees (f : ℕ → ℕ → ℕ) (g : Bool → Bool → Bool) : Type 0 where
  pub none : g false false ≡ false
  pub fits : (a b : ℕ) → a < 2 ^ 64 → b < 2 ^ 64 → f a b < 2 ^ 64
  pub bits : (a b i : ℕ) → a < 2 ^ 64 → b < 2 ^ 64 → i < 64 → is_set (f a b) i ≡ g (is_set a i) (is_set b i)

pub or_agrees : Agrees bit_or (λ x y. x || y)
unfolding is_set
or_agrees = record {
  none = refl;
  fits = λ a b small other. or_lt 64 a b small other;
  bits = λ a b i _ _ _. ap (λ n. eqb n 1) (bit_at_or a b i) ∙ elim (bit_cases a i) [
    | inl p ↦ elim (bit_cases b i) [ inl q ↦ rw (p, q) refl | inr q ↦ rw (p, q) refl ]
    | inr p ↦ elim (bit_cases b i) [ inl q ↦ rw (p, q) refl | inr q ↦ rw (p, q) refl ]
  ];
}

pub and_agrees : Agrees bit_and (λ x y. x && y)
unfolding is_set
and_agrees = record {
  none = refl;
  fits = λ a b small _. omega (arith, and_le_l a b);
  bits = λ a b i _ _ _. ap (λ n. eqb n 1) (bit_at_and a b i) ∙ elim (bit_cases a i) [
    | inl p ↦ elim (bit_cases b i) [ inl q ↦ rw (p, q) refl | inr q ↦ rw (p, q) refl ]
    | inr p ↦ elim (bit_cases b i) [ inl q ↦ rw (p, q) refl | inr q ↦ rw (p, q) refl ]
  ];
}

pub without_agrees : Agrees without (λ x y. x && not y)
unfolding is_set
without_agrees = record {
  none = refl;
  fits = λ a b small _. omega (arith, and_le_l a (bit_not w64 b));
  bits = λ a b i _ fits within. ap (λ n. eqb n 1) (bit_at_and a (bit_not w64 b) i ∙ ap (λ n. min (bit_at a i) n) (bit_at_not w64 b i fits within)) ∙ elim (bit_cases a i) [
    | inl p ↦ elim (bit_cases b i) [ inl q ↦ rw (p, q) refl | inr q ↦ rw (p, q) refl ]
    | inr p ↦ elim (bit_cases b i) [ inl q ↦ rw (p, q) refl | inr q ↦ rw (p, q) refl ]
  ];
}

-- past the lanes there are no numbers
pub member_past : (lanes : List ℕ) (i : ℕ) → length lanes ≤ i / 64 → is_member lanes i ≡ false
unfolding is_member
member_past lanes i past = ap (λ n. is_set n (i % 64)) (get_or_past lanes (i / 64) 0 past) ∙ is_set-zero (i % 64)

-- every lane is a word
abbrev pub Words : List ℕ → Type 0
Words lanes = (k : ℕ) → get_or lanes k 0 < 2 ^ 64

-- rows of lanes are equal where the same numbers are in them
pub lanes_from_members : (a b : List ℕ) → length a ≡ length b → Words a → Words b → ((i : ℕ) → is_member a i ≡ is_member b i) → a ≡ b
unfolding is_member
lanes_from_members a b even fa fb same =
    ext_get_or 0 a b even (λ k _. same_from_bits_below 64 (get_or a k 0) (get_or b k 0) (fa k) (fb k) (λ i within.
    let lane : (64 * k + i) / 64 ≡ k = omega arith in
    let place : (64 * k + i) % 64 ≡ i = omega arith in
    bit_from_is_set (get_or a k 0) (get_or b k 0) i i (rw (lane, place) at (same (64 * k + i)))))
