-- Numbers that bytes write, the high byte first.
use Rattle.std.proofs.Common.{◌≡◌, ℕ, zero, suc, ◌-◌, ◌+◌, ◌<◌, ◌≤◌, ◌*◌, ◌^◌, Bool, true, false, List, [], ◌∷◌, ◌++◌, length, take, drop, get_or, refl, arith, sym, ◌∙◌, ap, append-nil, append_assoc, drop-cons, length-drop}
use Rattle.std.proofs.lemmas.List.{take_more, get_or-drop, drop_all}
use Rattle.std.proofs.lemmas.Bool.Decides.{nat_tests}
use Rattle.std.specs.Prelude.{nat_le}
use Rattle.std.proofs.Math.Nat.{pow-le-pow_right, pow-succ', mul-le-mul, mul_assoc}
use Rattle.std.proofs.lemmas.Nat.{pow-add}
use Rattle.std.specs.List.{repeat}
use Rattle.std.specs.Int.Digits.{number_from_digits_after}
use Rattle.avm_ops.specs.Numbers.{big_endian, bit_length}
use Rattle.avm_ops.proofs.Roots.{bit_length_is}

digits_after-append : (n : ℕ) (xs ys : List ℕ) → number_from_digits_after 256 n (xs ++ ys) ≡ number_from_digits_after 256 (number_from_digits_after 256 n xs) ys
digits_after-append n [] ys = refl
digits_after-append n (x ∷ xs) ys = digits_after-append (n * 256 + x) xs ys

pub big_endian-more : (xs : List ℕ) (i : ℕ) → i < length xs → big_endian (take (i + 1) xs) ≡ big_endian (take i xs) * 256 + get_or xs i 0
big_endian-more xs i h = rw (take_more xs i 0 h) (digits_after-append 0 (take i xs) (get_or xs i 0 ∷ []))

pub room_for_byte : (n i : ℕ) → n < 256 ^ i → i < 8 → n * 256 + 255 < 2 ^ 64
room_for_byte n i h l = let p : 256 ^ i ≤ 256 ^ 7 = pow-le-pow_right {n = 256} (omega arith) {i = i} {j = 7} (omega arith) in omega (arith, p)

pub bytes_below : (n b i : ℕ) → n < 256 ^ i → b < 256 → n * 256 + b < 256 ^ (i + 1)
bytes_below n b i h l =
    let e : i + 1 ≡ suc i = omega arith in
    let p : 256 ^ suc i ≡ 256 * 256 ^ i = pow-succ' 256 i in
    rw e (omega (arith, p))

pub repeat-more : (n : ℕ) (xs : List ℕ) → repeat n xs ++ xs ≡ repeat (n + 1) xs
repeat-more zero xs = sym (append-nil xs)
repeat-more (suc n) xs =
    let e : suc n + 1 ≡ suc (n + 1) = omega arith in
    rw e (append_assoc xs (repeat n xs) xs ∙ ap (λ ys. xs ++ ys) (repeat-more n xs))

-- a number's bytes behind its first ones lie between two powers
digits_between : (n : ℕ) (xs : List ℕ) → ((k : ℕ) → get_or xs k 0 < 256) → (n * 256 ^ length xs ≤ number_from_digits_after 256 n xs) × (number_from_digits_after 256 n xs < (n + 1) * 256 ^ length xs)
digits_between n [] h = (omega arith, omega arith)
digits_between n (x ∷ xs) h =
    let s : x < 256 = h 0 in
    let r = digits_between (n * 256 + x) xs (λ k. h (suc k)) in
    let p : 256 ^ suc (length xs) ≡ 256 * 256 ^ length xs = pow-succ' 256 (length xs) in
    let a : n * 256 * 256 ^ length xs ≤ (n * 256 + x) * 256 ^ length xs = mul-le-mul (omega arith) (omega arith) in
    let b : (n * 256 + x + 1) * 256 ^ length xs ≤ (n + 1) * 256 * 256 ^ length xs = mul-le-mul (omega arith) (omega arith) in
    let c : n * 256 ^ suc (length xs) ≡ n * 256 * 256 ^ length xs = rw p (sym (mul_assoc n 256 (256 ^ length xs))) in
    let d : (n + 1) * 256 ^ suc (length xs) ≡ (n + 1) * 256 * 256 ^ length xs = rw p (sym (mul_assoc (n + 1) 256 (256 ^ length xs))) in
    let lo = r.0 in
    let hi = r.1 in
    (omega (arith, a, c, lo), omega (arith, b, d, hi))

pub record HasDigits (n : ℕ) : Type 0 where
  pub top : ℕ
  pub least : 2 ^ top ≤ n
  pub below : n < 2 * 2 ^ top

next_digits : (n r : ℕ) → 2 ^ r ≤ n → n < 2 * 2 ^ r → (b : Bool) → nat_le (2 * 2 ^ r) (n + 1) ≡ b → HasDigits (suc n)
next_digits n r h g false e =
    let l : n + 1 < 2 * 2 ^ r = grind (arith, nat_tests) in
    record { top = r; least = omega arith; below = omega (arith, l) }
next_digits n r h g true e =
    let l : 2 * 2 ^ r ≤ n + 1 = grind (arith, nat_tests) in
    let p : 2 ^ suc r ≡ 2 * 2 ^ r = pow-succ' 2 r in
    record { top = suc r; least = omega (arith, p, l); below = omega (arith, p) }

digits_exist : (n : ℕ) → HasDigits (suc n)
digits_exist zero = record { top = 0; least = omega arith; below = omega arith }
digits_exist (suc n) = let d = digits_exist n in next_digits (suc n) d.top d.least d.below (nat_le (2 * 2 ^ d.top) (suc n + 1)) refl

byte_powers : (k : ℕ) → 256 ^ k ≡ 2 ^ (8 * k)
byte_powers zero = refl
byte_powers (suc k) =
    let h : 256 ^ k ≡ 2 ^ (8 * k) = byte_powers k in
    let p : 256 ^ suc k ≡ 256 * 256 ^ k = pow-succ' 256 k in
    let e : 8 * suc k ≡ 8 + 8 * k = omega arith in
    let q : 2 ^ (8 + 8 * k) ≡ 2 ^ 8 * 2 ^ (8 * k) = pow-add 2 8 (8 * k) in
    rw e (p ∙ ap (λ x. 256 * x) h ∙ sym q)

bit_length-digits : (n : ℕ) (xs : List ℕ) → ((k : ℕ) → get_or xs k 0 < 256) → HasDigits n → bit_length (number_from_digits_after 256 n xs) ≡ 8 * length xs + bit_length n
bit_length-digits n xs h d =
    let t = digits_between n xs h in
    let p : 256 ^ length xs ≡ 2 ^ (8 * length xs) = byte_powers (length xs) in
    let q : 2 ^ (d.top + 8 * length xs) ≡ 2 ^ d.top * 2 ^ (8 * length xs) = pow-add 2 d.top (8 * length xs) in
    let lo : 2 ^ d.top * 256 ^ length xs ≤ n * 256 ^ length xs = mul-le-mul d.least (omega arith) in
    let nx : n + 1 ≤ 2 * 2 ^ d.top = let b : n < 2 * 2 ^ d.top = d.below in omega (arith, b) in
    let hi : (n + 1) * 256 ^ length xs ≤ 2 * 2 ^ d.top * 256 ^ length xs = mul-le-mul nx (omega arith) in
    let hi2 : 2 * 2 ^ d.top * 256 ^ length xs ≡ 2 * (2 ^ d.top * 256 ^ length xs) = mul_assoc 2 (2 ^ d.top) (256 ^ length xs) in
    let e : 2 ^ (d.top + 8 * length xs) ≡ 2 ^ d.top * 256 ^ length xs = q ∙ ap (λ x. 2 ^ d.top * x) (sym p) in
    let t0 = t.0 in
    let t1 = t.1 in
    let w = bit_length_is (number_from_digits_after 256 n xs) (d.top + 8 * length xs) (omega (arith, e, lo, t0)) (omega (arith, e, hi, hi2, t1)) in
    let v = bit_length_is n d.top d.least d.below in
    omega (arith, w, v)

byte_digits : (b : ℕ) → 0 < b → HasDigits b
byte_digits zero h = absurd (omega arith)
byte_digits (suc b) h = digits_exist b

first_digit : (x : ℕ) (xs : List ℕ) → big_endian (x ∷ xs) ≡ number_from_digits_after 256 x xs
first_digit x xs = let c : 0 * 256 + x ≡ x = omega arith in ap (λ k. number_from_digits_after 256 k xs) c

-- the digits of a number whose first byte is not 0
pub bit_length-bytes : (xs : List ℕ) (i : ℕ) → ((k : ℕ) → get_or xs k 0 < 256) → i < length xs → 0 < get_or xs i 0 → bit_length (big_endian (drop i xs)) ≡ 8 * (length xs - 1 - i) + bit_length (get_or xs i 0)
bit_length-bytes xs i h l z =
    let e : drop i xs ≡ get_or xs i 0 ∷ drop (suc i) xs = drop-cons xs i 0 l in
    let f : (k : ℕ) → get_or (drop (suc i) xs) k 0 < 256 = λ k. rw (get_or-drop (suc i) xs k 0) (h (suc i + k)) in
    let g = bit_length-digits (get_or xs i 0) (drop (suc i) xs) f (byte_digits (get_or xs i 0) z) in
    let n : length (drop (suc i) xs) ≡ length xs - suc i = length-drop (suc i) xs in
    ap (λ ys. bit_length (big_endian ys)) e ∙ ap bit_length (first_digit (get_or xs i 0) (drop (suc i) xs)) ∙ (g ∙ ap (λ k. 8 * k + bit_length (get_or xs i 0)) (n ∙ omega arith))

pub big_endian-zero : (xs : List ℕ) (i : ℕ) → i < length xs → get_or xs i 0 ≡ 0 → big_endian (drop i xs) ≡ big_endian (drop (i + 1) xs)
big_endian-zero xs i l z =
    let e : drop i xs ≡ get_or xs i 0 ∷ drop (suc i) xs = drop-cons xs i 0 l in
    let s : i + 1 ≡ suc i = omega arith in
    ap big_endian e ∙ first_digit (get_or xs i 0) (drop (suc i) xs) ∙ ap (λ k. number_from_digits_after 256 k (drop (suc i) xs)) z ∙ ap (λ k. big_endian (drop k xs)) (sym s)

pub big_endian-none : (xs : List ℕ) (i : ℕ) → length xs ≤ i → big_endian (drop i xs) ≡ 0
big_endian-none xs i h = ap big_endian (drop_all i xs h)
