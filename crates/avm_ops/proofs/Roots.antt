-- Square roots, binary digits, powers.
use Rattle.std.proofs.Common.{◌≡◌, ℕ, zero, suc, ◌-◌, ◌+◌, ◌<◌, ◌≤◌, ◌/◌, ◌%◌, ◌*◌, ◌^◌, ◌==◌, ◌&&◌, Bool, true, false, Some, None, refl, arith, ◌∙◌, ap}
use Rattle.std.proofs.Math.Nat.{pow-le-pow_right, pow-le-pow_left, pow-succ', one-le-pow, mul-le-mul}
use Rattle.std.proofs.lemmas.Nat.{pow-add}
use Rattle.std.proofs.lemmas.Bool.Decides.{nat_tests}
use Rattle.std.specs.Prelude.{nat_le, if◌then◌else◌}
use Rattle.std.specs.Int.{bit_at}
use Rattle.avm_ops.specs.Numbers.{square_root, bit_length, digits_up_to, fitting, with_bit}

pub root_below : (n : ℕ) → square_root n * square_root n ≤ n
unfolding square_root
root_below zero = omega arith
root_below (suc n) = let h : square_root n * square_root n ≤ n = root_below n in grind (arith, nat_tests)

pub root_above : (n : ℕ) → n < (square_root n + 1) * (square_root n + 1)
unfolding square_root
root_above zero = omega arith
root_above (suc n) = let h : n < (square_root n + 1) * (square_root n + 1) = root_above n in grind (arith, nat_tests)

roots_in_order : (r s n : ℕ) → r * r ≤ n → n < (s + 1) * (s + 1) → r ≤ s
roots_in_order r s n h g = let f : s + 1 ≤ r → (s + 1) * (s + 1) ≤ r * r = λ (k : s + 1 ≤ r). mul-le-mul k k in grind (arith, f)

pub square_root_is : (n r : ℕ) → r * r ≤ n → n < (r + 1) * (r + 1) → r ≡ square_root n
square_root_is n r h g =
    let a : r ≤ square_root n = roots_in_order r (square_root n) n h (root_above n) in
    let b : square_root n ≤ r = roots_in_order (square_root n) r n (root_below n) g in
    omega (arith, a, b)

digits_by : (k n r : ℕ) (b : Bool) → nat_le (2 ^ k) n ≡ b → 2 ^ r ≤ n → n < 2 * 2 ^ r → r < suc k → (r < k → digits_up_to k n ≡ r + 1) → (if b then suc k else digits_up_to k n) ≡ r + 1
digits_by k n r true e h g l ih =
    let t : 2 ^ k ≤ n = grind (arith, nat_tests) in
    let q : 2 ^ suc r ≡ 2 * 2 ^ r = pow-succ' 2 r in
    let f : suc r ≤ k → 2 ^ suc r ≤ 2 ^ k = λ (x : suc r ≤ k). pow-le-pow_right {n = 2} (omega arith) {i = suc r} {j = k} x in
    grind (arith, t, q, f)
digits_by k n r false e h g l ih =
    let t : n < 2 ^ k = grind (arith, nat_tests) in
    let f : k ≤ r → 2 ^ k ≤ 2 ^ r = λ (x : k ≤ r). pow-le-pow_right {n = 2} (omega arith) {i = k} {j = r} x in
    let l : r < k = grind (arith, t, f) in
    ih l

digits_is : (k n r : ℕ) → 2 ^ r ≤ n → n < 2 * 2 ^ r → r < k → digits_up_to k n ≡ r + 1
digits_is zero n r h g l = absurd (omega arith)
digits_is (suc k) n r h g l = digits_by k n r (nat_le (2 ^ k) n) refl h g l (digits_is k n r h g)

below_power : (r : ℕ) → r < 2 ^ r
below_power zero = omega arith
below_power (suc r) = let h : r < 2 ^ r = below_power r in let q : 2 ^ suc r ≡ 2 * 2 ^ r = pow-succ' 2 r in omega (arith, h, q)

pub bit_length_is : (n r : ℕ) → 2 ^ r ≤ n → n < 2 * 2 ^ r → bit_length n ≡ r + 1
unfolding bit_length
bit_length_is n r h g = let p : r < 2 ^ r = below_power r in digits_is n n r h g (omega (arith, p))

pub bit_length_none : (n : ℕ) → n ≡ 0 → bit_length n ≡ 0
unfolding bit_length
bit_length_none n e = rw e refl

zero_power : (k : ℕ) → 0 ^ suc k ≡ 0
zero_power k = let q : 0 ^ suc k ≡ 0 * 0 ^ k = pow-succ' 0 k in omega (arith, q)

one_power : (k : ℕ) → 1 ^ k ≡ 1
one_power zero = refl
one_power (suc k) = let h : 1 ^ k ≡ 1 = one_power k in let q : 1 ^ suc k ≡ 1 * 1 ^ k = pow-succ' 1 k in omega (arith, q, h)

pub power_small : (b e : ℕ) → b < 2 → 0 < b + e → (if (b == 0) && (e == 0) then None else fitting (b ^ e)) ≡ Some b
power_small zero zero h k = absurd (omega arith)
power_small zero (suc e) h k = let p : 0 ^ suc e ≡ 0 = zero_power e in grind (arith, nat_tests, p)
power_small (suc zero) e h k = let p : 1 ^ e ≡ 1 = one_power e in grind (arith, nat_tests, p)
power_small (suc (suc b)) e h k = absurd (omega arith)

pub power_large : (b e : ℕ) → 2 ≤ b → 64 ≤ e → (if (b == 0) && (e == 0) then None else fitting (b ^ e)) ≡ None
power_large b e h k =
    let p : 2 ^ 64 ≤ 2 ^ e = pow-le-pow_right {n = 2} (omega arith) {i = 64} {j = e} k in
    let q : 2 ^ e ≤ b ^ e = pow-le-pow_left h e in
    let s : 2 ^ 64 ≤ b ^ e = omega (arith, p, q) in
    grind (arith, nat_tests, s)

bit_changed : (p m n j : ℕ) → 0 < p → n < p * (2 * m) → j ≤ 1 → n - n / p % 2 * p + j * p < p * (2 * m)
bit_changed p m n j h l d =
    let q = n / p in
    let t = n / p / 2 in
    let a : p * q ≡ p * (2 * t + q % 2) = ap (λ x. p * x) (omega arith) in
    let b : p * (2 * t + q % 2) ≡ 2 * (p * t) + q % 2 * p = grind arith in
    let f : 2 * m ≤ q → p * (2 * m) ≤ p * q = λ (k : 2 * m ≤ q). mul-le-mul (omega arith) k in
    let u : t + 1 ≤ m = grind (arith, f) in
    let v : p * (t + 1) ≤ p * m = mul-le-mul (omega arith) u in
    let w : p * (t + 1) ≡ p * t + p = grind arith in
    let x : p * (2 * m) ≡ 2 * (p * m) = grind arith in
    let y : j * p ≤ 1 * p = mul-le-mul d (omega arith) in
    grind (arith, a, b, v, w, x, y)

pub with_bit_below : (width n i j : ℕ) → i < width → j ≤ 1 → n < 2 ^ width → with_bit n i j < 2 ^ width
with_bit_below width n i j h d l =
    let e : width ≡ i + (1 + (width - i - 1)) = omega arith in
    let a : 2 ^ (i + (1 + (width - i - 1))) ≡ 2 ^ i * 2 ^ (1 + (width - i - 1)) = pow-add 2 i (1 + (width - i - 1)) in
    let b : 2 ^ (1 + (width - i - 1)) ≡ 2 ^ 1 * 2 ^ (width - i - 1) = pow-add 2 1 (width - i - 1) in
    let c : 2 ^ width ≡ 2 ^ i * (2 * 2 ^ (width - i - 1)) = ap (λ x. 2 ^ x) e ∙ a ∙ ap (λ x. 2 ^ i * x) b in
    let p : 0 < 2 ^ i = one-le-pow i 2 (omega arith) in
    let l2 : n < 2 ^ i * (2 * 2 ^ (width - i - 1)) = rw c at l in
    rw c (bit_changed (2 ^ i) (2 ^ (width - i - 1)) n j p l2 d)

pub with_bit_in_word : (n i j : ℕ) → i < 64 → j ≤ 1 → n < 2 ^ 64 → n - bit_at n i * 2 ^ i + j * 2 ^ i < 2 ^ 64
with_bit_in_word n i j h d l = with_bit_below 64 n i j h d l

pub with_bit_in_byte : (n i j : ℕ) → i < 8 → j ≤ 1 → n < 256 → with_bit n i j < 256
with_bit_in_byte n i j h d l = with_bit_below 8 n i j h d l
