-- Digits make a number no smaller, so what passes 2^64 stays above it.
use Rattle.std.proofs.Common.{◌≡◌, ℕ, ◌+◌, ◌*◌, ◌^◌, ◌≤◌, ◌<◌, List, [], ◌∷◌, Option, Some, None, refl, ◌∙◌, ap, arith}
use Rattle.std.specs.Prelude.{option_and_then}
use Rattle.std.proofs.Math.Nat.{mul-le-mul_left}
use Rattle.std.proofs.lemmas.Bool.Decides.{nat_tests}
use Rattle.teal_line.specs.Operands.{value_in, digit_in, below}

-- an option that holds nothing below a number
abbrev AtLeast : ℕ → Option ℕ → Type 0
AtLeast n None = Unit {0}
AtLeast n (Some m) = n ≤ m

lower : (n m : ℕ) (o : Option ℕ) → n ≤ m → AtLeast m o → AtLeast n o
lower n m None h k = tt
lower n m (Some q) h k = omega arith

times : (base value d : ℕ) → 1 ≤ base → value ≤ value * base + d
times base value d h = omega (arith, mul-le-mul_left value h)

grows : (base : ℕ) → 1 ≤ base → (value : ℕ) (z : List ℕ) → AtLeast value (value_in base (digit_in base) value z)
grows base h value [] = omega arith
grows base h value (b ∷ z) = by (λ v. grows base h v z) (digit_in base b)
  where
    by : ((v : ℕ) → AtLeast v (value_in base (digit_in base) v z)) → (o : Option ℕ) → AtLeast value (option_and_then (λ d. value_in base (digit_in base) (value * base + d) z) o)
    by ih None = tt
    by ih (Some d) = lower value (value * base + d) (value_in base (digit_in base) (value * base + d) z) (times base value d h) (ih (value * base + d))

too_big : (n : ℕ) → 2 ^ 64 ≤ n → below (2 ^ 64) (Some n) ≡ None
too_big n h = grind (arith, nat_tests)

above : (n : ℕ) (o : Option ℕ) → 2 ^ 64 ≤ n → AtLeast n o → below (2 ^ 64) o ≡ None
above n None h k = refl
above n (Some m) h k = too_big m (omega arith)

unfit : (n : ℕ) → below (2 ^ 64) (Some n) ≡ None → 2 ^ 64 ≤ n
unfit n h = grind (arith, nat_tests)

pub fits : (n : ℕ) → n < 2 ^ 64 → below (2 ^ 64) (Some n) ≡ Some n
fits n h = grind (arith, nat_tests)

-- a digit with which a number passes 2^64
pub stops : (base value b d : ℕ) (z : List ℕ) → 1 ≤ base → digit_in base b ≡ Some d → below (2 ^ 64) (Some (value * base + d)) ≡ None
    → below (2 ^ 64) (value_in base (digit_in base) value (b ∷ z)) ≡ None
stops base value b d z h is big =
    ap (λ o. below (2 ^ 64) (option_and_then (λ k. value_in base (digit_in base) (value * base + k) z) o)) is
    ∙ above (value * base + d) (value_in base (digit_in base) (value * base + d) z) (unfit (value * base + d) big) (grows base h (value * base + d) z)

-- a byte that is no digit
pub no_digit : (base value b : ℕ) (z : List ℕ) → digit_in base b ≡ None → below (2 ^ 64) (value_in base (digit_in base) value (b ∷ z)) ≡ None
no_digit base value b z is = ap (λ o. below (2 ^ 64) (option_and_then (λ k. value_in base (digit_in base) (value * base + k) z) o)) is

pub one_digit : (base value b d : ℕ) (z : List ℕ) → digit_in base b ≡ Some d → value_in base (digit_in base) value (b ∷ z) ≡ value_in base (digit_in base) (value * base + d) z
one_digit base value b d z is = ap (λ o. option_and_then (λ k. value_in base (digit_in base) (value * base + k) z) o) is
