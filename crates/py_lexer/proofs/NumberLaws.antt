-- Digits make a number no smaller, so what passes 2^64 stays above it.
use Rattle.std.proofs.Common.{◌≡◌, ℕ, ◌+◌, ◌*◌, ◌^◌, ◌≤◌, ◌<◌, Bool, true, false, cond, List, [], ◌∷◌, Option, Some, None, refl, ◌∙◌, ap, arith}
use Rattle.std.proofs.Math.Nat.{mul-le-mul_left}
use Rattle.std.proofs.lemmas.Bool.Decides.{nat_tests}
use Rattle.py_lexer.specs.Numbers.{digit_in, joins, written, fitting, if_fitting}

-- an option that holds nothing below a number
abbrev AtLeast : ℕ → Option ℕ → Type 0
AtLeast n None = Unit {0}
AtLeast n (Some m) = n ≤ m

lower : (n m : ℕ) (o : Option ℕ) → n ≤ m → AtLeast m o → AtLeast n o
lower n m None h k = tt
lower n m (Some q) h k = omega arith

times : (base value d : ℕ) → 1 ≤ base → value ≤ value * base + d
times base value d h = omega (arith, mul-le-mul_left value h)

grows : (base : ℕ) → 1 ≤ base → (value : ℕ) (after : Bool) (z : List ℕ) → AtLeast value (written base value after z)
grows base h value true [] = omega arith
grows base h value false [] = tt
grows base h value after (b ∷ z) = by (λ v a. grows base h v a z) (joins b after) (digit_in base b)
  where
    by : ((v : ℕ) (a : Bool) → AtLeast v (written base v a z)) → (q : Bool) (o : Option ℕ) → AtLeast value (cond q (written base value false z) (elim o [ None ↦ None | Some d ↦ written base (value * base + d) true z ]))
    by ih true o = ih value false
    by ih false None = tt
    by ih false (Some d) = lower value (value * base + d) (written base (value * base + d) true z) (times base value d h) (ih (value * base + d) true)

too_big : (n : ℕ) → 2 ^ 64 ≤ n → fitting n ≡ None
too_big n h = grind (arith, nat_tests)

above : (n : ℕ) (o : Option ℕ) → 2 ^ 64 ≤ n → AtLeast n o → if_fitting o ≡ None
above n None h k = refl
above n (Some m) h k = too_big m (omega arith)

-- a number that has passed 2^64 has no value that fits, whatever follows
pub passed : (base value : ℕ) (after : Bool) (z : List ℕ) → 1 ≤ base → 2 ^ 64 ≤ value → if_fitting (written base value after z) ≡ None
passed base value after z h k = above value (written base value after z) k (grows base h value after z)

pub fits : (n : ℕ) → n < 2 ^ 64 → fitting n ≡ Some n
fits n h = grind (arith, nat_tests)

unfit : (n : ℕ) → fitting n ≡ None → 2 ^ 64 ≤ n
unfit n h = grind (arith, nat_tests)

-- a digit with which a number passes 2^64
pub stops : (base value : ℕ) (after : Bool) (b d : ℕ) (z : List ℕ) → 1 ≤ base → joins b after ≡ false → digit_in base b ≡ Some d → fitting (value * base + d) ≡ None
    → if_fitting (written base value after (b ∷ z)) ≡ None
stops base value after b d z h other is big =
    ap (λ q. if_fitting (cond q (written base value false z) (elim (digit_in base b) [ None ↦ None | Some d ↦ written base (value * base + d) true z ]))) other
    ∙ ap (λ o. if_fitting (elim o [ None ↦ None | Some d ↦ written base (value * base + d) true z ])) is
    ∙ passed base (value * base + d) true z h (unfit (value * base + d) big)
