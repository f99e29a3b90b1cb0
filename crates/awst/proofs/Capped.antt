-- Sums and greatest values of counts that stand still at the end of their type.
use Rattle.std.proofs.Common.{◌≡◌, ℕ, zero, suc, ◌+◌, ◌*◌, ◌-◌, ◌^◌, ◌<◌, ◌≤◌, inl, inr, ◌∙◌, max, ap, arith}
use Rattle.std.proofs.lemmas.Bool.{cases_lt}
use Rattle.awst.specs.Capped.{capped}

pub capped_small : (n : ℕ) → n < 2 ^ 64 → capped n ≡ n
capped_small n h = omega arith

pub capped_first : (a b : ℕ) → capped (a + b) ≡ capped (capped a + b)
capped_first a b = omega arith

pub capped_add : (a b c : ℕ) → capped (capped (a + capped b) + c) ≡ capped (a + (b + c))
capped_add a b c = omega arith

pub capped_max : (a b : ℕ) → capped (max a b) ≡ max (capped a) (capped b)
capped_max a b = omega arith

large_times : (k m n : ℕ) → 2 ^ 64 ≤ n → capped (capped (suc m * capped n) + k) ≡ capped (k + suc m * n)
large_times k m n h = let e : capped n ≡ 2 ^ 64 - 1 = omega arith in ap (λ x. capped (capped (suc m * x) + k)) e ∙ (omega arith)

-- so much for each of a number
pub capped_times : (k m n : ℕ) → capped (capped (m * capped n) + k) ≡ capped (k + m * n)
capped_times k zero n = omega arith
capped_times k (suc m) n =
    elim (cases_lt n (2 ^ 64)) as (λ _. capped (capped (suc m * capped n) + k) ≡ capped (k + suc m * n)) [
      | inl small ↦ ap (λ x. capped (capped (suc m * x) + k)) (capped_small n small) ∙ (omega arith)
      | inr large ↦ large_times k m n large
    ]

-- the same of a count that is known so
pub linear_result : (k m c p res : ℕ) → p ≡ capped (m * c) → res ≡ capped (p + k) → (n : ℕ) → c ≡ capped n → res ≡ capped (k + m * n)
linear_result k m c p res ep eres n e = eres ∙ ap (λ x. capped (x + k)) (ep ∙ ap (λ x. capped (m * x)) e) ∙ capped_times k m n
