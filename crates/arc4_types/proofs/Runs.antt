-- How many bools stand in front.
use Rattle.std.proofs.Common.{◌≡◌, ◌∙◌, ℕ, zero, suc, ◌+◌, ◌-◌, ◌<◌, ◌≤◌, List, [], ◌∷◌, length, drop, map, Option, Some, None, refl, sym, ap, subst, arith}
use Rattle.std.specs.Prelude.{slice_get}
use Rattle.arc4_types.specs.declared.abi.Abi.{Abi}
use Rattle.arc4_types.specs.declared.form.Form.{Form}
use Rattle.arc4_types.specs.declared.form.Form.TheVariants as form
use Rattle.arc4_types.specs.Types.{type_of}
use Rattle.arc4_types.specs.Groups.{bools_in, form_of, by_form}

abbrev form_at : Abi → Form
form_at t = form_of (type_of t)

-- the forms from a part on begin with that of the part
pub from_part : (ts : List Abi) (j : ℕ) (t : Abi) → slice_get ts j ≡ Some t → drop j (map form_at ts) ≡ form_at t ∷ drop (suc j) (map form_at ts)
from_part [] j t e = absurd cc
from_part (x ∷ ts) zero t e = let q : x ≡ t = cc in ap (λ y. form_at y ∷ map form_at ts) q
from_part (x ∷ ts) (suc j) t e = from_part ts j t e

past_end : (ts : List Abi) (j : ℕ) → length ts ≤ j → drop j (map form_at ts) ≡ []
past_end [] zero h = refl
past_end [] (suc j) h = refl
past_end (x ∷ ts) zero h = absurd (omega arith)
past_end (x ∷ ts) (suc j) h = past_end ts j (omega arith)

pub bools_more : (ts : List Abi) (j k n : ℕ) (t : Abi) → slice_get ts j ≡ Some t → form_at t ≡ form.Bool → k < 8 → k + bools_in (drop j (map form_at ts)) (8 - k) ≡ n → k + 1 + bools_in (drop (j + 1) (map form_at ts)) (8 - (k + 1)) ≡ n
bools_more ts j k n t e b h r =
    let m : 8 - k ≡ suc (8 - (k + 1)) = omega arith in
    let s : j + 1 ≡ suc j = omega arith in
    let d : drop j (map form_at ts) ≡ form.Bool ∷ drop (suc j) (map form_at ts) = from_part ts j t e ∙ ap (λ f. f ∷ drop (suc j) (map form_at ts)) b in
    let o : bools_in (drop j (map form_at ts)) (8 - k) ≡ suc (bools_in (drop (suc j) (map form_at ts)) (8 - (k + 1))) = rw (m, d) refl in
    rw s (omega (arith, o, r))

none_at : (f : Form) (fs : List Form) (most : ℕ) → (f ≡ form.Bool → ⊥) → bools_in (f ∷ fs) most ≡ 0
none_at f fs zero h = refl
none_at form.Bool fs (suc most) h = absurd (h refl)
none_at form.Static fs (suc most) h = refl
none_at form.Dynamic fs (suc most) h = refl

none_more : (fs : List Form) → bools_in fs 0 ≡ 0
none_more [] = refl
none_more (f ∷ fs) = refl

pub bools_full : (ts : List Abi) (j k n : ℕ) → 8 ≤ k → k + bools_in (drop j (map form_at ts)) (8 - k) ≡ n → k ≡ n
bools_full ts j k n h r =
    let z : 8 - k ≡ 0 = omega arith in
    let o : bools_in (drop j (map form_at ts)) (8 - k) ≡ 0 = rw z (none_more (drop j (map form_at ts))) in
    omega (arith, o, r)

pub bools_past : (ts : List Abi) (j k n : ℕ) → length ts ≤ j → k + bools_in (drop j (map form_at ts)) (8 - k) ≡ n → k ≡ n
bools_past ts j k n h r =
    let o : bools_in (drop j (map form_at ts)) (8 - k) ≡ 0 = rw (past_end ts j h) refl in
    omega (arith, o, r)

pub bools_stop : (ts : List Abi) (j k n : ℕ) (t : Abi) → slice_get ts j ≡ Some t → (form_at t ≡ form.Bool → ⊥) → k + bools_in (drop j (map form_at ts)) (8 - k) ≡ n → k ≡ n
bools_stop ts j k n t e b r =
    let o : bools_in (drop j (map form_at ts)) (8 - k) ≡ 0 = rw (from_part ts j t e) (none_at (form_at t) (drop (suc j) (map form_at ts)) (8 - k) b) in
    omega (arith, o, r)

-- one part for all, and one for each
pub bools_at_most : (fs : List Form) (most : ℕ) → bools_in fs most ≤ most
bools_at_most [] most = omega arith
bools_at_most (f ∷ fs) zero = omega arith
bools_at_most (form.Bool ∷ fs) (suc most) = let r = bools_at_most fs most in omega (arith, r)
bools_at_most (form.Static ∷ fs) (suc most) = omega arith
bools_at_most (form.Dynamic ∷ fs) (suc most) = omega arith

pub bools_within : (fs : List Form) (most : ℕ) → bools_in fs most ≤ length fs
bools_within [] most = omega arith
bools_within (f ∷ fs) zero = omega arith
bools_within (form.Bool ∷ fs) (suc most) = let r = bools_within fs most in omega (arith, r)
bools_within (form.Static ∷ fs) (suc most) = omega arith
bools_within (form.Dynamic ∷ fs) (suc most) = omega arith
