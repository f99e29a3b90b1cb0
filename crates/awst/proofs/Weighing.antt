-- Sums of weights, with counts that stand still.
use Rattle.std.proofs.Common.{◌≡◌, ℕ, suc, ◌+◌, ◌<◌, ◌≤◌, ◌∙◌, List, [], ◌∷◌, length, map, get_or, drop, refl, ap, subst, arith, Result, Ok, Err, IfOk}
use Rattle.std.proofs.lemmas.List.{drop_all}
use Rattle.awst.specs.Capped.{capped}
use Rattle.puya_base.specs.declared.source.Place.{Place}
use Rattle.puya_base.specs.declared.memory.Memory.{Memory}
use Rattle.awst.specs.declared.statement.Arm.{Arm}
use Rattle.awst.specs.Plain.{Scope, Statement, PlainArm, arm_of, if_plain, otherwise}
use Rattle.awst.specs.Weight.{st_weight, sts_weight}
use Rattle.awst.specs.Arms.{arms_weight}
use Rattle.awst.proofs.Marking.{next_item}

-- what was counted and what is left make up the whole
pub record Sums (counted left whole : ℕ) : Type 0 where
  pub sum : capped (counted + left) ≡ capped whole
  pub small : capped counted ≡ counted

pub sums_begin : (whole : ℕ) → Sums 0 whole whole
sums_begin whole = record { sum = omega arith; small = omega arith }

pub sums_more : (counted one left whole total n : ℕ) → Sums counted (one + left) whole → n ≡ capped one → total ≡ capped (counted + n) → Sums total left whole
sums_more counted one left whole total n s e t = record { sum = omega (arith, s.sum, s.small, e, t); small = omega (arith, t) }

pub sums_end : (total left whole : ℕ) → left ≡ 0 → Sums total left whole → total ≡ capped whole
sums_end total left whole e s = omega (arith, e, s.sum, s.small)

-- a sum of two
pub sum_two : (a b ca cb r : ℕ) → ca ≡ capped a → cb ≡ capped b → r ≡ capped (ca + cb) → r ≡ capped (a + b)
sum_two a b ca cb r ea eb er = omega (arith, ea, eb, er)

-- sums over the things of a list, one thing after the other
pub sums_next : {X : Type 0} (f : List X → ℕ) (one : X → ℕ) (xs : List X) (i : ℕ) (x : X) (counted total n whole : ℕ) →
    ((ys : List X) → f (x ∷ ys) ≡ one x + f ys) → i < length xs → x ≡ get_or xs i x → n ≡ capped (one x) → total ≡ capped (counted + n) →
    Sums counted (f (drop i xs)) whole → Sums total (f (drop (i + 1) xs)) whole
sums_next f one xs i x counted total n whole by_step h e n_is total_is s =
    let left : f (drop i xs) ≡ one x + f (drop (i + 1) xs) = ap f (next_item xs i x h e) ∙ by_step (drop (i + 1) xs) in
    sums_more counted (one x) (f (drop (i + 1) xs)) whole total n (subst (λ l. Sums counted l whole) left s) n_is total_is

-- nothing is left
pub sums_last : {X : Type 0} (f : List X → ℕ) (xs : List X) (i total whole : ℕ) → f [] ≡ 0 → length xs ≤ i → Sums total (f (drop i xs)) whole → total ≡ capped whole
sums_last f xs i total whole none h s = sums_end total (f (drop i xs)) whole (ap f (drop_all i xs h) ∙ none) s

-- the value of an augmented assignment: its form, the read, and the right side
pub updated_sum : (own read e w_own w_read w_e first res : ℕ) → w_own ≡ capped own → w_read ≡ capped read → w_e ≡ capped e → first ≡ capped (w_own + w_read) → res ≡ capped (first + w_e) → res ≡ capped (own + (read + 0 + (e + 0)))
updated_sum own read e w_own w_read w_e first res eo er ee ef es = omega (arith, eo, er, ee, ef, es)

-- an `elif` is an `if` in what is done otherwise
pub otherwise_weighs : (place : Place) (scope : Scope) (a : ℕ) (arms : List PlainArm) (rest : List Statement) → sts_weight (otherwise place scope a arms rest) ≡ arms_weight scope a arms rest
otherwise_weighs place scope a [] rest = refl
otherwise_weighs place scope a (arm ∷ arms) rest = omega (arith, otherwise_weighs place scope a arms rest)

pub if_weight : (place : Place) (scope : Scope) (a : ℕ) (arms : List PlainArm) (rest : List Statement) → 0 < length arms → st_weight (if_plain place scope a arms rest) ≡ arms_weight scope a arms rest
if_weight place scope a [] rest h = absurd (omega arith)
if_weight place scope a (arm ∷ arms) rest h = omega (arith, otherwise_weighs place scope a arms rest)

-- an answer, by an equal number
pub as_ok : (r : Result ℕ Memory) (m n : ℕ) → m ≡ n → IfOk r (λ w. w ≡ m) → IfOk r (λ w. w ≡ n)
as_ok (Ok w) m n e h = h ∙ e
as_ok (Err x) m n e h = tt

pub length-arms : (arms : List Arm) → length (map arm_of arms) ≡ length arms
length-arms [] = refl
length-arms (arm ∷ arms) = ap suc (length-arms arms)
