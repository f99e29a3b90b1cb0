-- Reading many of a kind, one behind the other.
use Rattle.std.proofs.Common.{◌≡◌, ℕ, zero, suc, ◌-◌, ◌+◌, ◌<◌, ◌≤◌, List, [], ◌∷◌, ◌++◌, length, drop, Ok, Err, refl, arith, ap, sym, ◌∙◌, append_assoc, zero-add, append-nil, add-zero, length-drop}
use Rattle.std.proofs.lemmas.List.{drop-drop}
use Rattle.avm_ops.specs.declared.imm_fault.ImmFault.{ImmFault}
use Rattle.avm_ops.specs.declared.imm_fault.ImmFault.TheVariants.{Cut, Outside, Overlong, Memory}
use Rattle.avm_ops.specs.Immediate.{Read, behind, read_as, then_read, each_in, ReadsImm}

-- a reading behind so many bytes, which gave these items
abbrev pub continued : {A : Type 0} → List A → ℕ → Read (List A) → Read (List A)
continued xs used (Err f) = Err f
continued xs used (Ok p) = Ok (xs ++ p.0, used + p.1)

-- of so many items, the first ones are read
pub record HasRead {A : Type 0} (one : List ℕ → Read A) (count : ℕ) (code : List ℕ) (index : ℕ) (xs : List A) (used : ℕ) : Type 0 where
  pub within : index ≤ count
  pub inside : used ≤ length code
  pub value : each_in one count code ≡ continued xs used (each_in one (count - index) (drop used code))

pub continued_none : {A : Type 0} (r : Read (List A)) → r ≡ continued [] 0 r
continued_none (Err f) = refl
continued_none {A = A} (Ok p) = let e : p.1 ≡ 0 + p.1 = sym (zero-add p.1) in ap (λ (k : ℕ). let r : Read (List A) = Ok (p.0, k) in r) e

pub read_none : {A : Type 0} (one : List ℕ → Read A) (count : ℕ) (code : List ℕ) → HasRead one count code 0 [] 0
read_none one count code =
    let e : count - 0 ≡ count = omega arith in
    record { within = omega arith; inside = omega arith; value = rw e (continued_none (each_in one count code)) }

continued_one : {A : Type 0} (xs : List A) (used : ℕ) (x : A) (more : ℕ) (r : Read (List A)) → continued xs used (behind more (read_as (λ ys. x ∷ ys) r)) ≡ continued (xs ++ x ∷ []) (used + more) r
continued_one xs used x more (Err f) = refl
continued_one {A = A} xs used x more (Ok p) =
    let e : used + (more + p.1) ≡ used + more + p.1 = omega arith in
    let d : xs ++ (x ∷ p.0) ≡ (xs ++ x ∷ []) ++ p.0 = simp append_assoc in
    rw (e, d) refl

-- one more of so many items is read
each_step : {A : Type 0} (one : List ℕ → Read A) (m : ℕ) (bs : List ℕ) (xs : List A) (used : ℕ) (x : A) (more : ℕ) → 0 < m → one bs ≡ Ok (x, more) → continued xs used (each_in one m bs) ≡ continued (xs ++ x ∷ []) (used + more) (each_in one (m - 1) (drop more bs))
each_step one zero bs xs used x more h e = absurd (omega arith)
each_step one (suc m) bs xs used x more h e =
    let i : suc m - 1 ≡ m = omega arith in
    ap (λ r. continued xs used (then_read (λ y cs. read_as (λ ys. y ∷ ys) (each_in one m cs)) bs r)) e
    ∙ rw i (continued_one xs used x more (each_in one m (drop more bs)))

pub read_more : {A : Type 0} (one : List ℕ → Read A) (count : ℕ) (code : List ℕ) (index : ℕ) (xs : List A) (used : ℕ) (x : A) (more : ℕ) → HasRead one count code index xs used → index < count → more ≤ length (drop used code) → ReadsImm (Ok (x, more)) (one (drop used code)) → HasRead one count code (index + 1) (xs ++ x ∷ []) (used + more)
read_more one count code index xs used x more has h inside e =
    let i : count - index - 1 ≡ count - (index + 1) = omega arith in
    let s = each_step one (count - index) (drop used code) xs used x more (omega arith) e in
    record {
      within = omega arith;
      inside = let l : length (drop used code) ≡ length code - used = length-drop used code in let u : used ≤ length code = has.inside in omega (arith, l);
      value = has.value ∙ (rw (i, drop-drop) at s);
    }

pub read_all : {A : Type 0} (one : List ℕ → Read A) (count : ℕ) (code : List ℕ) (index : ℕ) (xs : List A) (used : ℕ) → HasRead one count code index xs used → count ≤ index → ReadsImm (Ok (xs, used)) (each_in one count code)
read_all {A = A} one count code index xs used has h =
    let i : count - index ≡ 0 = omega arith in
    let v = has.value in
    let w : each_in one count code ≡ Ok (xs ++ [], used + 0) = rw i at v in
    rw (append-nil, add-zero) at w

each_stops : {A : Type 0} (one : List ℕ → Read A) (m : ℕ) (bs : List ℕ) (xs : List A) (used : ℕ) (f : ImmFault) → 0 < m → one bs ≡ Err f → continued xs used (each_in one m bs) ≡ Err f
each_stops one zero bs xs used f h e = absurd (omega arith)
each_stops one (suc m) bs xs used f h e = ap (λ r. continued xs used (then_read (λ y cs. read_as (λ ys. y ∷ ys) (each_in one m cs)) bs r)) e

pub read_stops : {A : Type 0} (one : List ℕ → Read A) (count : ℕ) (code : List ℕ) (index : ℕ) (xs : List A) (used : ℕ) (f : ImmFault) → HasRead one count code index xs used → index < count → ReadsImm {A = A} (Err f) (one (drop used code)) → ReadsImm {A = List A} (Err f) (each_in one count code)
read_stops one count code index xs used Cut has h e = has.value ∙ each_stops one (count - index) (drop used code) xs used Cut (omega arith) e
read_stops one count code index xs used (Outside b) has h e = has.value ∙ each_stops one (count - index) (drop used code) xs used (Outside b) (omega arith) e
read_stops one count code index xs used Overlong has h e = has.value ∙ each_stops one (count - index) (drop used code) xs used Overlong (omega arith) e
read_stops one count code index xs used Memory has h e = tt
