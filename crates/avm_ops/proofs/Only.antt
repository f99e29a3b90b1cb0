-- What is read is spelled as it stands: there is no second spelling.
use Rattle.std.proofs.Common.{◌≡◌, ℕ, ℤ, zero, suc, ◌-◌, ◌+◌, ◌*◌, ◌/◌, ◌%◌, ◌<◌, ◌≤◌, ◌^◌, List, [], ◌∷◌, ◌++◌, length, take, drop, get_or, Bool, true, false, ◌==◌, ◌&&◌, ◌||◌, Some, None, Option, Result, Ok, Err, refl, arith, ap, sym, subst, ◌∙◌, IsTrue, All, Fits, take-add, length-take-le}
use Rattle.std.proofs.lemmas.Bool.Decides.{nat_tests}
use Rattle.std.proofs.lemmas.List.Elements.{All-nil, All-cons}
use Rattle.std.proofs.lemmas.List.{get_or-drop}
use Rattle.std.proofs.lemmas.Nat.{be_bytes_2}
use Rattle.std.proofs.Math.Facts.{of_z-to_z, sfits_to_z}
use Rattle.std.specs.List.{flat_map}
use Rattle.std.specs.Prelude.{if◌then◌else◌, nat_le, nat_lt, IfOk}
use Rattle.std.specs.Int.{w8, w16, cast_signed, cast_unsigned, from_be_bytes, to_be_bytes}
use Rattle.avm_ops.specs.declared.imm_fault.ImmFault.{ImmFault}
use Rattle.avm_ops.specs.declared.imm_fault.ImmFault.TheVariants as fault
use Rattle.avm_ops.specs.declared.rows.Fields.{Fields}
use Rattle.avm_ops.specs.declared.rows.Format.{Format}
use Rattle.avm_ops.specs.declared.rows.Format.TheVariants as format
use Rattle.avm_ops.specs.declared.rows.Row.{Row}
use Rattle.avm_ops.specs.declared.instr.Instr.{Instr}
use Rattle.avm_ops.specs.declared.instr.DecodeFault.{DecodeFault}
use Rattle.avm_ops.specs.declared.instr.Imm.{Imm}
use Rattle.avm_ops.specs.declared.instr.Imm.TheVariants.{Nothing, Byte, Two, Signed, Int, Ints, Bytes, Blobs, Jump, Jumps}
use Rattle.avm_ops.specs.Varint.{number_at, number_in, number_bytes, spelled, more}
use Rattle.avm_ops.specs.Immediate.{Read, behind, then_read, read_as, each_in, byte_in, bytes_in, sized_in, jump_in, field_in, is_field, imm_in, imm_bytes, sized_bytes, jump_bytes, IsOf, IsSigned16, IsCountable}
use Rattle.avm_ops.specs.Table.{row_of}
use Rattle.avm_ops.specs.Code.{decoded, decoded_row, placed, HasForm, instr_bytes, decoded_at, AreBytes, IsSpeltAt, Reads}
use Rattle.avm_ops.proofs.Spelling.{last_small, more_small}

abbrev ok : {A : Type 0} → A → ℕ → Read A
ok x k = Ok (x, k)

abbrev fails : {A : Type 0} → ImmFault → Read A
fails f = Err f

abbrev value_or : {A : Type 0} → A → Read A → A
value_or d (Ok p) = p.0
value_or d (Err f) = d

abbrev used_or : {A : Type 0} → ℕ → Read A → ℕ
used_or d (Ok p) = p.1
used_or d (Err f) = d

same_value : {A : Type 0} (x y : A) (i j : ℕ) (r : Read A) → r ≡ Ok (x, i) → r ≡ Ok (y, j) → x ≡ y
same_value x y i j r e f = ap (value_or x) (sym e ∙ f)

same_used : {A : Type 0} (x y : A) (i j : ℕ) (r : Read A) → r ≡ Ok (x, i) → r ≡ Ok (y, j) → i ≡ j
same_used x y i j r e f = ap (used_or i) (sym e ∙ f)

no_value : {A : Type 0} (x : A) (i : ℕ) (f : ImmFault) → fails {A = A} f ≡ Ok (x, i) → ⊥
no_value x i f e = cc

bytes_drop : (n : ℕ) (bs : List ℕ) → AreBytes bs → AreBytes (drop n bs)
bytes_drop n bs h = λ k. rw (get_or-drop n bs k 0) (h (n + k))

-- a value read from the front of bytes is spelled as they stand, and meets its condition
pub record IsOnly {A : Type 0} (spell : A → List ℕ) (P : A → Type 0) (bs : List ℕ) (x : A) (used : ℕ) : Type 0 where
  pub spelling : take used bs ≡ spell x
  pub good : P x

-- ---- numbers

none_left : (bs : List ℕ) (n c : ℕ) → number_in 0 bs ≡ Ok (n, c) → ⊥
none_left [] n c e = no_value n c fault.Cut e
none_left (b ∷ bs) n c e = no_value n c fault.Overlong e

-- the number behind a byte that goes on
more_only : (k b : ℕ) (bs : List ℕ) (n c high : ℕ) (used : ℕ) (z : Bool) → high == 0 ≡ z → 128 ≤ b → b < 256 → 128 * high < 2 * 128 ^ k → (0 < high → take used bs ≡ spelled (k - 1) high) → 0 < k
    → (if z then fails fault.Overlong else ok (b - 128 + 128 * high) (used + 1)) ≡ Ok (n, c)
    → IsOnly (spelled k) (λ m. 128 * m < 2 * 128 ^ (k + 1)) (b ∷ bs) n c
more_only k b bs n c high used true z l h s t p e = absurd (no_value n c fault.Overlong e)
more_only zero b bs n c high used false z l h s t p e = absurd (omega arith)
more_only (suc k) b bs n c high used false z l h s t p e =
    let y : 0 < high = grind (arith, nat_tests) in
    let v : b - 128 + 128 * high ≡ n = ap (value_or n) e in
    let u : used + 1 ≡ c = ap (used_or c) e in
    let u2 : c ≡ suc used = omega (arith, u) in
    let f : nat_lt n 128 ≡ false = grind (arith, nat_tests) in
    let m : n % 128 + 128 ≡ b = omega (arith, v) in
    let d : n / 128 ≡ high = omega (arith, v) in
    let k1 : suc k - 1 ≡ k = omega arith in
    let t2 : take used bs ≡ spelled k high = rw k1 at (t y) in
    let g : 128 * (b - 128 + 128 * high) < 2 * 128 ^ (suc k + 1) = more_small b high (suc k + 1) (omega arith) h l y (let i : suc k + 1 - 1 ≡ suc k = omega arith in rw i s) in
    record { spelling = rw (u2, f, m, d) (ap (λ xs. b ∷ xs) t2); good = rw (← v) g }

number_only_by : (k b : ℕ) (bs : List ℕ) (n c : ℕ) (stop last : Bool) (r : Read ℕ) → b < 256
    → ((k + 1 == 0) || ((k + 1 == 1) && nat_lt 1 (b % 128))) ≡ stop → nat_lt b 128 ≡ last → number_in k bs ≡ r
    → ((high used : ℕ) → 0 < k → r ≡ Ok (high, used) → IsOnly (spelled (k - 1)) (λ m. 128 * m < 2 * 128 ^ k) bs high used)
    → (if stop then fails fault.Overlong else (if last then ok b 1 else more b r)) ≡ Ok (n, c)
    → IsOnly (spelled k) (λ m. 128 * m < 2 * 128 ^ (k + 1)) (b ∷ bs) n c
number_only_by k b bs n c true last r h s l q ih e = absurd (no_value n c fault.Overlong e)
number_only_by zero b bs n c false true r h s l q ih e =
    let v : b ≡ n = ap (value_or n) e in
    let u : 1 ≡ c = ap (used_or c) e in
    let o : b % 128 ≤ 1 = grind (arith, nat_tests) in
    let o2 : b < 128 = grind (arith, nat_tests) in
    let o3 : b % 128 ≡ b = omega (arith, o2) in
    record { spelling = rw (← u, ← v, o3) refl; good = rw (← v) (last_small b 1 (omega arith) o2 (λ (x : 1 ≡ 1). omega (arith, o, o3))) }
number_only_by (suc k) b bs n c false true r h s l q ih e =
    let v : b ≡ n = ap (value_or n) e in
    let u : 1 ≡ c = ap (used_or c) e in
    let o2 : b < 128 = grind (arith, nat_tests) in
    record { spelling = rw (← u, ← v, l) refl; good = rw (← v) (last_small b (suc k + 1) (omega arith) o2 (λ (x : suc k + 1 ≡ 1). absurd (omega arith))) }
number_only_by zero b bs n c false false (Ok p) h s l q ih e = absurd (none_left bs p.0 p.1 q)
number_only_by (suc k) b bs n c false false (Ok p) h s l q ih e =
    let i = ih p.0 p.1 (omega arith) refl in
    more_only (suc k) b bs n c p.0 p.1 (p.0 == 0) refl (grind (arith, nat_tests)) h i.good (λ _. i.spelling) (omega arith) e
number_only_by k b bs n c false false (Err f) h s l q ih e = absurd (no_value n c f e)

number_only_within : (k : ℕ) (bs : List ℕ) (n c : ℕ) → AreBytes bs → number_in (k + 1) bs ≡ Ok (n, c) → IsOnly (spelled k) (λ m. 128 * m < 2 * 128 ^ (k + 1)) bs n c
number_only_within k [] n c h e = absurd (no_value n c fault.Cut e)
number_only_within zero (b ∷ bs) n c h e =
    number_only_by 0 b bs n c _ _ (number_in 0 bs) (h 0) refl refl refl (λ high used p q. absurd (omega arith)) e
number_only_within (suc k) (b ∷ bs) n c h e =
    let s : suc k + 1 - 1 ≡ suc k = omega arith in
    let s2 : suc k ≡ k + 1 = omega arith in
    let s3 : suc k - 1 ≡ k = omega arith in
    number_only_by (suc k) b bs n c _ _ (number_in (suc k) bs) (h 0) refl refl refl
    (λ high used p q. rw (s3, s2) (number_only_within k bs high used (λ j. h (suc j)) (rw s2 at q)))
    (rw s at e)

pub number_only : (bs : List ℕ) (n c : ℕ) → AreBytes bs → number_at bs ≡ Ok (n, c) → IsOnly number_bytes (λ m. m < 2 ^ 64) bs n c
unfolding number_bytes
number_only bs n c h e =
    let o = number_only_within 9 bs n c h e in
    let g = o.good in
    record { spelling = o.spelling; good = omega (arith, g) }

-- ---- readings one behind the other

pub record Parts {A B : Type 0} (one : Read A) (next : A → List ℕ → Read B) (bs : List ℕ) (y : B) (k : ℕ) : Type 0 where
  pub first : A
  pub used : ℕ
  pub rest : ℕ
  pub read : one ≡ Ok (first, used)
  pub following : next first (drop used bs) ≡ Ok (y, rest)
  pub sum : k ≡ used + rest

behind_only : {B : Type 0} (used : ℕ) (s : Read B) (y : B) (k : ℕ) → behind used s ≡ Ok (y, k) → (s ≡ Ok (y, used_or 0 s)) × (k ≡ used + used_or 0 s)
behind_only used (Err f) y k e = absurd (no_value y k f e)
behind_only used (Ok q) y k e = (ap (λ v. ok v q.1) (ap (value_or y) e), sym (ap (used_or k) e))

parts : {A B : Type 0} (one : Read A) (next : A → List ℕ → Read B) (bs : List ℕ) (y : B) (k : ℕ) → then_read next bs one ≡ Ok (y, k) → Parts one next bs y k
parts (Err f) next bs y k e = absurd (no_value y k f e)
parts (Ok p) next bs y k e =
    let q = behind_only p.1 (next p.0 (drop p.1 bs)) y k e in
    record { first = p.0; used = p.1; rest = used_or 0 (next p.0 (drop p.1 bs)); read = refl; following = q.0; sum = q.1 }

pub record Named {A B : Type 0} (f : A → B) (r : Read A) (y : B) (k : ℕ) : Type 0 where
  pub value : A
  pub read : r ≡ Ok (value, k)
  pub is : f value ≡ y

named : {A B : Type 0} (f : A → B) (r : Read A) (y : B) (k : ℕ) → read_as f r ≡ Ok (y, k) → Named f r y k
named f (Err g) y k e = absurd (no_value y k g e)
named f (Ok p) y k e = record { value = p.0; read = ap (λ j. ok p.0 j) (ap (used_or k) e); is = ap (value_or y) e }

pub record AreOnly {A : Type 0} (spell : A → List ℕ) (P : A → Type 0) (n : ℕ) (bs : List ℕ) (xs : List A) (used : ℕ) : Type 0 where
  pub spelling : take used bs ≡ flat_map spell xs
  pub count : length xs ≡ n
  pub good : All P xs

-- two parts of bytes one behind the other
two_parts : (bs s t : List ℕ) (i j k : ℕ) → take i bs ≡ s → take j (drop i bs) ≡ t → k ≡ i + j → take k bs ≡ s ++ t
two_parts bs s t i j k h g e = rw (e, take-add) (ap (λ x. x ++ take j (drop i bs)) h ∙ ap (λ x. s ++ x) g)

each_only_one : {A : Type 0} (spell : A → List ℕ) (P : A → Type 0) (n : ℕ) (bs : List ℕ) (x : A) (used : ℕ) (ys : List A) (rest k : ℕ) (xs : List A)
    → IsOnly spell P bs x used → AreOnly spell P n (drop used bs) ys rest → k ≡ used + rest → x ∷ ys ≡ xs → AreOnly spell P (suc n) bs xs k
each_only_one spell P n bs x used ys rest k xs o r e f =
    rw (← f) (record {
      spelling = two_parts bs (spell x) (flat_map spell ys) used rest k o.spelling r.spelling e;
      count = ap suc r.count;
      good = All-cons P x ys o.good r.good;
    })

each_only : {A : Type 0} (one : List ℕ → Read A) (spell : A → List ℕ) (P : A → Type 0)
    → ((bs : List ℕ) (x : A) (used : ℕ) → AreBytes bs → one bs ≡ Ok (x, used) → IsOnly spell P bs x used)
    → (n : ℕ) (bs : List ℕ) (xs : List A) (used : ℕ) → AreBytes bs → each_in one n bs ≡ Ok (xs, used) → AreOnly spell P n bs xs used
each_only {A = A} one spell P h zero bs xs used b e =
    let v : [] ≡ xs = ap (value_or xs) e in
    let u : 0 ≡ used = ap (used_or used) e in
    rw (← v, ← u) (record { spelling = refl; count = refl; good = All-nil P })
each_only {A = A} one spell P h (suc n) bs xs used b e =
    let p = parts (one bs) (λ x cs. read_as (λ ys. x ∷ ys) (each_in one n cs)) bs xs used e in
    let q = named (λ ys. p.first ∷ ys) (each_in one n (drop p.used bs)) xs p.rest p.following in
    let o = h bs p.first p.used b p.read in
    let r = each_only one spell P h n (drop p.used bs) q.value p.rest (bytes_drop p.used bs b) q.read in
    each_only_one spell P n bs p.first p.used q.value p.rest used xs o r p.sum q.is

bytes_only_by : (n : ℕ) (bs b : List ℕ) (k : ℕ) (fits : Bool) → nat_le n (length bs) ≡ fits → (if fits then ok (take n bs) n else fails fault.Cut) ≡ Ok (b, k) → (n ≡ k) × (take n bs ≡ b) × (length b ≡ n)
bytes_only_by n bs b k false f e = absurd (no_value b k fault.Cut e)
bytes_only_by n bs b k true f e =
    let v : take n bs ≡ b = ap (value_or b) e in
    let l : n ≤ length bs = grind (arith, nat_tests) in
    (ap (used_or k) e, v, ap length (sym v) ∙ length-take-le n bs l)

bytes_only : (n : ℕ) (bs b : List ℕ) (k : ℕ) → bytes_in n bs ≡ Ok (b, k) → (n ≡ k) × (take n bs ≡ b) × (length b ≡ n)
bytes_only n bs b k e = bytes_only_by n bs b k (nat_le n (length bs)) refl e

sized_only : (bs b : List ℕ) (used : ℕ) → AreBytes bs → sized_in bs ≡ Ok (b, used) → IsOnly sized_bytes IsCountable bs b used
sized_only bs b used h e =
    let p = parts (number_at bs) bytes_in bs b used e in
    let o = number_only bs p.first p.used h p.read in
    let q = bytes_only p.first (drop p.used bs) b p.rest p.following in
    let t : take p.rest (drop p.used bs) ≡ b = rw (← q.0) q.1 in
    let g = o.good in
    let l = q.2 in
    record {
      spelling = two_parts bs (number_bytes p.first) b p.used p.rest used o.spelling t p.sum ∙ ap (λ n. number_bytes n ++ b) (sym l);
      good = omega (arith, g, l);
    }

byte_only : (bs : List ℕ) (x used : ℕ) → AreBytes bs → byte_in bs ≡ Ok (x, used) → IsOnly (λ b. b ∷ []) (λ b. b < 256) bs x used
byte_only [] x used h e = absurd (no_value x used fault.Cut e)
byte_only (b ∷ bs) x used h e =
    let v : b ≡ x = ap (value_or x) e in
    let u : 1 ≡ used = ap (used_or used) e in
    rw (← v, ← u) (record { spelling = refl; good = h 0 })

pair_bytes : (a b : ℕ) → a < 256 → b < 256 → (i : ℕ) → get_or (a ∷ b ∷ []) i 0 < 256
pair_bytes a b h g zero = h
pair_bytes a b h g (suc zero) = g
pair_bytes a b h g (suc (suc i)) = omega arith

jump_only : (bs : List ℕ) (j : ℤ) (used : ℕ) → AreBytes bs → jump_in bs ≡ Ok (j, used) → IsOnly jump_bytes IsSigned16 bs j used
jump_only [] j used h e = absurd (no_value j used fault.Cut e)
jump_only (a ∷ []) j used h e = absurd (no_value j used fault.Cut e)
jump_only (a ∷ b ∷ bs) j used h e =
    let v : cast_signed w16 (from_be_bytes w16 (a ∷ b ∷ [])) ≡ j = ap (value_or j) e in
    let u : 2 ≡ used = ap (used_or used) e in
    let ha : a < 256 = h 0 in
    let hb : b < 256 = h 1 in
    let f : Fits w16 (from_be_bytes w16 (a ∷ b ∷ [])) = omega (arith, ha, hb) in
    let c : cast_unsigned w16 (cast_signed w16 (from_be_bytes w16 (a ∷ b ∷ []))) ≡ from_be_bytes w16 (a ∷ b ∷ []) = of_z-to_z f in
    let s : to_be_bytes w16 (from_be_bytes w16 (a ∷ b ∷ [])) ≡ a ∷ b ∷ [] = be_bytes_2 (a ∷ b ∷ []) (from_be_bytes w16 (a ∷ b ∷ [])) refl (pair_bytes a b ha hb) refl in
    rw (← v, ← u) (record { spelling = sym (ap (to_be_bytes w16) c ∙ s); good = sfits_to_z f })

field_only_by : (fs : Fields) (b : ℕ) (x used : ℕ) (found : Bool) → is_field fs b ≡ found → (if found then ok b 1 else fails (fault.Outside b)) ≡ Ok (x, used) → (b ≡ x) × (1 ≡ used) × IsTrue (is_field fs x)
field_only_by fs b x used false f e = absurd (no_value x used (fault.Outside b) e)
field_only_by fs b x used true f e =
    let v : b ≡ x = ap (value_or x) e in
    (v, ap (used_or used) e, ap (is_field fs) (sym v) ∙ f)

field_only : (fs : Fields) (bs : List ℕ) (x used : ℕ) → field_in fs bs ≡ Ok (x, used) → IsOnly (λ b. b ∷ []) (λ b. IsTrue (is_field fs b)) bs x used
field_only fs [] x used e = absurd (no_value x used fault.Cut e)
field_only fs (b ∷ bs) x used e =
    let q = field_only_by fs b x used (is_field fs b) refl e in
    let v = q.0 in
    let u = q.1 in
    record { spelling = rw (← u, ← v) refl; good = q.2 }

-- two bytes, the first of which meets some condition
two_only : (one : List ℕ → Read ℕ) (P : ℕ → Type 0) → ((bs : List ℕ) (x used : ℕ) → AreBytes bs → one bs ≡ Ok (x, used) → IsOnly (λ b. b ∷ []) P bs x used)
    → (bs : List ℕ) (imm : Imm) (used : ℕ) → AreBytes bs → then_read (λ a cs. read_as (Two a) (byte_in cs)) bs (one bs) ≡ Ok (imm, used)
    → (a : ℕ) × (b : ℕ) × (Two a b ≡ imm) × (take used bs ≡ a ∷ b ∷ []) × P a × (b < 256)
two_only one P h bs imm used g e =
    let p = parts (one bs) (λ a cs. read_as (Two a) (byte_in cs)) bs imm used e in
    let q = named (Two p.first) (byte_in (drop p.used bs)) imm p.rest p.following in
    let o = h bs p.first p.used g p.read in
    let r = byte_only (drop p.used bs) q.value p.rest (bytes_drop p.used bs g) q.read in
    (p.first, q.value, q.is, two_parts bs (p.first ∷ []) (q.value ∷ []) p.used p.rest used o.spelling r.spelling p.sum, o.good, r.good)

abbrev Only : Format → List ℕ → Imm → ℕ → Type 0
Only f bs imm used = IsOnly imm_bytes (IsOf f) bs imm used

-- a length, and as many items
list_only : {A : Type 0} (one : List ℕ → Read A) (spell : A → List ℕ) (P : A → Type 0)
    → ((bs : List ℕ) (x : A) (used : ℕ) → AreBytes bs → one bs ≡ Ok (x, used) → IsOnly spell P bs x used)
    → (bs : List ℕ) (xs : List A) (used : ℕ) → AreBytes bs → then_read (each_in one) bs (number_at bs) ≡ Ok (xs, used)
    → IsOnly (λ ys. number_bytes (length ys) ++ flat_map spell ys) (λ ys. IsCountable ys × All P ys) bs xs used
list_only one spell P h bs xs used g e =
    let p = parts (number_at bs) (each_in one) bs xs used e in
    let o = number_only bs p.first p.used g p.read in
    let r = each_only one spell P h p.first (drop p.used bs) xs p.rest (bytes_drop p.used bs g) p.following in
    let l = r.count in
    let s = o.good in
    record {
      spelling = two_parts bs (number_bytes p.first) (flat_map spell xs) p.used p.rest used o.spelling r.spelling p.sum ∙ ap (λ n. number_bytes n ++ flat_map spell xs) (sym l);
      good = (omega (arith, l, s), r.good);
    }

jumps_only : (bs : List ℕ) (js : List ℤ) (used : ℕ) → AreBytes bs → then_read (each_in jump_in) bs (byte_in bs) ≡ Ok (js, used)
    → IsOnly (λ js. length js ∷ flat_map jump_bytes js) (λ js. (length js < 256) × All IsSigned16 js) bs js used
jumps_only bs js used g e =
    let p = parts (byte_in bs) (each_in jump_in) bs js used e in
    let o = byte_only bs p.first p.used g p.read in
    let r = each_only jump_in jump_bytes IsSigned16 jump_only p.first (drop p.used bs) js p.rest (bytes_drop p.used bs g) p.following in
    let l = r.count in
    let s = o.good in
    record {
      spelling = two_parts bs (p.first ∷ []) (flat_map jump_bytes js) p.used p.rest used o.spelling r.spelling p.sum ∙ ap (λ n. n ∷ flat_map jump_bytes js) (sym l);
      good = (omega (arith, l, s), r.good);
    }

signed_only : (bs : List ℕ) (b used : ℕ) → IsOnly (λ b. b ∷ []) (λ b. b < 256) bs b used → Only format.Signed bs (Signed (cast_signed w8 b)) used
signed_only bs b used o =
    let g = o.good in
    let f : Fits w8 b = omega (arith, g) in
    let c : cast_unsigned w8 (cast_signed w8 b) ≡ b = of_z-to_z f in
    record { spelling = o.spelling ∙ ap (λ x. x ∷ []) (sym c); good = sfits_to_z f }

imm_only : (f : Format) (bs : List ℕ) (imm : Imm) (used : ℕ) → AreBytes bs → imm_in f bs ≡ Ok (imm, used) → Only f bs imm used
imm_only format.Nothing bs imm used h e =
    let v : Nothing ≡ imm = ap (value_or imm) e in
    let u : 0 ≡ used = ap (used_or used) e in
    rw (← v, ← u) (record { spelling = refl; good = tt })
imm_only format.Byte bs imm used h e =
    let q = named Byte (byte_in bs) imm used e in
    let o = byte_only bs q.value used h q.read in
    let P : Imm → Type 0 = λ i. Only format.Byte bs i used in
    subst P q.is (record { spelling = o.spelling; good = o.good })
imm_only format.Two bs imm used h e =
    let q = two_only byte_in (λ b. b < 256) byte_only bs imm used h e in
    let P : Imm → Type 0 = λ i. Only format.Two bs i used in
    subst P q.2 (record { spelling = q.3; good = (q.4, q.5) })
imm_only format.Signed bs imm used h e =
    let q = named (λ b. Signed (cast_signed w8 b)) (byte_in bs) imm used e in
    let P : Imm → Type 0 = λ i. Only format.Signed bs i used in
    subst P q.is (signed_only bs q.value used (byte_only bs q.value used h q.read))
imm_only format.Int bs imm used h e =
    let q = named Int (number_at bs) imm used e in
    let o = number_only bs q.value used h q.read in
    let P : Imm → Type 0 = λ i. Only format.Int bs i used in
    subst P q.is (record { spelling = o.spelling; good = o.good })
imm_only format.Ints bs imm used h e =
    let q = named Ints (then_read (each_in number_at) bs (number_at bs)) imm used e in
    let o = list_only number_at number_bytes (λ n. n < 2 ^ 64) number_only bs q.value used h q.read in
    let P : Imm → Type 0 = λ i. Only format.Ints bs i used in
    subst P q.is (record { spelling = o.spelling; good = o.good })
imm_only format.Bytes bs imm used h e =
    let q = named Bytes (sized_in bs) imm used e in
    let o = sized_only bs q.value used h q.read in
    let P : Imm → Type 0 = λ i. Only format.Bytes bs i used in
    subst P q.is (record { spelling = o.spelling; good = o.good })
imm_only format.Blobs bs imm used h e =
    let q = named Blobs (then_read (each_in sized_in) bs (number_at bs)) imm used e in
    let o = list_only sized_in sized_bytes IsCountable sized_only bs q.value used h q.read in
    let P : Imm → Type 0 = λ i. Only format.Blobs bs i used in
    subst P q.is (record { spelling = o.spelling; good = o.good })
imm_only format.Jump bs imm used h e =
    let q = named Jump (jump_in bs) imm used e in
    let o = jump_only bs q.value used h q.read in
    let P : Imm → Type 0 = λ i. Only format.Jump bs i used in
    subst P q.is (record { spelling = o.spelling; good = o.good })
imm_only format.Jumps bs imm used h e =
    let q = named Jumps (then_read (each_in jump_in) bs (byte_in bs)) imm used e in
    let o = jumps_only bs q.value used h q.read in
    let P : Imm → Type 0 = λ i. Only format.Jumps bs i used in
    subst P q.is (record { spelling = o.spelling; good = o.good })
imm_only (format.Field fs) bs imm used h e =
    let q = named Byte (field_in fs bs) imm used e in
    let o = field_only fs bs q.value used q.read in
    let P : Imm → Type 0 = λ i. Only (format.Field fs) bs i used in
    subst P q.is (record { spelling = o.spelling; good = o.good })
imm_only (format.FieldAndByte fs) bs imm used h e =
    let q = two_only (field_in fs) (λ b. IsTrue (is_field fs b)) (λ cs x k g r. field_only fs cs x k r) bs imm used h e in
    let P : Imm → Type 0 = λ i. Only (format.FieldAndByte fs) bs i used in
    subst P q.2 (record { spelling = q.3; good = (q.4, q.5) })

abbrev outcome : Instr → ℕ → Result (Instr × ℕ) DecodeFault
outcome i next = Ok (i, next)

abbrev instr_or : Instr → Result (Instr × ℕ) DecodeFault → Instr
instr_or d (Ok p) = p.0
instr_or d (Err f) = d

abbrev next_or : ℕ → Result (Instr × ℕ) DecodeFault → ℕ
next_or d (Ok p) = p.1
next_or d (Err f) = d

abbrev Spelt : ℕ → List ℕ → Instr → ℕ → Type 0
Spelt pc bs i next = (take (next - pc) bs ≡ instr_bytes i) × HasForm i

no_instr : (f : DecodeFault) (i : Instr) (next : ℕ) → Err f ≡ outcome i next → ⊥
no_instr f i next e = cc

placed_only : (pc op : ℕ) (bs : List ℕ) (row : Row) (r : Read Imm) (i : Instr) (next : ℕ) → AreBytes bs → row_of op ≡ Some row → imm_in row.format bs ≡ r → placed pc op r ≡ outcome i next → Spelt pc (op ∷ bs) i next
placed_only pc op bs row (Ok p) i next h f g e =
    let v : record { op = op; imm = p.0 } ≡ i = ap (instr_or i) e in
    let u : pc + 1 + p.1 ≡ next = ap (next_or next) e in
    let o = imm_only row.format bs p.0 p.1 h g in
    let n : next - pc ≡ suc p.1 = omega (arith, u) in
    let P : Instr → Type 0 = λ j. Spelt pc (op ∷ bs) j next in
    let form : HasForm (record { op = op; imm = p.0 }) = rw f o.good in
    subst P v (rw n (ap (λ s. op ∷ s) o.spelling), form)
placed_only pc op bs row (Err fault.Cut) i next h f g e = absurd (no_instr _ i next e)
placed_only pc op bs row (Err (fault.Outside b)) i next h f g e = absurd (no_instr _ i next e)
placed_only pc op bs row (Err fault.Overlong) i next h f g e = absurd (no_instr _ i next e)
placed_only pc op bs row (Err fault.Memory) i next h f g e = absurd (no_instr _ i next e)

row_only : (pc op : ℕ) (bs : List ℕ) (row : Option Row) (i : Instr) (next : ℕ) → AreBytes bs → row_of op ≡ row → decoded_row pc op bs row ≡ outcome i next → Spelt pc (op ∷ bs) i next
row_only pc op bs None i next h f e = absurd (no_instr _ i next e)
row_only pc op bs (Some row) i next h f e = placed_only pc op bs row (imm_in row.format bs) i next h f refl e

instr_only : (pc : ℕ) (bs : List ℕ) (i : Instr) (next : ℕ) → AreBytes bs → decoded pc bs ≡ outcome i next → Spelt pc bs i next
instr_only pc [] i next h e = absurd (no_instr _ i next e)
instr_only pc (op ∷ bs) i next h e = row_only pc op bs (row_of op) i next (λ k. h (suc k)) refl e

pub spelt_at : (code : List ℕ) (pc : ℕ) (i : Instr) (next : ℕ) → AreBytes code → decoded_at code pc ≡ Ok (i, next) → IsSpeltAt code pc i next
spelt_at code pc i next h e = instr_only pc (drop pc code) i next (bytes_drop pc code h) e

-- an instruction that a call has read has its row's form
pub form_of_read : (code : List ℕ) (pc : ℕ) (r : Result (Instr × ℕ) DecodeFault) → AreBytes code → Reads r (decoded_at code pc) → IfOk r (λ p. HasForm p.0)
form_of_read code pc (Ok p) h e = (spelt_at code pc p.0 p.1 h e).1
form_of_read code pc (Err f) h e = tt
