-- Heads and tails read part by part.
use Rattle.std.proofs.Common.{◌≡◌, ◌∙◌, ℕ, zero, suc, ◌+◌, ◌-◌, ◌<◌, ◌≤◌, max, Bool, true, false, cond, List, [], ◌∷◌, ◌++◌, length, take, drop, map, Option, Some, None, Result, Ok, Err, refl, sym, ap, subst, arith, append_assoc}
use Rattle.std.proofs.lemmas.List.{append-nil, map-append, drop-drop}
use Rattle.std.specs.Prelude.{slice_get}
use Rattle.arc4_types.specs.declared.abi.Abi.{Abi}
use Rattle.arc4_types.specs.declared.abi.Abi.TheVariants.{Array, Fixed, Tuple}
use Rattle.arc4_types.specs.declared.form.Form.{Form}
use Rattle.arc4_types.specs.declared.form.Form.TheVariants as form
use Rattle.arc4_types.specs.declared.abi_fault.AbiFault.{AbiFault}
use Rattle.arc4_types.specs.declared.abi_fault.AbiFault.TheVariants as fault
use Rattle.arc4_types.specs.declared.abi_value.AbiValue.{AbiValue}
use Rattle.arc4_types.specs.declared.abi_value.AbiValue.TheVariants.{Parts}
use Rattle.arc4_types.specs.declared.entry.Entry.{Entry}
use Rattle.arc4_types.specs.Types.{Ty, Tys, type_of, tys_of, is_byte, text, array}
use Rattle.arc4_types.specs.Values.{Val, Vals, parts, value_of, vals_of}
use Rattle.arc4_types.specs.Groups.{Part, Group, octet, static, dynamic, forms, bools_in, form_of, by_form, groups, part_of, group_of, covered, row_of}
use Rattle.arc4_types.specs.Reading.{◌>>=◌, Reads, Told, mapped, number_at, first_told, head_at, tail_at, tails_at, row_at, codes_in, reading, readings, Fails, Gives}
use Rattle.arc4_types.specs.Views.{told_of, all_told, readers}
use Rattle.arc4_types.proofs.Equations.{type-Array, type-Fixed, type-Tuple, value-Parts}
use Rattle.arc4_types.proofs.Heads.{next_group, past_parts, mapped_from}
use Rattle.arc4_types.proofs.Placing.{map-replicate, row_of_all, covered_is, no_bools}
use Rattle.std.specs.Int.{w16}
use Rattle.std.proofs.Math.ListN.{replicate}

-- what was told before, and what the rest tells
abbrev pub told_behind : List Told → Result (List Told × List ℕ) AbiFault → Result (List Told × List ℕ) AbiFault
told_behind front r = mapped (λ ts. front ++ ts) r

behind : (front new : List Told) (r : Result (List Told × List ℕ) AbiFault) → told_behind front (mapped (λ ts. new ++ ts) r) ≡ told_behind (front ++ new) r
behind front new (Ok x) = ap (λ (ts : List Told). Ok (ts, x.1)) (sym (append_assoc front new x.0))
behind front new (Err e) = refl

-- of the part that is told next
record Next (front : List Told) (first : Result (List Told × List ℕ) AbiFault) (new : List Told) (rest : List ℕ) : Type 0 where
  told : List Told
  is : first ≡ Ok (told, rest)
  new_is : front ++ told ≡ new

abbrev ok_told : (List Told × List ℕ) → Result (List Told × List ℕ) AbiFault
ok_told x = Ok x

ok_pair : (x y : List Told × List ℕ) → ok_told x ≡ ok_told y → x ≡ y
ok_pair x y e = cc

next_told : (front new : List Told) (rest : List ℕ) (first : Result (List Told × List ℕ) AbiFault) → told_behind front first ≡ Ok (new, rest) → Next front first new rest
next_told front new rest (Ok x) e =
    record { told = x.0; is = ap (λ (p : List Told × List ℕ). Ok (x.0, p.1)) (ok_pair (front ++ x.0, x.1) (new, rest) e); new_is = ap (λ (p : List Told × List ℕ). p.0) (ok_pair (front ++ x.0, x.1) (new, rest) e) }
next_told front new rest (Err d) e = absurd cc

module _ (ts : List Abi) (i n : ℕ) (t : Abi) (e : slice_get ts i ≡ Some t) (b : n ≡ bools_in (drop i (map (λ t. form_of (type_of t)) ts)) 8) where
  head_splits : (bs : List ℕ) → head_at (groups 0 (drop i (map (part_of reading) ts))) bs ≡ (first_told (group_of reading t (max n 1)) bs >>= λ x. told_behind x.0 (head_at (groups 0 (drop (i + max n 1) (map (part_of reading) ts))) x.1))
  head_splits bs = ap (λ (gs : List (Group (Reads Val))). head_at gs bs) (next_group reading ts i n t e b)

-- one more part is told
pub head_more : (ts : List Abi) (i n end k : ℕ) (t : Abi) (front more : List Told) (bs rest : List ℕ) (total : Result (List Told × List ℕ) AbiFault)
    → slice_get ts i ≡ Some t → n ≡ bools_in (drop i (map (λ t. form_of (type_of t)) ts)) 8 → k ≡ max n 1 → end ≡ i + k
    → told_behind front (first_told (group_of reading t k) bs) ≡ Ok (more, rest)
    → told_behind front (head_at (groups 0 (drop i (map (part_of reading) ts))) bs) ≡ total
    → told_behind more (head_at (groups 0 (drop end (map (part_of reading) ts))) rest) ≡ total
head_more ts i n end k t front more bs rest total e b c d f h =
    let g : told_behind front (first_told (group_of reading t (max n 1)) bs) ≡ Ok (more, rest) = ap (λ z. told_behind front (first_told (group_of reading t z) bs)) (sym c) ∙ f in
    let x = next_told front more rest (first_told (group_of reading t (max n 1)) bs) g in
    let q : end ≡ i + max n 1 = d ∙ ap (λ z. i + z) c in
    let r = head_at (groups 0 (drop (i + max n 1) (map (part_of reading) ts))) rest in
    let s : told_behind front (told_behind x.told r) ≡ total =
    ap (λ z. told_behind front (z >>= λ x. told_behind x.0 (head_at (groups 0 (drop (i + max n 1) (map (part_of reading) ts))) x.1))) (sym x.is) ∙ ap (told_behind front) (sym (head_splits ts i n t e b bs)) ∙ h in
    ap (λ z. told_behind more (head_at (groups 0 (drop z (map (part_of reading) ts))) rest)) q ∙ ap (λ z. told_behind z r) (sym x.new_is) ∙ sym (behind front x.told r) ∙ s

fails_bind : {A B : Type 0} (d : AbiFault) (r : Result A AbiFault) (f : A → Result B AbiFault) → Fails d r → Fails d (r >>= f)
fails_bind fault.Memory r f h = tt
fails_bind fault.Length r f h = ap (λ z. z >>= f) h
fails_bind fault.Offset r f h = ap (λ z. z >>= f) h
fails_bind fault.Bit r f h = ap (λ z. z >>= f) h

fails_mapped : {A B : Type 0} (d : AbiFault) (f : A → B) (r : Result (A × List ℕ) AbiFault) → Fails d r → Fails d (mapped f r)
fails_mapped fault.Memory f r h = tt
fails_mapped fault.Length f r h = ap (mapped f) h
fails_mapped fault.Offset f r h = ap (mapped f) h
fails_mapped fault.Bit f r h = ap (mapped f) h

fails_err : (A B : Type 0) (d x : AbiFault) → Fails {Y = A} d (Err x) → Fails {Y = B} d (Err x)
fails_err A B fault.Memory x h = tt
fails_err A B fault.Length x h = cc
fails_err A B fault.Offset x h = cc
fails_err A B fault.Bit x h = cc

fails_ok : (A B : Type 0) (d : AbiFault) (x : A) (y : B) → Fails {Y = A} d (Ok x) → Fails {Y = B} d (Ok y)
fails_ok A B fault.Memory x y h = tt
fails_ok A B fault.Length x y h = absurd cc
fails_ok A B fault.Offset x y h = absurd cc
fails_ok A B fault.Bit x y h = absurd cc

fails_first : (d : AbiFault) (front : List Told) (r : Result (List Told × List ℕ) AbiFault) → Fails d (told_behind front r) → Fails d r
fails_first d front (Err x) h = fails_err (List Told × List ℕ) (List Told × List ℕ) d x h
fails_first d front (Ok x) h = fails_ok (List Told × List ℕ) (List Told × List ℕ) d (front ++ x.0, x.1) x h

-- a part that fails
pub head_fails : (ts : List Abi) (i n k : ℕ) (t : Abi) (d : AbiFault) (front : List Told) (bs : List ℕ) (total : Result (List Told × List ℕ) AbiFault)
    → slice_get ts i ≡ Some t → n ≡ bools_in (drop i (map (λ t. form_of (type_of t)) ts)) 8 → k ≡ max n 1
    → Fails d (told_behind front (first_told (group_of reading t k) bs))
    → told_behind front (head_at (groups 0 (drop i (map (part_of reading) ts))) bs) ≡ total → Fails d total
head_fails ts i n k t d front bs total e b c f h =
    let g : Fails d (first_told (group_of reading t (max n 1)) bs) = subst (λ z. Fails d (first_told (group_of reading t z) bs)) c (fails_first d front (first_told (group_of reading t k) bs) f) in
    let s = fails_bind d (first_told (group_of reading t (max n 1)) bs) (λ x. told_behind x.0 (head_at (groups 0 (drop (i + max n 1) (map (part_of reading) ts))) x.1)) g in
    let w : Fails d (head_at (groups 0 (drop i (map (part_of reading) ts))) bs) = subst (λ (z : Result (List Told × List ℕ) AbiFault). Fails d z) (sym (head_splits ts i n t e b bs)) s in
    subst (λ (z : Result (List Told × List ℕ) AbiFault). Fails d z) h (fails_mapped d (λ ts. front ++ ts) (head_at (groups 0 (drop i (map (part_of reading) ts))) bs) w)

-- all parts are told
pub head_done : (ts : List Abi) (i : ℕ) (front : List Told) (bs : List ℕ) (total : Result (List Told × List ℕ) AbiFault) → length ts ≤ i
    → told_behind front (head_at (groups 0 (drop i (map (part_of reading) ts))) bs) ≡ total → total ≡ Ok (front, bs)
head_done ts i front bs total l h =
    sym h ∙ ap (λ ps. told_behind front (head_at (groups 0 ps) bs)) (past_parts (part_of reading) ts i l) ∙ ap (λ (z : List Told). Ok (z, bs)) (append-nil front)

pub told_covers : (ts : List Abi) (i n k : ℕ) (t : Abi) → slice_get ts i ≡ Some t → n ≡ bools_in (drop i (map (λ t. form_of (type_of t)) ts)) 8 → k ≡ max n 1 → covered (group_of reading t k) ≡ k
told_covers ts i n k t e b c =
    let f = form_of (type_of t) in
    let z : n ≡ by_form f n 0 0 = no_bools (drop (suc i) (map (λ t. form_of (type_of t)) ts)) f n (b ∙ ap (λ fs. bools_in fs 8) (mapped_from (λ t. form_of (type_of t)) ts i t e)) in
    ap (λ m. covered (group_of reading t m)) c ∙ covered_is f (reading (type_of t)) n z ∙ sym c

-- ---- tails

-- the values so far, and those that the rest gives
abbrev pub values_behind : List Val → Result (List Val × List ℕ) AbiFault → Result (List Val × List ℕ) AbiFault
values_behind front r = mapped (λ vs. front ++ vs) r

behind_value : (front : List Val) (v : Val) (r : Result (List Val × List ℕ) AbiFault) → values_behind front (mapped (λ vs. v ∷ vs) r) ≡ values_behind (front ++ v ∷ []) r
behind_value front v (Ok x) = ap (λ (vs : List Val). Ok (vs, x.1)) (sym (append_assoc front (v ∷ []) x.0))
behind_value front v (Err e) = refl

readers_from : (ts : List Abi) (i : ℕ) (t : Abi) → slice_get ts i ≡ Some t → drop i (readers ts) ≡ reading (type_of t) ∷ drop (i + 1) (readers ts)
readers_from ts i t e =
    let s : suc i ≡ i + 1 = omega arith in
    mapped_from (λ t. reading (type_of t)) ts i t e ∙ ap (λ k. reading (type_of t) ∷ drop k (readers ts)) s

tails_split : (ts : List Abi) (i whole : ℕ) (t : Abi) (x : Told) (xs : List Told) (bs : List ℕ) → slice_get ts i ≡ Some t
    → tails_at whole (drop i (readers ts)) (x ∷ xs) bs ≡ (tail_at whole (reading (type_of t)) x bs >>= λ y. mapped (λ vs. y.0 ∷ vs) (tails_at whole (drop (i + 1) (readers ts)) xs y.1))
tails_split ts i whole t x xs bs e = ap (λ rs. tails_at whole rs (x ∷ xs) bs) (readers_from ts i t e)

pub tails_more : (ts : List Abi) (i whole : ℕ) (t : Abi) (x : Told) (front more : List Val) (v : Val) (here left : List Told) (bs rest : List ℕ) (total : Result (List Val × List ℕ) AbiFault)
    → slice_get ts i ≡ Some t → here ≡ x ∷ left → more ≡ front ++ v ∷ []
    → tail_at whole (reading (type_of t)) x bs ≡ Ok (v, rest)
    → values_behind front (tails_at whole (drop i (readers ts)) here bs) ≡ total
    → values_behind more (tails_at whole (drop (i + 1) (readers ts)) left rest) ≡ total
tails_more ts i whole t x front more v here left bs rest total e p m f h =
    let r = tails_at whole (drop (i + 1) (readers ts)) left rest in
    let s : values_behind front (mapped (λ vs. v ∷ vs) r) ≡ total =
    ap (λ z. values_behind front (z >>= λ y. mapped (λ vs. y.0 ∷ vs) (tails_at whole (drop (i + 1) (readers ts)) left y.1))) (sym f)
    ∙ ap (values_behind front) (sym (tails_split ts i whole t x left bs e)) ∙ ap (λ z. values_behind front (tails_at whole (drop i (readers ts)) z bs)) (sym p) ∙ h in
    ap (λ z. values_behind z r) m ∙ sym (behind_value front v r) ∙ s

pub tails_fail : (ts : List Abi) (i whole : ℕ) (t : Abi) (d : AbiFault) (x : Told) (front : List Val) (here left : List Told) (bs : List ℕ) (total : Result (List Val × List ℕ) AbiFault)
    → slice_get ts i ≡ Some t → here ≡ x ∷ left → Fails d (tail_at whole (reading (type_of t)) x bs)
    → values_behind front (tails_at whole (drop i (readers ts)) here bs) ≡ total → Fails d (mapped (λ vs. parts (vals_of vs)) total)
tails_fail ts i whole t d x front here left bs total e p f h =
    let s = fails_bind d (tail_at whole (reading (type_of t)) x bs) (λ y. mapped (λ vs. y.0 ∷ vs) (tails_at whole (drop (i + 1) (readers ts)) left y.1)) f in
    let w : Fails d (tails_at whole (drop i (readers ts)) (x ∷ left) bs) = subst (λ (z : Result (List Val × List ℕ) AbiFault). Fails d z) (sym (tails_split ts i whole t x left bs e)) s in
    let u : Fails d (tails_at whole (drop i (readers ts)) here bs) = subst (λ z. Fails d (tails_at whole (drop i (readers ts)) z bs)) (sym p) w in
    fails_mapped d (λ vs. parts (vals_of vs)) total (subst (λ (z : Result (List Val × List ℕ) AbiFault). Fails d z) h (fails_mapped d (λ vs. front ++ vs) (tails_at whole (drop i (readers ts)) here bs) u))

pub tails_done : (reads : List (Reads Val)) (whole : ℕ) (values : List AbiValue) (here : List Told) (bs : List ℕ) (total : Result (List Val × List ℕ) AbiFault)
    → here ≡ [] → values_behind (map value_of values) (tails_at whole reads here bs) ≡ total → mapped (λ vs. parts (vals_of vs)) total ≡ Ok (value_of (Parts values), bs)
tails_done reads whole values here bs total p h =
    ap (mapped (λ vs. parts (vals_of vs))) (sym h) ∙ ap (λ z. mapped (λ vs. parts (vals_of vs)) (values_behind (map value_of values) (tails_at whole reads z bs))) p
    ∙ ap (λ (z : List Val). mapped (λ vs. parts (vals_of vs)) (Ok (z, bs))) (append-nil (map value_of values)) ∙ ap (λ v. Ok (v, bs)) (sym (value-Parts values))

-- ---- rows

codes-parts : (ts : List Abi) → codes_in (map (part_of reading) ts) ≡ readers ts
codes-parts [] = refl
codes-parts (t ∷ ts) = ap (λ rs. reading (type_of t) ∷ rs) (codes-parts ts)

pub row_splits : (ts : List Abi) (whole : ℕ) (told : List Told) (bs rest : List ℕ) → head_at (groups 0 (map (part_of reading) ts)) bs ≡ Ok (told, rest) → whole ≡ length bs
    → row_at (map (part_of reading) ts) bs ≡ mapped (λ vs. parts (vals_of vs)) (tails_at whole (readers ts) told rest)
row_splits ts whole told bs rest h w =
    ap (λ z. z >>= λ x. mapped (λ vs. parts (vals_of vs)) (tails_at (length bs) (codes_in (map (part_of reading) ts)) x.0 x.1)) h
    ∙ ap (λ z. mapped (λ vs. parts (vals_of vs)) (tails_at (length bs) z told rest)) (codes-parts ts)
    ∙ ap (λ z. mapped (λ vs. parts (vals_of vs)) (tails_at z (readers ts) told rest)) (sym w)

pub row_fails : (ts : List Abi) (d : AbiFault) (bs : List ℕ) → Fails d (head_at (groups 0 (map (part_of reading) ts)) bs) → Fails d (row_at (map (part_of reading) ts) bs)
row_fails ts d bs h = fails_bind d (head_at (groups 0 (map (part_of reading) ts)) bs) (λ x. mapped (λ vs. parts (vals_of vs)) (tails_at (length bs) (codes_in (map (part_of reading) ts)) x.0 x.1)) h

readings-types : (ts : List Abi) → readings (tys_of (map type_of ts)) ≡ map (part_of reading) ts
readings-types [] = refl
readings-types (t ∷ ts) = ap (λ ps. part_of reading t ∷ ps) (readings-types ts)

pub fixed_reading : (ty item : Abi) (types : List Abi) (n : ℕ) (bs : List ℕ) → ty ≡ Fixed item n → types ≡ item ∷ [] → reading (type_of ty) bs ≡ row_at (map (part_of reading) (row_of types n)) bs
fixed_reading ty item types n bs e t =
    ap (λ k. reading (type_of k) bs) e ∙ ap (λ k. reading k bs) (type-Fixed item n) ∙ ap (λ ps. row_at ps bs) (sym (map-replicate (part_of reading) n item)) ∙ ap (λ ts. row_at (map (part_of reading) (row_of ts n)) bs) (sym t)

pub tuple_reading : (ty : Abi) (ts types : List Abi) (n : ℕ) (bs : List ℕ) → ty ≡ Tuple ts → types ≡ ts → n ≡ length ts → reading (type_of ty) bs ≡ row_at (map (part_of reading) (row_of types n)) bs
tuple_reading ty ts types n bs e t l =
    ap (λ k. reading (type_of k) bs) e ∙ ap (λ k. reading k bs) (type-Tuple ts) ∙ ap (λ ps. row_at ps bs) (readings-types ts)
    ∙ ap (λ us. row_at (map (part_of reading) us) bs) (sym (row_of_all ts)) ∙ ap (λ k. row_at (map (part_of reading) (row_of ts k)) bs) (sym l) ∙ ap (λ us. row_at (map (part_of reading) (row_of us n)) bs) (sym t)

array_is : (ty item : Abi) (bs : List ℕ) → ty ≡ Array item → is_byte (type_of item) ≡ false → reading (type_of ty) bs ≡ (number_at w16 bs >>= λ n. row_at (replicate n.0 (part_of reading item)) n.1)
array_is ty item bs e b =
    let k : type_of ty ≡ array (type_of item) = ap type_of e ∙ type-Array item ∙ ap (λ x. cond x text (array (type_of item))) b in
    ap (λ k. reading k bs) k

pub array_reading : (ty item : Abi) (types : List Abi) (n m : ℕ) (bs rest : List ℕ) → ty ≡ Array item → is_byte (type_of item) ≡ false → types ≡ item ∷ [] → number_at w16 bs ≡ Ok (n, rest) → m ≡ n
    → reading (type_of ty) bs ≡ row_at (map (part_of reading) (row_of types m)) rest
array_reading ty item types n m bs rest e b t h q =
    array_is ty item bs e b ∙ ap (λ z. z >>= λ n. row_at (replicate n.0 (part_of reading item)) n.1) h ∙ ap (λ ps. row_at ps rest) (sym (map-replicate (part_of reading) n item))
    ∙ ap (λ k. row_at (map (part_of reading) (replicate k item)) rest) (sym q) ∙ ap (λ ts. row_at (map (part_of reading) (row_of ts m)) rest) (sym t)

pub array_fails : (ty item : Abi) (d : AbiFault) (bs : List ℕ) → ty ≡ Array item → is_byte (type_of item) ≡ false → Fails d (number_at w16 bs) → Fails d (reading (type_of ty) bs)
array_fails ty item d bs e b h =
    subst (λ (z : Result (Val × List ℕ) AbiFault). Fails d z) (sym (array_is ty item bs e b)) (fails_bind d (number_at w16 bs) (λ n. row_at (replicate n.0 (part_of reading item)) n.1) h)
