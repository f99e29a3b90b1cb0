-- What rows of parts are written as.
use Rattle.std.proofs.Common.{◌≡◌, ◌∙◌, ℕ, ◌<◌, Bool, true, false, cond, ltb, List, [], ◌∷◌, ◌++◌, length, map, Option, Some, None, Result, Ok, Err, refl, sym, ap, subst, arith}
use Rattle.std.proofs.lemmas.List.{length-map}
use Rattle.std.proofs.Math.ListN.{replicate, length-replicate}
use Rattle.std.specs.Prelude.{IfOk, option_map}
use Rattle.std.specs.Int.{w16, to_be_bytes}
use Rattle.arc4_types.specs.declared.abi.Abi.{Abi}
use Rattle.arc4_types.specs.declared.abi.Abi.TheVariants.{Array, Fixed, Tuple}
use Rattle.arc4_types.specs.declared.abi_value.AbiValue.{AbiValue}
use Rattle.arc4_types.specs.declared.abi_value.AbiValue.TheVariants.{Parts}
use Rattle.arc4_types.specs.Types.{type_of, tys_of, is_byte, text, array}
use Rattle.arc4_types.specs.Values.{Val, parts, value_of, vals_of, items_of}
use Rattle.arc4_types.specs.Groups.{Part, part_of, row_of}
use Rattle.arc4_types.specs.Encoding.{Codes, coding, codings, row_coding, tuple_coding, array_coding, counted_coding}
use Rattle.arc4_types.proofs.Equations.{type-Array, type-Fixed, type-Tuple, value-Parts}
use Rattle.arc4_types.proofs.Placing.{items-vals, codings-types, map-replicate, row_of_all, row_of_others}

pub along : {A E : Type 0} (r : Result A E) (x y : A) → x ≡ y → IfOk r (λ z. z ≡ x) → IfOk r (λ z. z ≡ y)
along r x y e h = subst (λ z. IfOk r (λ a. a ≡ z)) e h

pub fixed_row : (ty item : Abi) (types : List Abi) (n : ℕ) (v : Val) → ty ≡ Fixed item n → types ≡ item ∷ [] → tuple_coding (map (part_of coding) (row_of types n)) v ≡ coding (type_of ty) v
fixed_row ty item types n v e t =
    ap (λ ts. tuple_coding (map (part_of coding) (row_of ts n)) v) t
    ∙ ap (λ ps. tuple_coding ps v) (map-replicate (part_of coding) n item)
    ∙ ap (λ k. coding k v) (sym (type-Fixed item n))
    ∙ ap (λ k. coding (type_of k) v) (sym e)

pub tuple_row : (ty : Abi) (ts types : List Abi) (n : ℕ) (v : Val) → ty ≡ Tuple ts → types ≡ ts → n ≡ length ts → tuple_coding (map (part_of coding) (row_of types n)) v ≡ coding (type_of ty) v
tuple_row ty ts types n v e t l =
    ap (λ us. tuple_coding (map (part_of coding) (row_of us n)) v) t
    ∙ ap (λ k. tuple_coding (map (part_of coding) (row_of ts k)) v) l
    ∙ ap (λ us. tuple_coding (map (part_of coding) us) v) (row_of_all ts)
    ∙ ap (λ ps. tuple_coding ps v) (sym (codings-types ts))
    ∙ ap (λ k. coding k v) (sym (type-Tuple ts))
    ∙ ap (λ k. coding (type_of k) v) (sym e)

pub array_row : (ty item : Abi) (v : Val) → ty ≡ Array item → is_byte (type_of item) ≡ false → array_coding (part_of coding item) v ≡ coding (type_of ty) v
array_row ty item v e b =
    let k : type_of ty ≡ array (type_of item) = ap type_of e ∙ type-Array item ∙ ap (λ x. cond x text (array (type_of item))) b in
    ap (λ k. coding k v) (sym k)

pub tuple_parts : (ps : List (Part Codes)) (value : AbiValue) (items : List AbiValue) → value ≡ Parts items → row_coding ps (map value_of items) ≡ tuple_coding ps (value_of value)
tuple_parts ps value items e =
    ap (row_coding ps) (sym (items-vals (map value_of items))) ∙ ap (tuple_coding ps) (sym (value-Parts items)) ∙ ap (λ x. tuple_coding ps (value_of x)) (sym e)

-- the count before the parts, where the parts have an encoding or not
abbrev counted : ℕ → Option (List ℕ) → Option (List ℕ)
counted n o = cond (ltb n 65536) (option_map (λ b. to_be_bytes w16 n ++ b) o) None

array_parts : (t : Abi) (value : AbiValue) (items : List AbiValue) → value ≡ Parts items → counted (length items) (row_coding (map (part_of coding) (replicate (length items) t)) (map value_of items)) ≡ array_coding (part_of coding t) (value_of value)
array_parts t value items e =
    ap (λ ps. counted (length items) (row_coding ps (map value_of items))) (map-replicate (part_of coding) (length items) t)
    ∙ ap (λ n. counted n (row_coding (replicate n (part_of coding t)) (map value_of items))) (sym (length-map items value_of))
    ∙ ap (counted_coding (part_of coding t)) (sym (items-vals (map value_of items)))
    ∙ ap (array_coding (part_of coding t)) (sym (value-Parts items))
    ∙ ap (λ x. array_coding (part_of coding t) (value_of x)) (sym e)

pub array_some : (t : Abi) (types : List Abi) (value : AbiValue) (items : List AbiValue) (b : List ℕ) → value ≡ Parts items → types ≡ t ∷ []
    → Some b ≡ row_coding (map (part_of coding) (row_of types (length items))) (map value_of items)
    → cond (ltb (length items) 65536) (Some (to_be_bytes w16 (length items) ++ b)) None ≡ array_coding (part_of coding t) (value_of value)
array_some t types value items b e k r =
    ap (counted (length items)) r ∙ ap (λ ts. counted (length items) (row_coding (map (part_of coding) (row_of ts (length items))) (map value_of items))) k ∙ array_parts t value items e

pub array_some_at : (t : Abi) (types : List Abi) (value : AbiValue) (items : List AbiValue) (b bs : List ℕ) (n m : ℕ) → value ≡ Parts items → types ≡ t ∷ [] → n ≡ length items → m ≡ length items → bs ≡ b
    → Some b ≡ row_coding (map (part_of coding) (row_of types m)) (map value_of items)
    → cond (ltb n 65536) (Some (to_be_bytes w16 n ++ bs)) None ≡ array_coding (part_of coding t) (value_of value)
array_some_at t types value items b bs n m e k p q u r =
    ap (λ x. cond (ltb x 65536) (Some (to_be_bytes w16 x ++ bs)) None) p ∙ ap (λ x. cond (ltb (length items) 65536) (Some (to_be_bytes w16 (length items) ++ x)) None) u
    ∙ array_some t types value items b e k (r ∙ ap (λ x. row_coding (map (part_of coding) (row_of types x)) (map value_of items)) q)

none_counted : (b : Bool) (n : ℕ) → None ≡ cond b (option_map (λ (b : List ℕ). to_be_bytes w16 n ++ b) None) None
none_counted true n = refl
none_counted false n = refl

pub array_none : (t : Abi) (types : List Abi) (value : AbiValue) (items : List AbiValue) (m : ℕ) → value ≡ Parts items → types ≡ t ∷ [] → m ≡ length items
    → None ≡ row_coding (map (part_of coding) (row_of types m)) (map value_of items) → None ≡ array_coding (part_of coding t) (value_of value)
array_none t types value items m e k q r =
    none_counted (ltb (length items) 65536) (length items) ∙ ap (counted (length items)) (r ∙ ap (λ x. row_coding (map (part_of coding) (row_of types x)) (map value_of items)) q)
    ∙ ap (λ ts. counted (length items) (row_coding (map (part_of coding) (row_of ts (length items))) (map value_of items))) k ∙ array_parts t value items e

pub row_none : (ts : List Abi) (values : List AbiValue) (n : ℕ) → length ts ≡ n → (length values ≡ n → ⊥) → None ≡ row_coding (map (part_of coding) ts) (map value_of values)
row_none ts values n l h = row_of_others (map (part_of coding) ts) (map value_of values) (λ e. h (omega (arith, e, l, length-map values value_of, length-map ts (part_of coding))))

pub row_of_one : (ts : List Abi) (n : ℕ) → length ts ≡ 1 → length (row_of ts n) ≡ n
row_of_one [] n h = absurd (omega arith)
row_of_one (t ∷ []) n h = length-replicate n t
row_of_one (t ∷ u ∷ ts) n h = absurd (omega arith)
