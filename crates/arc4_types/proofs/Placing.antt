-- Parts placed one after the other.
use Rattle.std.proofs.Common.{◌≡◌, ◌∙◌, ℕ, zero, suc, ◌+◌, ◌-◌, ◌<◌, ◌≤◌, max, Bool, List, [], ◌∷◌, ◌++◌, length, take, drop, map, Option, Some, None, refl, sym, ap, subst, arith, append_assoc, length-drop}
use Rattle.std.proofs.lemmas.List.{drop-drop, take-map, drop-map, length-map, length-take-le, append-nil, length-append}
use Rattle.std.proofs.Math.ListN.{replicate, length-replicate}
use Rattle.std.specs.Prelude.{slice_get, option_map, option_and_then}
use Rattle.std.specs.List.{slice_range}
use Rattle.arc4_types.specs.declared.abi.Abi.{Abi}
use Rattle.arc4_types.specs.declared.form.Form.{Form}
use Rattle.arc4_types.specs.declared.form.Form.TheVariants as form
use Rattle.arc4_types.specs.declared.abi_value.AbiValue.{AbiValue}
use Rattle.arc4_types.specs.declared.placed.Placed.{Placed}
use Rattle.arc4_types.specs.declared.placed.Placed.TheVariants.{Here, Later}
use Rattle.arc4_types.specs.Types.{Ty, Tys, type_of, tys_of}
use Rattle.arc4_types.specs.Values.{Val, Vals, truth, value_of, vals_of, items_of}
use Rattle.arc4_types.specs.Groups.{Part, Group, octet, static, dynamic, forms, bools_in, form_of, by_form, groups, part_of, group_of, covered, row_of}
use Rattle.arc4_types.specs.Encoding.{Codes, flags_of, flag_in, with_flag, first_coded, first_placed, placed, coding, codings, row_coding, joined, packed}
use Rattle.arc4_types.proofs.Heads.{next_group, past_parts, parts_in, groups_covered, mapped_from}
use Rattle.arc4_types.proofs.Runs.{bools_within}
use Rattle.arc4_types.proofs.Steps.{then_some, map_some}
use Rattle.arc4_types.proofs.Bits.{flags_are}

-- what was placed before, and what is placed of the rest
abbrev pub placed_after : List Placed → Option (List Placed) → Option (List Placed)
placed_after front ps = option_map (λ ps. front ++ ps) ps

flags_of-take : (k : ℕ) (vs : List Val) → flags_of k (take k vs) ≡ flags_of k vs
flags_of-take zero vs = refl
flags_of-take (suc k) [] = refl
flags_of-take (suc k) (v ∷ vs) = ap (with_flag (flag_in v)) (flags_of-take k vs)

first_coded-take : (code : Codes) (stands : List ℕ → Placed) (vs : List Val) → first_coded code stands (take 1 vs) ≡ first_coded code stands vs
first_coded-take code stands [] = refl
first_coded-take code stands (v ∷ vs) = refl

-- what a group takes of the values
first_placed-take : (g : Group Codes) (vs : List Val) → first_placed g (take (covered g) vs) ≡ first_placed g vs
first_placed-take (octet k) vs = rw (flags_of-take k vs) refl
first_placed-take (static code) vs = first_coded-take code (λ b. Here b) vs
first_placed-take (dynamic code) vs = first_coded-take code (λ b. Later b) vs

pub covered_is : {A : Type 0} (f : Form) (a : A) (n : ℕ) → (n ≡ by_form f n 0 0) → covered (by_form f (octet (max n 1)) (static a) (dynamic a)) ≡ max n 1
covered_is form.Bool a n e = refl
covered_is form.Static a n e = omega arith
covered_is form.Dynamic a n e = omega arith

pub no_bools : (fs : List Form) (f : Form) (n : ℕ) → n ≡ bools_in (f ∷ fs) 8 → n ≡ by_form f n 0 0
no_bools fs form.Bool n e = refl
no_bools fs form.Static n e = e
no_bools fs form.Dynamic n e = e

values_from : (values : List AbiValue) (i m : ℕ) → map value_of (slice_range values i (i + m)) ≡ take m (drop i (map value_of values))
values_from values i m =
    let z : i + m - i ≡ m = omega arith in
    ap (λ k. map value_of (take k (drop i values))) z ∙ sym (take-map value_of m (drop i values)) ∙ ap (λ vs. take m vs) (sym (drop-map value_of i values))

module _ (ts : List Abi) (values : List AbiValue) (i n : ℕ) (t : Abi) (e : slice_get ts i ≡ Some t) (b : n ≡ bools_in (drop i (map (λ t. form_of (type_of t)) ts)) 8) where
  group_covers : covered (group_of coding t (max n 1)) ≡ max n 1
  group_covers = covered_is (form_of (type_of t)) (coding (type_of t)) n (no_bools (drop (suc i) (map (λ t. form_of (type_of t)) ts)) (form_of (type_of t)) n (b ∙ ap (λ fs. bools_in fs 8) (mapped_from (λ t. form_of (type_of t)) ts i t e)))

  -- the part that is placed next, and the rest
  splits : placed (groups 0 (drop i (map (part_of coding) ts))) (drop i (map value_of values))
      ≡ option_and_then (λ p. option_map (λ ps. p ∷ ps) (placed (groups 0 (drop (i + max n 1) (map (part_of coding) ts))) (drop (i + max n 1) (map value_of values))))
      (first_placed (group_of coding t (max n 1)) (map value_of (slice_range values i (i + max n 1))))
  splits =
      let vs = drop i (map value_of values) in
      let gs = groups 0 (drop (i + max n 1) (map (part_of coding) ts)) in
      let g = group_of coding t (max n 1) in
      let taken : first_placed g (map value_of (slice_range values i (i + max n 1))) ≡ first_placed g vs =
      ap (first_placed g) (values_from values i (max n 1)) ∙ ap (λ k. first_placed g (take k vs)) (sym group_covers) ∙ first_placed-take g vs in
      let rest : drop (covered g) vs ≡ drop (i + max n 1) (map value_of values) = ap (λ k. drop k vs) group_covers ∙ drop-drop (max n 1) i (map value_of values) in
      ap (λ (xs : List (Group Codes)). placed xs vs) (next_group coding ts i n t e b)
      ∙ ap (λ (us : List Val). option_and_then (λ p. option_map (λ ps. p ∷ ps) (placed gs us)) (first_placed g vs)) rest
      ∙ ap (λ o. option_and_then (λ p. option_map (λ ps. p ∷ ps) (placed gs (drop (i + max n 1) (map value_of values)))) o) (sym taken)

regroup : (front : List Placed) (p : Placed) (o : Option (List Placed)) → placed_after front (option_map (λ ps. p ∷ ps) o) ≡ placed_after (front ++ p ∷ []) o
regroup front p None = refl
regroup front p (Some ps) = ap (λ qs. Some qs) (sym (append_assoc front (p ∷ []) ps))

-- one more part is placed
pub placed_more : (ts : List Abi) (values : List AbiValue) (i n end len : ℕ) (t : Abi) (p : Placed) (front more : List Placed) (total : Option (List Placed))
    → slice_get ts i ≡ Some t → n ≡ bools_in (drop i (map (λ t. form_of (type_of t)) ts)) 8 → end ≡ i + max n 1 → len ≡ max n 1
    → Some p ≡ first_placed (group_of coding t len) (map value_of (slice_range values i end)) → more ≡ front ++ p ∷ []
    → placed_after front (placed (groups 0 (drop i (map (part_of coding) ts))) (drop i (map value_of values))) ≡ total
    → placed_after more (placed (groups 0 (drop end (map (part_of coding) ts))) (drop end (map value_of values))) ≡ total
placed_more ts values i n end len t p front more total e b d l f m h =
    let rest = placed (groups 0 (drop (i + max n 1) (map (part_of coding) ts))) (drop (i + max n 1) (map value_of values)) in
    let first : first_placed (group_of coding t (max n 1)) (map value_of (slice_range values i (i + max n 1))) ≡ Some p =
    ap (λ k. first_placed (group_of coding t k) (map value_of (slice_range values i (i + max n 1)))) (sym l) ∙ ap (λ k. first_placed (group_of coding t len) (map value_of (slice_range values i k))) (sym d) ∙ sym f in
    let s : placed_after front (option_map (λ ps. p ∷ ps) rest) ≡ total =
    ap (λ o. placed_after front (option_and_then (λ p. option_map (λ ps. p ∷ ps) rest) o)) (sym first) ∙ ap (placed_after front) (sym (splits ts values i n t e b)) ∙ h in
    ap (λ k. placed_after more (placed (groups 0 (drop k (map (part_of coding) ts))) (drop k (map value_of values)))) d ∙ ap (λ fs. placed_after fs rest) m ∙ sym (regroup front p rest) ∙ s

-- a part has no encoding
pub placed_none : (ts : List Abi) (values : List AbiValue) (i n end len : ℕ) (t : Abi) (front : List Placed) (total : Option (List Placed))
    → slice_get ts i ≡ Some t → n ≡ bools_in (drop i (map (λ t. form_of (type_of t)) ts)) 8 → end ≡ i + max n 1 → len ≡ max n 1
    → None ≡ first_placed (group_of coding t len) (map value_of (slice_range values i end))
    → placed_after front (placed (groups 0 (drop i (map (part_of coding) ts))) (drop i (map value_of values))) ≡ total
    → None ≡ total
placed_none ts values i n end len t front total e b d l f h =
    let rest = placed (groups 0 (drop (i + max n 1) (map (part_of coding) ts))) (drop (i + max n 1) (map value_of values)) in
    let first : first_placed (group_of coding t (max n 1)) (map value_of (slice_range values i (i + max n 1))) ≡ None =
    ap (λ k. first_placed (group_of coding t k) (map value_of (slice_range values i (i + max n 1)))) (sym l) ∙ ap (λ k. first_placed (group_of coding t len) (map value_of (slice_range values i k))) (sym d) ∙ sym f in
    ap (λ o. placed_after front (option_and_then (λ p. option_map (λ ps. p ∷ ps) rest) o)) (sym first) ∙ ap (placed_after front) (sym (splits ts values i n t e b)) ∙ h

past_values : (values : List AbiValue) (i : ℕ) → length values ≤ i → drop i (map value_of values) ≡ []
past_values [] zero h = refl
past_values [] (suc i) h = refl
past_values (v ∷ vs) zero h = absurd (omega arith)
past_values (v ∷ vs) (suc i) h = past_values vs i (omega arith)

-- all parts are placed
pub placed_all : (ts : List Abi) (values : List AbiValue) (i : ℕ) (front : List Placed) (total : Option (List Placed)) → length ts ≤ i → length values ≤ i
    → placed_after front (placed (groups 0 (drop i (map (part_of coding) ts))) (drop i (map value_of values))) ≡ total → Some front ≡ total
placed_all ts values i front total h k e =
    let a : drop i (map (part_of coding) ts) ≡ [] = past_parts (part_of coding) ts i h in
    let b : drop i (map value_of values) ≡ [] = past_values values i k in
    ap (λ ps. Some ps) (sym (append-nil front)) ∙ ap (λ vs. placed_after front (placed [] vs)) (sym b) ∙ ap (λ ps. placed_after front (placed (groups 0 ps) (drop i (map value_of values)))) (sym a) ∙ e

-- as many values as parts
counts_first : (g : Group Codes) (vs : List Val) (p : Placed) → first_placed g vs ≡ Some p → covered g + length (drop (covered g) vs) ≡ length vs
counts_first (octet k) vs p e =
    let t = map_some (flags_of k vs) (λ bs. Here (packed bs ∷ [])) p e in
    let f = flags_are k vs t.got t.first in
    let l : length vs ≡ length (map truth t.got ++ drop k vs) = ap length f.are in
    let c : length t.got ≡ k = f.count in
    omega (arith, l, c, length-append (map truth t.got) (drop k vs), length-map t.got truth)
counts_first (static code) [] p e = absurd cc
counts_first (static code) (v ∷ vs) p e = omega arith
counts_first (dynamic code) [] p e = absurd cc
counts_first (dynamic code) (v ∷ vs) p e = omega arith

counts : (gs : List (Group Codes)) (vs : List Val) (ps : List Placed) → placed gs vs ≡ Some ps → parts_in gs ≡ length vs
counts [] [] ps e = refl
counts [] (v ∷ vs) ps e = absurd cc
counts (g ∷ gs) vs ps e =
    let t = then_some (first_placed g vs) (λ p. option_map (λ qs. p ∷ qs) (placed gs (drop (covered g) vs))) ps e in
    let m = map_some (placed gs (drop (covered g) vs)) (λ qs. t.got ∷ qs) ps t.then in
    let r = counts gs (drop (covered g) vs) m.got m.first in
    let c = counts_first g vs t.got t.first in
    omega (arith, r, c)

parts_at : {A : Type 0} (f : Form) (a : A) (ps : List (Part A)) → ((n : ℕ) → n ≤ length ps → n + parts_in (groups n ps) ≡ length ps) → parts_in (groups 0 (record { form = f; code = a } ∷ ps)) ≡ suc (length ps)
parts_at form.Bool a ps h =
    let n = bools_in (forms ps) 7 in
    let w : n ≤ length ps = let l = bools_within (forms ps) 7 in omega (arith, l, length-map ps (λ p. p.form)) in
    let r = h n w in
    omega (arith, r)
parts_at form.Static a ps h = let r = h 0 (omega arith) in omega (arith, r)
parts_at form.Dynamic a ps h = let r = h 0 (omega arith) in omega (arith, r)

parts_in_groups : {A : Type 0} (n : ℕ) (ps : List (Part A)) → n ≤ length ps → n + parts_in (groups n ps) ≡ length ps
parts_in_groups n [] h = omega arith
parts_in_groups (suc n) (p ∷ ps) h = let r = parts_in_groups n ps (omega arith) in omega (arith, r)
parts_in_groups zero (p ∷ ps) h =
    let r : parts_in (groups 0 (p ∷ ps)) ≡ suc (length ps) = parts_at p.form p.code ps (λ n l. parts_in_groups n ps l) in
    omega (arith, r)

-- as many values as parts are written
pub row_counts : (ps : List (Part Codes)) (vs : List Val) (b : List ℕ) → row_coding ps vs ≡ Some b → length vs ≡ length ps
row_counts ps vs b e =
    let t = then_some (placed (groups 0 ps) vs) joined b e in
    let c = counts (groups 0 ps) vs t.got t.first in
    let r = parts_in_groups 0 ps (omega arith) in
    omega (arith, c, r)

-- a row of another number of values has no encoding
some_or_none : (o : Option (List ℕ)) → ((b : List ℕ) → o ≡ Some b → ⊥) → None ≡ o
some_or_none None h = refl
some_or_none (Some b) h = absurd (h b refl)

pub row_of_others : (ps : List (Part Codes)) (vs : List Val) → (length vs ≡ length ps → ⊥) → None ≡ row_coding ps vs
row_of_others ps vs h = some_or_none (row_coding ps vs) (λ b e. h (row_counts ps vs b e))

-- ---- rows as the types have them

pub items-vals : (vs : List Val) → items_of (vals_of vs) ≡ vs
items-vals [] = refl
items-vals (v ∷ vs) = ap (λ us. v ∷ us) (items-vals vs)

pub codings-types : (ts : List Abi) → codings (tys_of (map type_of ts)) ≡ map (part_of coding) ts
codings-types [] = refl
codings-types (t ∷ ts) = ap (λ ps. part_of coding t ∷ ps) (codings-types ts)

pub map-replicate : {A B : Type 0} (f : A → B) (n : ℕ) (x : A) → map f (replicate n x) ≡ replicate n (f x)
map-replicate f zero x = refl
map-replicate f (suc n) x = ap (λ ys. f x ∷ ys) (map-replicate f n x)

pub row_of_all : (ts : List Abi) → row_of ts (length ts) ≡ ts
row_of_all [] = refl
row_of_all (t ∷ []) = refl
row_of_all (t ∷ u ∷ ts) = refl
