-- What stands next in a head.
use Rattle.std.proofs.Common.{◌≡◌, ◌∙◌, ℕ, zero, suc, ◌+◌, ◌-◌, ◌<◌, ◌≤◌, max, List, [], ◌∷◌, ◌++◌, length, take, drop, map, Option, Some, None, refl, sym, ap, subst, arith}
use Rattle.std.proofs.lemmas.List.{drop-drop}
use Rattle.std.specs.Prelude.{slice_get}
use Rattle.arc4_types.specs.declared.abi.Abi.{Abi}
use Rattle.arc4_types.specs.declared.form.Form.{Form}
use Rattle.arc4_types.specs.declared.form.Form.TheVariants as form
use Rattle.arc4_types.specs.Types.{Ty, type_of}
use Rattle.arc4_types.specs.Groups.{Part, Group, octet, static, dynamic, forms, bools_in, form_of, by_form, groups, part_of, group_of, covered}

pub groups_covered : {A : Type 0} (n : ℕ) (ps : List (Part A)) → groups n ps ≡ groups 0 (drop n ps)
groups_covered zero ps = refl
groups_covered (suc n) [] = refl
groups_covered (suc n) (p ∷ ps) = groups_covered n ps

forms_from : {A : Type 0} (code : Ty → A) (k : ℕ) (ts : List Abi) → forms (drop k (map (part_of code) ts)) ≡ drop k (map (λ t. form_of (type_of t)) ts)
forms_from code zero [] = refl
forms_from code (suc k) [] = refl
forms_from code zero (t ∷ ts) = ap (λ fs. form_of (type_of t) ∷ fs) (forms_from code zero ts)
forms_from code (suc k) (t ∷ ts) = forms_from code k ts

pub mapped_from : {B : Type 0} (f : Abi → B) (ts : List Abi) (j : ℕ) (t : Abi) → slice_get ts j ≡ Some t → drop j (map f ts) ≡ f t ∷ drop (suc j) (map f ts)
mapped_from f [] j t e = absurd cc
mapped_from f (x ∷ ts) zero t e = let q : x ≡ t = cc in ap (λ y. f y ∷ map f ts) q
mapped_from f (x ∷ ts) (suc j) t e = mapped_from f ts j t e

group_at : {A : Type 0} (f : Form) (a : A) (p : Part A) (ps : List (Part A)) (n : ℕ) → n ≡ by_form f (suc (bools_in (forms ps) 7)) 0 0
    → groups 0 (record { form = f; code = a } ∷ ps) ≡ by_form f (octet (max n 1)) (static a) (dynamic a) ∷ groups 0 (drop (max n 1) (p ∷ ps))
group_at {A} form.Bool a p ps n e =
    let m : max n 1 ≡ suc (bools_in (forms ps) 7) = omega arith in
    ap (λ (gs : List (Group A)). octet (suc (bools_in (forms ps) 7)) ∷ gs) (groups_covered (bools_in (forms ps) 7) ps) ∙ ap (λ k. octet k ∷ groups 0 (drop k (p ∷ ps))) (sym m)
group_at form.Static a p ps n e =
    let m : max n 1 ≡ 1 = omega arith in
    ap (λ k. static a ∷ groups 0 (drop k (p ∷ ps))) (sym m)
group_at form.Dynamic a p ps n e =
    let m : max n 1 ≡ 1 = omega arith in
    ap (λ k. dynamic a ∷ groups 0 (drop k (p ∷ ps))) (sym m)

-- the group that begins with a part
pub next_group : {A : Type 0} (code : Ty → A) (ts : List Abi) (i n : ℕ) (t : Abi) → slice_get ts i ≡ Some t → n ≡ bools_in (drop i (map (λ t. form_of (type_of t)) ts)) 8
    → groups 0 (drop i (map (part_of code) ts)) ≡ group_of code t (max n 1) ∷ groups 0 (drop (i + max n 1) (map (part_of code) ts))
next_group {A} code ts i n t e b =
    let ps = drop (suc i) (map (part_of code) ts) in
    let d : drop i (map (part_of code) ts) ≡ part_of code t ∷ ps = mapped_from (part_of code) ts i t e in
    let c : n ≡ by_form (form_of (type_of t)) (suc (bools_in (forms ps) 7)) 0 0 =
    b ∙ ap (λ fs. bools_in fs 8) (mapped_from (λ t. form_of (type_of t)) ts i t e) ∙ ap (λ fs. by_form (form_of (type_of t)) (suc (bools_in fs 7)) 0 0) (sym (forms_from code (suc i) ts)) in
    let g = group_at (form_of (type_of t)) (code (type_of t)) (part_of code t) ps n c in
    let back : drop (max n 1) (part_of code t ∷ ps) ≡ drop (i + max n 1) (map (part_of code) ts) = ap (λ (xs : List (Part A)). drop (max n 1) xs) (sym d) ∙ drop-drop (max n 1) i (map (part_of code) ts) in
    ap (λ (xs : List (Part A)). groups 0 xs) d ∙ g ∙ ap (λ (xs : List (Part A)). group_of code t (max n 1) ∷ groups 0 xs) back

pub past_parts : {B : Type 0} (f : Abi → B) (ts : List Abi) (j : ℕ) → length ts ≤ j → drop j (map f ts) ≡ []
past_parts f [] zero h = refl
past_parts f [] (suc j) h = refl
past_parts f (x ∷ ts) zero h = absurd (omega arith)
past_parts f (x ∷ ts) (suc j) h = past_parts f ts j (omega arith)

-- groups and parts
abbrev pub parts_in : {A : Type 0} → List (Group A) → ℕ
parts_in [] = 0
parts_in (g ∷ gs) = covered g + parts_in gs
