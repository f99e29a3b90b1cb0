-- The numbers of names, which a set keeps in the order of their first sight.
use Rattle.std.proofs.Common.{◌≡◌, ℕ, suc, ◌+◌, ◌≤◌, List, [], ◌∷◌, ◌++◌, length, Bool, true, false, refl, sym, ap, ◌∙◌, arith, length-append}
use Rattle.std.specs.Prelude.{Option, Some, None, map, bytes_eq, nat_lt, position, if◌then◌else◌}
use Rattle.std.specs.List.{list_any, position_or_len}
use Rattle.std.proofs.lemmas.Bool.Decides.{nat_tests}
use Rattle.std.proofs.lemmas.Slice.Eq.{bytes_eq-Decides}
use Rattle.std.proofs.lemmas.List.{map-append}
use Rattle.std.proofs.lemmas.List.Sums.{prefix_len-le-length}
use Rattle.teal_text.specs.Numbering.{number_of, with_name}

same_by : (a b : List ℕ) (v w : Bool) → bytes_eq a b ≡ v → bytes_eq b a ≡ w → v ≡ w
same_by a b true true p q = refl
same_by a b false false p q = refl
same_by a b true false p q = sym ((bytes_eq-Decides b a).1 (sym ((bytes_eq-Decides a b).0 p))) ∙ q
same_by a b false true p q = sym p ∙ (bytes_eq-Decides a b).1 (sym ((bytes_eq-Decides b a).0 q))

pub same_both_ways : (a b : List ℕ) → bytes_eq a b ≡ bytes_eq b a
same_both_ways a b = same_by a b (bytes_eq a b) (bytes_eq b a) refl refl

pub both_suc : (a b : ℕ) → nat_lt a b ≡ nat_lt (1 + a) (suc b)
both_suc a b = grind (arith, nat_tests)

pub below_suc : (a b : ℕ) → a ≤ b → nat_lt a (suc b) ≡ true
below_suc a b h = grind (arith, nat_tests)

within : (a b : ℕ) → a ≤ b → nat_lt a b ≡ false → b ≡ a
within a b h e = grind (arith, nat_tests)

module _ {X : Type 0} (f : X → List ℕ) (name : List ℕ) where
  number_more : (x : X) (xs : List X) (v : Bool) → bytes_eq name (f x) ≡ v → number_of (map f xs) name ≡ position_or_len (λ k. bytes_eq name (f k)) xs
      → number_of (map f (x ∷ xs)) name ≡ position_or_len (λ k. bytes_eq name (f k)) (x ∷ xs)
  number_more x xs true e h = rw (same_both_ways (f x) name, e) refl
  number_more x xs false e h = rw (same_both_ways (f x) name, e) (omega (arith, h))

  pub number_by_place : (ks : List X) → number_of (map f ks) name ≡ position_or_len (λ k. bytes_eq name (f k)) ks
  number_by_place [] = refl
  number_by_place (x ∷ xs) = number_more x xs (bytes_eq name (f x)) refl (number_by_place xs)

  any_more : (x : X) (xs : List X) (v : Bool) → bytes_eq name (f x) ≡ v → list_any (λ n. bytes_eq n name) (map f xs) ≡ nat_lt (position_or_len (λ k. bytes_eq name (f k)) xs) (length xs)
      → list_any (λ n. bytes_eq n name) (map f (x ∷ xs)) ≡ nat_lt (position_or_len (λ k. bytes_eq name (f k)) (x ∷ xs)) (length (x ∷ xs))
  any_more x xs true e h = rw (same_both_ways (f x) name, e) (sym (below_suc 0 (length xs) (omega arith)))
  any_more x xs false e h = rw (same_both_ways (f x) name, e) (h ∙ both_suc (position_or_len (λ k. bytes_eq name (f k)) xs) (length xs))

  pub any_by_place : (ks : List X) → list_any (λ n. bytes_eq n name) (map f ks) ≡ nat_lt (position_or_len (λ k. bytes_eq name (f k)) ks) (length ks)
  any_by_place [] = refl
  any_by_place (x ∷ xs) = any_more x xs (bytes_eq name (f x)) refl (any_by_place xs)

  place_by : (ks : List X) (o : Option ℕ) (v : Bool) → nat_lt (position_or_len (λ k. bytes_eq name (f k)) ks) (length ks) ≡ v → o ≡ position (λ k. bytes_eq name (f k)) ks
      → o ≡ (if v then Some (position_or_len (λ k. bytes_eq name (f k)) ks) else None)
  place_by ks o v t e = e ∙ ap (λ w. if w then Some (position_or_len (λ k. bytes_eq name (f k)) ks) else None) t

  found_by : (ks : List X) (i : ℕ) (v : Bool) → nat_lt (position_or_len (λ k. bytes_eq name (f k)) ks) (length ks) ≡ v → Some i ≡ (if v then Some (position_or_len (λ k. bytes_eq name (f k)) ks) else None)
      → (i ≡ number_of (map f ks) name) × (map f ks ≡ with_name (map f ks) name)
  found_by ks i true t e = (cc (number_by_place ks), rw (any_by_place ks, t) refl)
  found_by ks i false t e = cc

  turned : (ks : List X) → list_any (λ x. bytes_eq name (f x)) ks ≡ list_any (λ n. bytes_eq n name) (map f ks)
  turned [] = refl
  turned (x ∷ xs) = rw (same_both_ways (f x) name, turned xs) refl

  in_words : (ks : List X) → list_any (λ x. bytes_eq name (f x)) ks ≡ nat_lt (position_or_len (λ k. bytes_eq name (f k)) ks) (length ks)
  in_words ks = turned ks ∙ any_by_place ks

  -- a name that stands in the set has its place as number, and the set stays
  pub found : (ks : List X) (i : ℕ) → Some i ≡ position (λ k. bytes_eq name (f k)) ks → (i ≡ number_of (map f ks) name) × (map f ks ≡ with_name (map f ks) name)
  found ks i e = found_by ks i (nat_lt (position_or_len (λ k. bytes_eq name (f k)) ks) (length ks)) refl (place_by ks (Some i) _ refl e)

  new_by : (ks : List X) (k : X) (after : List X) (v : Bool) → nat_lt (position_or_len (λ k. bytes_eq name (f k)) ks) (length ks) ≡ v → None ≡ (if v then Some (position_or_len (λ k. bytes_eq name (f k)) ks) else None)
      → f k ≡ name → after ≡ (if list_any (λ x. bytes_eq (f k) (f x)) ks then ks else ks ++ k ∷ [])
      → (length ks ≡ number_of (map f ks) name) × (map f after ≡ with_name (map f ks) name)
  new_by ks k after true t e same is = cc
  new_by ks k after false t e same is =
      let last : after ≡ ks ++ k ∷ [] = is ∙ rw (same, in_words ks, t) refl in
      (within _ _ (prefix_len-le-length _ ks) t ∙ sym (number_by_place ks), ap (map f) last ∙ map-append f ks (k ∷ []) ∙ rw (same, any_by_place ks, t) refl)

  -- a name that doesn't stand in the set has the next number, and goes last
  pub new : (ks : List X) (k : X) (after : List X) → None ≡ position (λ k. bytes_eq name (f k)) ks
      → f k ≡ name → after ≡ (if list_any (λ x. bytes_eq (f k) (f x)) ks then ks else ks ++ k ∷ [])
      → (length ks ≡ number_of (map f ks) name) × (map f after ≡ with_name (map f ks) name)
  new ks k after e same is = new_by ks k after (nat_lt (position_or_len (λ k. bytes_eq name (f k)) ks) (length ks)) refl (place_by ks None _ refl e) same is

-- how many names are seen once these are
pub seen_one : (seen : List (List ℕ)) (name : List ℕ) → length (with_name seen name) ≤ length seen + 1
seen_one seen name = by (list_any (λ n. bytes_eq n name) seen) refl
  where
    by : (v : Bool) → list_any (λ n. bytes_eq n name) seen ≡ v → length (with_name seen name) ≤ length seen + 1
    by true e = rw e (omega arith)
    by false e = rw (e, length-append seen (name ∷ [])) (omega arith)
