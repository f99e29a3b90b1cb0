-- Names that were seen, as a set keeps them.
use Rattle.std.proofs.Common.{◌≡◌, ℕ, List, [], ◌∷◌, ◌++◌, Bool, true, false, refl, sym, ap, ◌∙◌}
use Rattle.std.specs.Prelude.{bytes_eq, if◌then◌else◌, map}
use Rattle.std.specs.List.{list_any}
use Rattle.std.proofs.lemmas.List.{map-append}
use Rattle.source_names.specs.Things.{names_variable}
use Rattle.source_names.specs.Lookups.{is_seen, with_name}
use Rattle.source_names.proofs.Finding.{same_both_ways}

module _ {X : Type 0} (f : X → List ℕ) (name : List ℕ) where
  seen_more : (x : X) (xs : List X) (v : Bool) → bytes_eq name (f x) ≡ v → list_any (λ k. bytes_eq name (f k)) xs ≡ is_seen name (map f xs)
      → list_any (λ k. bytes_eq name (f k)) (x ∷ xs) ≡ is_seen name (map f (x ∷ xs))
  seen_more x xs true t rest = rw (same_both_ways (f x) name, t) refl
  seen_more x xs false t rest = rw (same_both_ways (f x) name, t) rest

  -- a set's names are looked through
  pub is_seen-map : (ks : List X) → list_any (λ k. bytes_eq name (f k)) ks ≡ is_seen name (map f ks)
  is_seen-map [] = refl
  is_seen-map (x ∷ xs) = seen_more x xs (bytes_eq name (f x)) refl (is_seen-map xs)

  inserted_by : (ks : List X) (k : X) (after : List X) (v : Bool) → f k ≡ name → is_seen name (map f ks) ≡ v
      → after ≡ (if list_any (λ x. bytes_eq (f k) (f x)) ks then ks else ks ++ k ∷ []) → map f after ≡ with_name (map f ks) name
  unfolding with_name
  inserted_by ks k after true same t is = rw t (ap (map f) (is ∙ rw (same, is_seen-map ks, t) refl))
  inserted_by ks k after false same t is =
      rw t (ap (map f) (is ∙ rw (same, is_seen-map ks, t) refl) ∙ map-append f ks (k ∷ []) ∙ ap (λ z. map f ks ++ z ∷ []) same)

  -- what a set has once a name is inserted
  pub inserted : (ks : List X) (k : X) (after : List X) → f k ≡ name
      → after ≡ (if list_any (λ x. bytes_eq (f k) (f x)) ks then ks else ks ++ k ∷ []) → map f after ≡ with_name (map f ks) name
  inserted ks k after same is = inserted_by ks k after (is_seen name (map f ks)) same refl is

-- two words for one test
pub seen_variable : (vs : List (List ℕ)) (n : List ℕ) → names_variable vs n ≡ is_seen n vs
seen_variable [] n = refl
seen_variable (v ∷ vs) n = ap (λ r. if bytes_eq v n then true else r) (seen_variable vs n)

-- what a set tells of a name
pub seen_is : {X : Type 0} (f : X → List ℕ) (name : List ℕ) (ks : List X) (vs : List (List ℕ)) → map f ks ≡ vs → list_any (λ k. bytes_eq name (f k)) ks ≡ is_seen name vs
seen_is f name ks vs e = is_seen-map f name ks ∙ ap (is_seen name) e

pub variable_is : {X : Type 0} (f : X → List ℕ) (name : List ℕ) (ks : List X) (vs : List (List ℕ)) → map f ks ≡ vs → list_any (λ k. bytes_eq name (f k)) ks ≡ names_variable vs name
variable_is f name ks vs e = seen_is f name ks vs e ∙ sym (seen_variable vs name)

-- a name that is there stays
pub with_old : (seen : List (List ℕ)) (n : List ℕ) → is_seen n seen ≡ true → seen ≡ with_name seen n
unfolding with_name
with_old seen n h = rw h refl

pub inserted_is : {X : Type 0} (f : X → List ℕ) (name : List ℕ) (ks : List X) (k : X) (after : List X) (vs : List (List ℕ)) → map f ks ≡ vs → f k ≡ name
    → after ≡ (if list_any (λ x. bytes_eq (f k) (f x)) ks then ks else ks ++ k ∷ []) → map f after ≡ with_name vs name
inserted_is f name ks k after vs e same is = inserted f name ks k after same is ∙ ap (λ z. with_name z name) e
