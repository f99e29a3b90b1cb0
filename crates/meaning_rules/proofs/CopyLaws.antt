-- Lists that are made one item after another.
use Rattle.std.proofs.Common.{◌≡◌, ℕ, ◌+◌, ◌<◌, ◌≤◌, length, get_or, take, List, [], ◌∷◌, ◌++◌, map, sym, ap, ◌∙◌}
use Rattle.std.proofs.lemmas.List.{take_more, take_all, map-append}

pub map_more : {A B : Type 0} (f : A → B) (xs : List A) (i : ℕ) (x : A) (y : B) (all next : List B) → i < length xs → x ≡ get_or xs i x → y ≡ f x → all ≡ map f (take i xs) → next ≡ all ++ y ∷ [] → next ≡ map f (take (i + 1) xs)
map_more f xs i x y all next h e made so_far n =
    n ∙ ap (λ z. z ++ y ∷ []) so_far ∙ ap (λ z. map f (take i xs) ++ z ∷ []) (made ∙ ap f e)
    ∙ sym (map-append f (take i xs) (get_or xs i x ∷ [])) ∙ sym (ap (map f) (take_more xs i x h))

pub map_all : {A B : Type 0} (f : A → B) (xs : List A) (i : ℕ) (all : List B) → length xs ≤ i → all ≡ map f (take i xs) → all ≡ map f xs
map_all f xs i all h so_far = so_far ∙ ap (map f) (take_all i xs h)

pub copy_more : {A : Type 0} (xs : List A) (i : ℕ) (x y : A) (all next : List A) → i < length xs → x ≡ get_or xs i x → y ≡ x → all ≡ take i xs → next ≡ all ++ y ∷ [] → next ≡ take (i + 1) xs
copy_more xs i x y all next h e made so_far n = n ∙ ap (λ z. z ++ y ∷ []) so_far ∙ ap (λ z. take i xs ++ z ∷ []) (made ∙ e) ∙ sym (take_more xs i x h)

pub copy_all : {A : Type 0} (xs : List A) (i : ℕ) (all : List A) → length xs ≤ i → all ≡ take i xs → all ≡ xs
copy_all xs i all h so_far = so_far ∙ take_all i xs h
