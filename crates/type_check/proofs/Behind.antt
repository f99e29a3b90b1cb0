-- A list's first item, and what is behind it.
use Rattle.std.proofs.Common.{◌≡◌, ◌-◌, ◌≤◌, List, [], ◌∷◌, ◌++◌, length, take, drop, get_or, sym, ap, ◌∙◌, arith, append_assoc}
use Rattle.std.proofs.lemmas.List.{take_all}

pub first_and_behind : {A : Type 0} (xs : List A) (x : A) → x ≡ get_or xs 0 x → 1 ≤ length xs → xs ≡ x ∷ take (length xs - 1) (drop 1 xs)
first_and_behind [] x e h = absurd (omega (arith, h))
first_and_behind (y ∷ ys) x e h = ap (λ z. z ∷ ys) (sym e) ∙ ap (λ z. x ∷ z) (sym (take_all (length (y ∷ ys) - 1) ys (omega arith)))

-- what is made of the first item, before what is made of those behind it
pub told_behind : {A B : Type 0} (f : List A → List B) (g : List B) (xs : List A) (x : A) (told more all : List B) → x ≡ get_or xs 0 x → 1 ≤ length xs
    → ((ys : List A) → g ++ f ys ≡ f (x ∷ ys)) → more ≡ told ++ g → told ++ f xs ≡ all → more ++ f (take (length xs - 1) (drop 1 xs)) ≡ all
told_behind f g xs x told more all is low cons d h =
    let ys = take (length xs - 1) (drop 1 xs) in
    ap (λ z. z ++ f ys) d
    ∙ append_assoc told g (f ys)
    ∙ ap (λ z. told ++ z) (cons ys)
    ∙ ap (λ zs. told ++ f zs) (sym (first_and_behind xs x is low))
    ∙ h

-- what the first item makes of something, before what those behind it make of that
pub state_behind : {A S : Type 0} (f : S → List A → S) (xs : List A) (x : A) (s t all : S) → x ≡ get_or xs 0 x → 1 ≤ length xs
    → ((ys : List A) → f t ys ≡ f s (x ∷ ys)) → f s xs ≡ all → f t (take (length xs - 1) (drop 1 xs)) ≡ all
state_behind f xs x s t all is low cons h = cons (take (length xs - 1) (drop 1 xs)) ∙ ap (f s) (sym (first_and_behind xs x is low)) ∙ h
