-- A list's first item, and what is behind it.
use Rattle.std.proofs.Common.{◌≡◌, ◌-◌, ◌≤◌, List, [], ◌∷◌, ◌++◌, Bool, length, take, drop, get_or, sym, ap, ◌∙◌, arith, append_assoc}
use Rattle.std.specs.Prelude.{Result, Ok, Err, OnOk, IfOk}
use Rattle.std.proofs.lemmas.List.{take_all}

pub first_and_behind : {A : Type 0} (xs : List A) (x : A) → x ≡ get_or xs 0 x → 1 ≤ length xs → xs ≡ x ∷ take (length xs - 1) (drop 1 xs)
first_and_behind [] x e h = absurd (omega (arith, h))
first_and_behind (y ∷ ys) x e h = ap (λ z. z ∷ ys) (sym e) ∙ ap (λ z. x ∷ z) (sym (take_all (length (y ∷ ys) - 1) ys (omega arith)))

-- what follows of an answer without a fault
pub on_ok : {A E P Q : Type 0} (r : Result A E) → (P → Q) → OnOk r P → OnOk r Q
on_ok (Ok v) f h = f h
on_ok (Err e) f h = h

pub if_ok : {A E : Type 0} {P Q : A → Type 0} (r : Result A E) → ((v : A) → P v → Q v) → IfOk r P → IfOk r Q
if_ok (Ok v) f h = f v h
if_ok (Err e) f h = h

-- what is made of the first item, before what is made of those behind it
pub told_behind : {A B : Type 0} (f : List A → List B) (g : List B) (xs : List A) (x : A) (told more all : List B) → x ≡ get_or xs 0 x → 1 ≤ length xs
    → ((ys : List A) → g ++ f ys ≡ f (x ∷ ys)) → more ≡ told ++ g → told ++ f xs ≡ all → more ++ f (take (length xs - 1) (drop 1 xs)) ≡ all
told_behind f g xs x told more all is low cons d h =
    let ys = take (length xs - 1) (drop 1 xs) in
    ap (λ z. z ++ f ys) d
    ∙ append_assoc told g (f ys)
    ∙ ap (λ z. told ++ z) (cons ys)
    ∙ ap (λ zs. told ++ f zs) (sym (first_and_behind xs x is low))
    ∙ h

-- a test that those behind the first item decide, and one that the first item decides
pub test_behind : {A : Type 0} (f : List A → Bool) (xs : List A) (x : A) (all : Bool) → x ≡ get_or xs 0 x → 1 ≤ length xs
    → ((ys : List A) → f ys ≡ f (x ∷ ys)) → f xs ≡ all → f (take (length xs - 1) (drop 1 xs)) ≡ all
test_behind f xs x all is low cons h = cons (take (length xs - 1) (drop 1 xs)) ∙ ap f (sym (first_and_behind xs x is low)) ∙ h

pub test_first : {A : Type 0} (f : List A → Bool) (xs : List A) (x : A) (v all : Bool) → x ≡ get_or xs 0 x → 1 ≤ length xs
    → ((ys : List A) → v ≡ f (x ∷ ys)) → f xs ≡ all → v ≡ all
test_first f xs x v all is low cons h = cons (take (length xs - 1) (drop 1 xs)) ∙ ap f (sym (first_and_behind xs x is low)) ∙ h

-- what is told one after the other
pub then_two : {A : Type 0} (o s t a b : List A) → s ≡ o ++ a → t ≡ s ++ b → t ≡ o ++ (a ++ b)
then_two o s t a b d e = e ∙ ap (λ z. z ++ b) d ∙ append_assoc o a b

pub then_three : {A : Type 0} (o s t u a b c : List A) → s ≡ o ++ a → t ≡ s ++ b → u ≡ t ++ c → u ≡ o ++ (a ++ (b ++ c))
then_three o s t u a b c d e f = then_two o s u a (b ++ c) d (then_two s t u b c e f)

pub then_five : {A : Type 0} (o s t u v w a b c d e : List A) → s ≡ o ++ a → t ≡ s ++ b → u ≡ t ++ c → v ≡ u ++ d → w ≡ v ++ e → w ≡ o ++ (a ++ (b ++ (c ++ (d ++ e))))
then_five o s t u v w a b c d e p q r x y =
    then_two o s w a (b ++ (c ++ (d ++ e))) p (then_two s t w b (c ++ (d ++ e)) q (then_two t u w c (d ++ e) r (then_two u v w d e x y)))
