-- The functions of a class, one member after the other.
use Rattle.std.proofs.Common.{◌≡◌, ℕ, suc, ◌-◌, ◌≤◌, length, take, drop, get_or, List, [], ◌∷◌, ◌++◌, Bool, true, false, refl, sym, ap, ◌∙◌, append_assoc}
use Rattle.py_grammar.specs.declared.module.Func.{Func}
use Rattle.py_grammar.specs.declared.module.Member.{Member}
use Rattle.py_grammar.specs.declared.module.Member.TheVariants as member
use Rattle.source_headers.specs.Classes.{methods_from, functions, is_program}
use Rattle.source_headers.specs.Bases.{number_behind}
use Rattle.source_headers.proofs.Behind.{first_and_behind}

first_method : (n : ℕ) (f : Func) (fs : List Func) (b : Bool) → is_program f ≡ b → methods_from n (f ∷ []) ++ methods_from (suc n) fs ≡ methods_from n (f ∷ fs)
first_method n f fs true t = rw t refl
first_method n f fs false t = rw t refl

first_methods : (n : ℕ) (m : Member) (ms : List Member)
    → methods_from n (functions (m ∷ [])) ++ methods_from (number_behind n m) (functions ms) ≡ methods_from n (functions (m ∷ ms))
first_methods n (member.Text p ls) ms = refl
first_methods n (member.Pass p) ms = refl
first_methods n (member.Field w t) ms = refl
first_methods n (member.Func f) ms = first_method n f (functions ms) (is_program f) refl

pub methods_behind : (xs : List Member) (m : Member) (told more all : List (List ℕ × ℕ)) (n n' : ℕ) → m ≡ get_or xs 0 m → 1 ≤ length xs
    → more ≡ told ++ methods_from n (functions (m ∷ [])) → n' ≡ number_behind n m
    → told ++ methods_from n (functions xs) ≡ all → more ++ methods_from n' (functions (take (length xs - 1) (drop 1 xs))) ≡ all
methods_behind xs m told more all n n' is low d e h =
    let ys = take (length xs - 1) (drop 1 xs) in
    ap (λ z. z ++ methods_from n' (functions ys)) d
    ∙ ap (λ z. (told ++ methods_from n (functions (m ∷ []))) ++ methods_from z (functions ys)) e
    ∙ append_assoc told (methods_from n (functions (m ∷ []))) (methods_from (number_behind n m) (functions ys))
    ∙ ap (λ z. told ++ z) (first_methods n m ys)
    ∙ ap (λ zs. told ++ methods_from n (functions zs)) (sym (first_and_behind xs m is low))
    ∙ h
