-- The number of a class's function of a name, one member after the other, and the contract that is made of it.
use Rattle.std.proofs.Common.{◌≡◌, ℕ, suc, ◌+◌, ◌-◌, ◌≤◌, Bool, true, false, List, [], ◌∷◌, Option, Some, length, take, drop, get_or, refl, sym, ap, ◌∙◌, arith}
use Rattle.py_grammar.specs.declared.module.Func.{Func}
use Rattle.py_grammar.specs.declared.module.Member.{Member}
use Rattle.py_grammar.specs.declared.module.Member.TheVariants as member
use Rattle.source_headers.specs.Bases.{number_behind}
use Rattle.source_headers.specs.Classes.{first_from, functions, is_named}
use Rattle.type_check.specs.Placing.{has_name}
use Rattle.type_check.specs.Whole.{beyond}
use Rattle.type_check.proofs.Behind.{first_and_behind}

later_by : (n i : ℕ) (p : Func → Bool) (f : Func) (fs : List Func) (b : Bool) → p f ≡ b
    → beyond n (first_from (suc (suc i)) p fs) ≡ beyond (suc n) (first_from (suc i) p fs) → beyond n (first_from (suc i) p (f ∷ fs)) ≡ beyond (suc n) (first_from i p (f ∷ fs))
later_by n i p f fs true e rest = let k : n + suc i ≡ suc n + i = omega arith in rw e (ap Some k)
later_by n i p f fs false e rest = rw e rest

later : (n i : ℕ) (p : Func → Bool) (fs : List Func) → beyond n (first_from (suc i) p fs) ≡ beyond (suc n) (first_from i p fs)
later n i p [] = refl
later n i p (f ∷ fs) = later_by n i p f fs (p f) refl (later n (suc i) p fs)

other_name : (name : List ℕ) (n : ℕ) (m : Member) (ms : List Member) → has_name name m ≡ false
    → beyond (number_behind n m) (first_from 0 (is_named name) (functions ms)) ≡ beyond n (first_from 0 (is_named name) (functions (m ∷ ms)))
other_name name n (member.Text p ls) ms h = refl
other_name name n (member.Pass p) ms h = refl
other_name name n (member.Field w t) ms h = refl
other_name name n (member.Func f) ms h = rw h (sym (later n 0 (is_named name) (functions ms)))

-- a member of another name, before those behind it
pub named_behind : (name : List ℕ) (xs : List Member) (m : Member) (n k : ℕ) (b : Bool) (all : Option ℕ) → m ≡ get_or xs 0 m → 1 ≤ length xs
    → b ≡ has_name name m → b ≡ false → k ≡ number_behind n m
    → beyond n (first_from 0 (is_named name) (functions xs)) ≡ all → beyond k (first_from 0 (is_named name) (functions (take (length xs - 1) (drop 1 xs)))) ≡ all
named_behind name xs m n k b all is low d e f h =
    let ys = take (length xs - 1) (drop 1 xs) in
    ap (λ z. beyond z (first_from 0 (is_named name) (functions ys))) f
    ∙ other_name name n m ys (sym d ∙ e)
    ∙ ap (λ zs. beyond n (first_from 0 (is_named name) (functions zs))) (sym (first_and_behind xs m is low))
    ∙ h
