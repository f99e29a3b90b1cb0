-- Sets of kinds, and what the table of rules keeps: one symbol of look-ahead suffices, and the lists of kinds hold.
use Rattle.std.proofs.Common.{◌≡◌, Bool, true, false, not, ◌||◌, ◌&&◌, List, [], ◌∷◌, ◌++◌, refl, sym as flip, ◌∙◌, ap, subst}
use Rattle.py_grammar.specs.declared.symbol.Sym.{Sym}
use Rattle.py_grammar.specs.Parts.{Part}
use Rattle.py_grammar.specs.Rules.{is_printed, same, has, within, apart}
use Rattle.py_grammar.specs.Sets.{begins, goes_on, null, first, on, is_plain}
use Rattle.py_grammar.specs.Grammar.{rule}
use Rattle.py_grammar.specs.Ahead.{ahead}
use Rattle.py_grammar.proofs.Outcomes.{same_eq}

pub plain : (m : Part) → is_plain (ahead m) ≡ true
unfolding rule ahead
plain Part.Module = refl
plain _ = refl

pub printed : (m : Part) → is_printed (rule m) ≡ true
unfolding rule
printed Part.Module = refl
printed _ = refl

pub not_null : (m : Part) → null (ahead m) ≡ false
unfolding rule ahead
not_null Part.Module = refl
not_null _ = refl

pub begun : (m : Part) → within (first (ahead m)) (begins m) ≡ true
unfolding rule ahead
begun Part.Module = refl
begun _ = refl

pub gone : (m : Part) → within (on (ahead m)) (goes_on m) ≡ true
unfolding rule ahead
gone Part.Module = refl
gone _ = refl

pub or_left : (a b : Bool) → a || b ≡ false → a ≡ false
or_left false b e = refl
or_left true b e = absurd cc

pub or_right : (a b : Bool) → a || b ≡ false → b ≡ false
or_right false b e = e
or_right true b e = absurd cc

pub or_true : (a b : Bool) → b ≡ true → a || b ≡ true
or_true false b e = e
or_true true b e = refl

pub and_left : (a b : Bool) → a && b ≡ true → a ≡ true
and_left true b e = refl
and_left false b e = absurd cc

pub and_right : (a b : Bool) → a && b ≡ true → b ≡ true
and_right true b e = e
and_right false b e = absurd cc

pub not_true : (a : Bool) → not a ≡ true → a ≡ false
not_true false e = refl
not_true true e = absurd cc

pub no_both : (a : Bool) → a ≡ true → a ≡ false → ⊥
no_both a e f = cc

or_split : (a b c : Bool) → a || b ≡ true → (a ≡ true → c ≡ true) → (b ≡ true → c ≡ true) → c ≡ true
or_split true b c e f g = f refl
or_split false b c e f g = g e

or_assoc : (a b c : Bool) → a || (b || c) ≡ (a || b) || c
or_assoc true b c = refl
or_assoc false b c = refl

pub has_append : (s : Sym) (js ks : List Sym) → has s (js ++ ks) ≡ has s js || has s ks
has_append s [] ks = refl
has_append s (j ∷ js) ks = ap (λ b. same s j || b) (has_append s js ks) ∙ or_assoc (same s j) (has s js) (has s ks)

pub has_left : (s : Sym) (js ks : List Sym) → has s js ≡ true → has s (js ++ ks) ≡ true
has_left s js ks e = has_append s js ks ∙ ap (λ b. b || has s ks) e

pub has_right : (s : Sym) (js ks : List Sym) → has s ks ≡ true → has s (js ++ ks) ≡ true
has_right s js ks e = has_append s js ks ∙ or_true (has s js) (has s ks) e

pub not_left : (s : Sym) (js ks : List Sym) → has s (js ++ ks) ≡ false → has s js ≡ false
not_left s js ks e = or_left (has s js) (has s ks) (flip (has_append s js ks) ∙ e)

pub not_right : (s : Sym) (js ks : List Sym) → has s (js ++ ks) ≡ false → has s ks ≡ false
not_right s js ks e = or_right (has s js) (has s ks) (flip (has_append s js ks) ∙ e)

pub has_within : (s : Sym) (js ks : List Sym) → within js ks ≡ true → has s js ≡ true → has s ks ≡ true
has_within s [] ks w e = absurd cc
has_within s (j ∷ js) ks w e =
    or_split (same s j) (has s js) (has s ks) e
    (λ h. subst (λ k. has k ks ≡ true) (flip (same_eq s j h)) (and_left (has j ks) (within js ks) w))
    (λ h. has_within s js ks (and_right (has j ks) (within js ks) w) h)

by_false : (a b : Bool) → (a ≡ true → b ≡ true) → b ≡ false → a ≡ false
by_false false b f e = refl
by_false true b f e = let h : b ≡ true = f refl in absurd cc

pub not_within : (s : Sym) (js ks : List Sym) → within js ks ≡ true → has s ks ≡ false → has s js ≡ false
not_within s js ks w e = by_false (has s js) (has s ks) (has_within s js ks w) e

or_false : (a b : Bool) → a ≡ false → b ≡ false → a || b ≡ false
or_false false b e f = f
or_false true b e f = absurd cc

by_absurd : (a : Bool) → (a ≡ true → ⊥) → a ≡ false
by_absurd false f = refl
by_absurd true f = absurd (f refl)

pub not_apart : (s : Sym) (js ks : List Sym) → apart js ks ≡ true → has s ks ≡ true → has s js ≡ false
not_apart s [] ks w e = refl
not_apart s (j ∷ js) ks w e =
    or_false (same s j) (has s js)
    (by_absurd (same s j) (λ h. no_both (has s ks) e (subst (λ k. has k ks ≡ false) (flip (same_eq s j h)) (not_true (has j ks) (and_left (not (has j ks)) (apart js ks) w)))))
    (not_apart s js ks (and_right (not (has j ks)) (apart js ks) w) e)
