-- What stands in parentheses.
use Rattle.std.proofs.Common.{◌≡◌, ◌≤◌, List, [], ◌∷◌, length, get_or, map, Bool, true, false, refl, sym, ap, arith}
use Rattle.puya_base.specs.declared.source.Place.{Place}
use Rattle.source_names.specs.declared.named.Entry.{Entry}
use Rattle.py_grammar.specs.declared.expression.Tree.{Tree}
use Rattle.source_names.specs.Source.{Ex, in_parens, tree_of}
use Rattle.source_headers.specs.Headers.{decorator, no_name}

-- with a comma it is a tuple
pub parens_comma : (names : List Entry) (p : Place) (es : List Ex) → decorator names (in_parens p es true) ≡ no_name
parens_comma names p [] = refl
parens_comma names p (e ∷ []) = refl
parens_comma names p (e ∷ f ∷ es) = refl

pub parens_none : (names : List Entry) (p : Place) (xs : List Tree) (c : Bool) → length xs ≡ 0 → decorator names (in_parens p (map tree_of xs) c) ≡ no_name
parens_none names p [] c h = refl
parens_none names p (x ∷ xs) c h = cc

pub parens_more : (names : List Entry) (p : Place) (xs : List Tree) (c : Bool) → 2 ≤ length xs → decorator names (in_parens p (map tree_of xs) c) ≡ no_name
parens_more names p [] c h = absurd (omega (arith, h))
parens_more names p (x ∷ []) c h = absurd (omega (arith, h))
parens_more names p (x ∷ y ∷ xs) c h = refl

pub parens_one : (names : List Entry) (p : Place) (xs : List Tree) (x : Tree) → x ≡ get_or xs 0 x → length xs ≡ 1
    → decorator names (in_parens p (map tree_of xs) false) ≡ decorator names (tree_of x)
parens_one names p [] x is h = absurd (omega (arith, h))
parens_one names p (y ∷ []) x is h = ap (λ z. decorator names (tree_of z)) (sym is)
parens_one names p (y ∷ z ∷ xs) x is h = absurd (omega (arith, h))
