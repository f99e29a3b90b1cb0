-- The names that targets are, and the targets of unpackings.
use Rattle.std.proofs.Common.{◌≡◌, ◌∙◌, List, [], ◌∷◌, Bool, true, false, map, refl, sym, ap}
use Rattle.puya_base.specs.declared.source.Place.{Place}
use Rattle.py_grammar.specs.declared.expression.Tree.{Tree}
use Rattle.py_grammar.specs.declared.expression.Tree.TheVariants as tree
use Rattle.py_grammar.specs.declared.expression.Arg.TheOpen.{Tree-F}
use Rattle.py_grammar.specs.declared.expression.Arg.TheFolds.{fold-roll-Tree}
use Rattle.source_names.specs.Source.{Ex, OneArg, arg_layer, in_parens, listed_at, tree_layer, tree_of}
use Rattle.statement_check.specs.Targets.{target_name, unpacked}

tree-Paren : (p : Place) (es : List Tree) (c : Bool) → tree_of (tree.Paren p es c) ≡ in_parens p (map tree_of es) c
tree-Paren p es c = ap tree_of (sym (tree.rolls-Paren p es c)) ∙ fold-roll-Tree OneArg Ex arg_layer tree_layer (Tree-F.Paren p es c)

parens_name : (p q : Place) (es : List Ex) (c : Bool) → target_name (in_parens p es c) ≡ target_name (listed_at q es c)
parens_name p q [] c = refl
parens_name p q (e ∷ []) true = refl
parens_name p q (e ∷ []) false = refl
parens_name p q (e ∷ f ∷ es) c = refl

parens_unpacked : (p q : Place) (es : List Ex) (c : Bool) → unpacked (in_parens p es c) ≡ unpacked (listed_at q es c)
parens_unpacked p q [] c = refl
parens_unpacked p q (e ∷ []) true = refl
parens_unpacked p q (e ∷ []) false = refl
parens_unpacked p q (e ∷ f ∷ es) c = refl

pub name_in_parens : (t : Tree) (p : Place) (es fs : List Tree) (c : Bool) → t ≡ tree.Paren p es c → fs ≡ es → target_name (tree_of t) ≡ target_name (listed_at p (map tree_of fs) c)
name_in_parens t p es fs c is same =
    ap (λ u. target_name (tree_of u)) is
    ∙ ap target_name (tree-Paren p es c)
    ∙ parens_name p p (map tree_of es) c
    ∙ ap (λ us. target_name (listed_at p (map tree_of us) c)) (sym same)

pub unpacked_in_parens : (t : Tree) (p : Place) (es fs : List Tree) (c : Bool) → t ≡ tree.Paren p es c → fs ≡ es → unpacked (tree_of t) ≡ unpacked (listed_at p (map tree_of fs) c)
unpacked_in_parens t p es fs c is same =
    ap (λ u. unpacked (tree_of u)) is
    ∙ ap unpacked (tree-Paren p es c)
    ∙ parens_unpacked p p (map tree_of es) c
    ∙ ap (λ us. unpacked (listed_at p (map tree_of us) c)) (sym same)
