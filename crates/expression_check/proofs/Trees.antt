-- What each form of a tree stands for.
use Rattle.std.proofs.Common.{◌≡◌, ◌∙◌, List, Bool, map, ap, sym, Option, Some, None}
use Rattle.std.specs.Prelude.{option_map}
use Rattle.puya_base.specs.declared.source.Place.{Place}
use Rattle.algopy_library.specs.declared.operator.Operator.TheVariants as operator
use Rattle.py_grammar.specs.declared.word.Word.{Word}
use Rattle.py_grammar.specs.declared.word.Literal.{Literal}
use Rattle.py_grammar.specs.declared.expression.Tree.{Tree}
use Rattle.py_grammar.specs.declared.expression.Tree.TheVariants as tree
use Rattle.py_grammar.specs.declared.expression.Arg.{Arg}
use Rattle.py_grammar.specs.declared.expression.Arg.TheVariants as arg
use Rattle.py_grammar.specs.declared.expression.Arg.TheOpen.{Tree-F, Arg-F}
use Rattle.py_grammar.specs.declared.expression.Arg.TheFolds.{fold-roll-Tree, fold-roll-Arg}
use Rattle.py_grammar.specs.declared.expression.BinaryOp.{BinaryOp}
use Rattle.py_grammar.specs.declared.expression.CompareOp.{CompareOp}
use Rattle.py_grammar.specs.declared.expression.UnaryOp.{UnaryOp}
use Rattle.source_names.specs.Source.{Ex, OneArg, arg_layer, arg_of, args_of, binary, binary_form, bytes, call, choose, compare_form, display, does, exs_of, flag, in_parens, index, listed, maybe_of, member, name, number, slice, text, tree_layer, tree_of, unary}

pub tree-Name : (w : Word) → tree_of (tree.Name w) ≡ name w
tree-Name w = ap tree_of (sym (tree.rolls-Name w)) ∙ fold-roll-Tree OneArg Ex arg_layer tree_layer (Tree-F.Name w)

pub tree-Number : (l : Literal) → tree_of (tree.Number l) ≡ number l
tree-Number l = ap tree_of (sym (tree.rolls-Number l)) ∙ fold-roll-Tree OneArg Ex arg_layer tree_layer (Tree-F.Number l)

pub tree-Text : (p : Place) (ls : List Literal) → tree_of (tree.Text p ls) ≡ text p ls
tree-Text p ls = ap tree_of (sym (tree.rolls-Text p ls)) ∙ fold-roll-Tree OneArg Ex arg_layer tree_layer (Tree-F.Text p ls)

pub tree-Bytes : (p : Place) (ls : List Literal) → tree_of (tree.Bytes p ls) ≡ bytes p ls
tree-Bytes p ls = ap tree_of (sym (tree.rolls-Bytes p ls)) ∙ fold-roll-Tree OneArg Ex arg_layer tree_layer (Tree-F.Bytes p ls)

pub tree-Flag : (p : Place) (b : Bool) → tree_of (tree.Flag p b) ≡ flag p b
tree-Flag p b = ap tree_of (sym (tree.rolls-Flag p b)) ∙ fold-roll-Tree OneArg Ex arg_layer tree_layer (Tree-F.Flag p b)

pub tree-Paren : (p : Place) (es : List Tree) (c : Bool) → tree_of (tree.Paren p es c) ≡ in_parens p (map tree_of es) c
tree-Paren p es c = ap tree_of (sym (tree.rolls-Paren p es c)) ∙ fold-roll-Tree OneArg Ex arg_layer tree_layer (Tree-F.Paren p es c)

pub tree-Display : (p : Place) (es : List Tree) (c : Bool) → tree_of (tree.Display p es c) ≡ display p (exs_of (map tree_of es))
tree-Display p es c = ap tree_of (sym (tree.rolls-Display p es c)) ∙ fold-roll-Tree OneArg Ex arg_layer tree_layer (Tree-F.Display p es c)

pub tree-Member : (p : Place) (e : Tree) (w : Word) → tree_of (tree.Member p e w) ≡ member p (tree_of e) w
tree-Member p e w = ap tree_of (sym (tree.rolls-Member p e w)) ∙ fold-roll-Tree OneArg Ex arg_layer tree_layer (Tree-F.Member p e w)

pub tree-Index : (p : Place) (e : Tree) (es : List Tree) (c : Bool) → tree_of (tree.Index p e es c) ≡ index p (tree_of e) (listed p (map tree_of es) c)
tree-Index p e es c = ap tree_of (sym (tree.rolls-Index p e es c)) ∙ fold-roll-Tree OneArg Ex arg_layer tree_layer (Tree-F.Index p e es c)

pub tree-Slice : (p : Place) (e : Tree) (a b : Option Tree) → tree_of (tree.Slice p e a b) ≡ slice p (tree_of e) (maybe_of (option_map tree_of a)) (maybe_of (option_map tree_of b))
tree-Slice p e None None = ap tree_of (sym (tree.rolls-Slice p e None None)) ∙ fold-roll-Tree OneArg Ex arg_layer tree_layer (Tree-F.Slice p e None None)
tree-Slice p e None (Some b) = ap tree_of (sym (tree.rolls-Slice p e None (Some b))) ∙ fold-roll-Tree OneArg Ex arg_layer tree_layer (Tree-F.Slice p e None (Some b))
tree-Slice p e (Some a) None = ap tree_of (sym (tree.rolls-Slice p e (Some a) None)) ∙ fold-roll-Tree OneArg Ex arg_layer tree_layer (Tree-F.Slice p e (Some a) None)
tree-Slice p e (Some a) (Some b) = ap tree_of (sym (tree.rolls-Slice p e (Some a) (Some b))) ∙ fold-roll-Tree OneArg Ex arg_layer tree_layer (Tree-F.Slice p e (Some a) (Some b))

pub tree-Call : (p : Place) (f : Tree) (as_ : List Arg) (c : Bool) → tree_of (tree.Call p f as_ c) ≡ call p (tree_of f) (args_of (map arg_of as_))
tree-Call p f as_ c = ap tree_of (sym (tree.rolls-Call p f as_ c)) ∙ fold-roll-Tree OneArg Ex arg_layer tree_layer (Tree-F.Call p f as_ c)

pub tree-Power : (p : Place) (a b : Tree) → tree_of (tree.Power p a b) ≡ binary p (does operator.Power) (tree_of a) (tree_of b)
tree-Power p a b = ap tree_of (sym (tree.rolls-Power p a b)) ∙ fold-roll-Tree OneArg Ex arg_layer tree_layer (Tree-F.Power p a b)

pub tree-Unary : (p : Place) (o : UnaryOp) (e : Tree) → tree_of (tree.Unary p o e) ≡ unary p o (tree_of e)
tree-Unary p o e = ap tree_of (sym (tree.rolls-Unary p o e)) ∙ fold-roll-Tree OneArg Ex arg_layer tree_layer (Tree-F.Unary p o e)

pub tree-Binary : (p : Place) (o : BinaryOp) (a b : Tree) → tree_of (tree.Binary p o a b) ≡ binary p (binary_form o) (tree_of a) (tree_of b)
tree-Binary p o a b = ap tree_of (sym (tree.rolls-Binary p o a b)) ∙ fold-roll-Tree OneArg Ex arg_layer tree_layer (Tree-F.Binary p o a b)

pub tree-Compare : (p : Place) (o : CompareOp) (a b : Tree) → tree_of (tree.Compare p o a b) ≡ binary p (compare_form o) (tree_of a) (tree_of b)
tree-Compare p o a b = ap tree_of (sym (tree.rolls-Compare p o a b)) ∙ fold-roll-Tree OneArg Ex arg_layer tree_layer (Tree-F.Compare p o a b)

pub tree-Choose : (p : Place) (a c b : Tree) → tree_of (tree.Choose p a c b) ≡ choose p (tree_of a) (tree_of c) (tree_of b)
tree-Choose p a c b = ap tree_of (sym (tree.rolls-Choose p a c b)) ∙ fold-roll-Tree OneArg Ex arg_layer tree_layer (Tree-F.Choose p a c b)

pub arg-Keyed : (w : Word) (e : Tree) → arg_of (arg.Keyed w e) ≡ record { key = Some w; value = tree_of e }
arg-Keyed w e = ap arg_of (sym (arg.rolls-Keyed w e)) ∙ fold-roll-Arg OneArg Ex arg_layer tree_layer (Arg-F.Keyed w e)

pub arg-Plain : (e : Tree) → arg_of (arg.Plain e) ≡ record { key = None; value = tree_of e }
arg-Plain e = ap arg_of (sym (arg.rolls-Plain e)) ∙ fold-roll-Arg OneArg Ex arg_layer tree_layer (Arg-F.Plain e)
