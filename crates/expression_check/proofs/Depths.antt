-- How deep expressions are.
use Rattle.std.proofs.Common.{ℕ, ◌+◌, max, map, List, [], ◌∷◌, Option, Some, None}
use Rattle.py_grammar.specs.declared.expression.Tree.{Tree}
use Rattle.py_grammar.specs.declared.expression.Arg.{Arg}
use Rattle.py_grammar.specs.declared.expression.Arg.TheOpen.{Tree-F, Arg-F}
use Rattle.py_grammar.specs.declared.expression.Arg.TheFolds.{fold-Tree, fold-Arg}

abbrev pub greatest : List ℕ → ℕ
greatest [] = 0
greatest (n ∷ ns) = max n (greatest ns)

abbrev pub optional : Option ℕ → ℕ
optional None = 0
optional (Some n) = n

abbrev pub tree_step : Tree-F ℕ ℕ → ℕ
tree_step (Tree-F.Name w) = 1
tree_step (Tree-F.Number l) = 1
tree_step (Tree-F.Text p ls) = 1
tree_step (Tree-F.Bytes p ls) = 1
tree_step (Tree-F.Flag p b) = 1
tree_step (Tree-F.Paren p es c) = greatest es + 1
tree_step (Tree-F.Display p es c) = greatest es + 1
tree_step (Tree-F.Member p e w) = e + 1
tree_step (Tree-F.Index p e es c) = max e (greatest es) + 1
tree_step (Tree-F.Slice p e a b) = max e (max (optional a) (optional b)) + 1
tree_step (Tree-F.Call p f as_ c) = max f (greatest as_) + 1
tree_step (Tree-F.Power p a b) = max a b + 1
tree_step (Tree-F.Unary p o e) = e + 1
tree_step (Tree-F.Binary p o a b) = max a b + 1
tree_step (Tree-F.Compare p o a b) = max a b + 1
tree_step (Tree-F.Choose p a c b) = max a (max c b) + 1

abbrev pub arg_step : Arg-F ℕ ℕ → ℕ
arg_step (Arg-F.Keyed w e) = e
arg_step (Arg-F.Plain e) = e

abbrev pub tree_depth : Tree → ℕ
tree_depth = fold-Tree ℕ ℕ arg_step tree_step

abbrev pub arg_depth : Arg → ℕ
arg_depth = fold-Arg ℕ ℕ arg_step tree_step

abbrev pub trees_depth : List Tree → ℕ
trees_depth ts = greatest (map tree_depth ts)

abbrev pub args_depth : List Arg → ℕ
args_depth as_ = greatest (map arg_depth as_)

abbrev pub end_depth : Option Tree → ℕ
end_depth None = 0
end_depth (Some t) = tree_depth t
