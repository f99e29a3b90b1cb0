-- Expressions as plain data. Operators between two values are one form; what stands in brackets or in a statement is one expression, a tuple where
-- there are several or a comma stands behind it (Python reference 6.15).
use Rattle.std.specs.Prelude.{Bool, false, List, [], ◌∷◌, map, Option, Some, None}
use Rattle.puya_base.specs.declared.source.Place.{Place}
use Rattle.py_grammar.specs.declared.word.Word.{Word}
use Rattle.py_grammar.specs.declared.word.Literal.{Literal}
use Rattle.py_grammar.specs.declared.expression.Tree.{Tree}
use Rattle.py_grammar.specs.declared.expression.Arg.{Arg}
use Rattle.py_grammar.specs.declared.expression.Exprs.{Exprs}
use Rattle.py_grammar.specs.declared.expression.Arg.TheOpen.{Tree-F, Arg-F}
use Rattle.py_grammar.specs.declared.expression.Arg.TheFolds.{fold-Tree, fold-Arg}
use Rattle.py_grammar.specs.declared.expression.BinaryOp.{BinaryOp}
use Rattle.py_grammar.specs.declared.expression.BinaryOp.TheVariants as op
use Rattle.py_grammar.specs.declared.expression.CompareOp.{CompareOp}
use Rattle.py_grammar.specs.declared.expression.CompareOp.TheVariants as compare
use Rattle.py_grammar.specs.declared.expression.UnaryOp.{UnaryOp}
use Rattle.algopy_library.specs.declared.operator.Operator.{Operator}
use Rattle.algopy_library.specs.declared.operator.Operator.TheVariants as operator

-- what stands between two operands
pub data Between : Type 0 where
  does : Operator → Between
  and_then : Between
  or_else : Between
  is_in : Between

mutual
  pub data Ex : Type 0 where
    name : Word → Ex
    number : Literal → Ex
    text : Place → List Literal → Ex
    bytes : Place → List Literal → Ex
    flag : Place → Bool → Ex
    paren : Place → Ex → Ex
    tuple : Place → Exs → Ex
    display : Place → Exs → Ex
    member : Place → Ex → Word → Ex
    index : Place → Ex → Ex → Ex
    slice : Place → Ex → Maybe → Maybe → Ex
    call : Place → Ex → Args → Ex
    unary : Place → UnaryOp → Ex → Ex
    binary : Place → Between → Ex → Ex → Ex
    -- the value if the condition holds, the condition, the value if it does not
    choose : Place → Ex → Ex → Ex → Ex

  pub data Exs : Type 0 where
    no_exprs : Exs
    an_expr : Ex → Exs → Exs

  pub data Maybe : Type 0 where
    absent : Maybe
    present : Ex → Maybe

  pub data Args : Type 0 where
    no_args : Args
    an_arg : Option Word → Ex → Args → Args

pub record OneArg : Type 0 where
  pub key : Option Word
  pub value : Ex

abbrev pub exs_of : List Ex → Exs
exs_of [] = no_exprs
exs_of (e ∷ es) = an_expr e (exs_of es)

abbrev pub args_of : List OneArg → Args
args_of [] = no_args
args_of (a ∷ as_) = an_arg a.key a.value (args_of as_)

abbrev pub maybe_of : Option Ex → Maybe
maybe_of None = absent
maybe_of (Some e) = present e

-- the place of an expression's first token
abbrev pub place_of : Ex → Place
place_of (name w) = w.place
place_of (number l) = l.place
place_of (text p ls) = p
place_of (bytes p ls) = p
place_of (flag p b) = p
place_of (paren p e) = p
place_of (tuple p es) = p
place_of (display p es) = p
place_of (member p e w) = p
place_of (index p e i) = p
place_of (slice p e a b) = p
place_of (call p f as_) = p
place_of (unary p o e) = p
place_of (binary p o a b) = p
place_of (choose p a c b) = p

abbrev pub binary_form : BinaryOp → Between
binary_form op.Or = or_else
binary_form op.And = and_then
binary_form op.BitOr = does operator.BitOr
binary_form op.BitXor = does operator.BitXor
binary_form op.BitAnd = does operator.BitAnd
binary_form op.ShiftLeft = does operator.ShiftLeft
binary_form op.ShiftRight = does operator.ShiftRight
binary_form op.Add = does operator.Add
binary_form op.Sub = does operator.Sub
binary_form op.Mul = does operator.Mul
binary_form op.Div = does operator.Div
binary_form op.FloorDiv = does operator.FloorDiv
binary_form op.Mod = does operator.Mod

abbrev pub compare_form : CompareOp → Between
compare_form compare.Less = does operator.Less
compare_form compare.Greater = does operator.Greater
compare_form compare.AtMost = does operator.AtMost
compare_form compare.AtLeast = does operator.AtLeast
compare_form compare.Equal = does operator.Equal
compare_form compare.NotEqual = does operator.NotEqual
compare_form compare.In = is_in
compare_form compare.NotIn = is_in

-- expressions with commas between them: one alone is itself
abbrev pub listed_at : Place → List Ex → Bool → Ex
listed_at p (e ∷ []) false = e
listed_at p es c = tuple p (exs_of es)

abbrev pub first_place : Place → List Ex → Place
first_place p [] = p
first_place p (e ∷ es) = place_of e

abbrev pub listed : Place → List Ex → Bool → Ex
listed p es c = listed_at (first_place p es) es c

-- parentheses: one expression in them is itself, at the place of the opening one
abbrev pub in_parens : Place → List Ex → Bool → Ex
in_parens p (e ∷ []) false = paren p e
in_parens p es c = tuple p (exs_of es)

abbrev pub tree_layer : Tree-F OneArg Ex → Ex
tree_layer (Tree-F.Name w) = name w
tree_layer (Tree-F.Number l) = number l
tree_layer (Tree-F.Text p ls) = text p ls
tree_layer (Tree-F.Bytes p ls) = bytes p ls
tree_layer (Tree-F.Flag p b) = flag p b
tree_layer (Tree-F.Paren p es c) = in_parens p es c
tree_layer (Tree-F.Display p es c) = display p (exs_of es)
tree_layer (Tree-F.Member p e w) = member p e w
tree_layer (Tree-F.Index p e es c) = index p e (listed p es c)
tree_layer (Tree-F.Slice p e a b) = slice p e (maybe_of a) (maybe_of b)
tree_layer (Tree-F.Call p f as_ c) = call p f (args_of as_)
tree_layer (Tree-F.Power p a b) = binary p (does operator.Power) a b
tree_layer (Tree-F.Unary p o e) = unary p o e
tree_layer (Tree-F.Binary p o a b) = binary p (binary_form o) a b
tree_layer (Tree-F.Compare p o a b) = binary p (compare_form o) a b
tree_layer (Tree-F.Choose p a c b) = choose p a c b

abbrev pub arg_layer : Arg-F OneArg Ex → OneArg
arg_layer (Arg-F.Keyed w e) = record { key = Some w; value = e }
arg_layer (Arg-F.Plain e) = record { key = None; value = e }

abbrev pub tree_of : Tree → Ex
tree_of = fold-Tree OneArg Ex arg_layer tree_layer

abbrev pub arg_of : Arg → OneArg
arg_of = fold-Arg OneArg Ex arg_layer tree_layer

-- the expressions of a statement
abbrev pub value_of : Place → Exprs → Ex
value_of p es = listed p (map tree_of es.items) es.comma
