-- Statements as plain data (Python reference, chapters 7 and 8). A target or a value of several expressions is a tuple; a block is a list of statements.
use Rattle.std.specs.Prelude.{List, [], ◌∷◌, map, Option, Some, None}
use Rattle.puya_base.specs.declared.source.Place.{Place}
use Rattle.py_grammar.specs.declared.word.Word.{Word}
use Rattle.py_grammar.specs.declared.type_tree.TypeTree.{TypeTree}
use Rattle.py_grammar.specs.declared.expression.Tree.{Tree}
use Rattle.py_grammar.specs.declared.expression.Exprs.{Exprs}
use Rattle.py_grammar.specs.declared.statement.UpdateOp.{UpdateOp}
use Rattle.py_grammar.specs.declared.statement.UpdateOp.TheVariants as update
use Rattle.py_grammar.specs.declared.statement.Simple.{Simple}
use Rattle.py_grammar.specs.declared.statement.Simple.TheVariants as simple
use Rattle.py_grammar.specs.declared.statement.Stmt.{Stmt}
use Rattle.py_grammar.specs.declared.statement.Branch.{Branch}
use Rattle.py_grammar.specs.declared.statement.Block.{Block}
use Rattle.py_grammar.specs.declared.statement.Block.TheOpen.{Stmt-F, Branch-F, Block-F}
use Rattle.py_grammar.specs.declared.statement.Block.TheFolds.{fold-Stmt, fold-Branch, fold-Block}
use Rattle.algopy_library.specs.declared.operator.Operator.{Operator}
use Rattle.algopy_library.specs.declared.operator.Operator.TheVariants as operator
use Rattle.source_names.specs.Source.{Ex, tree_of, listed}

pub data Line : Type 0 where
  skip : Line
  leave : Place → Line
  again : Place → Line
  give : Place → Option Ex → Line
  claim : Place → Ex → Option Ex → Line
  delete : Place → Ex → Line
  alone : Ex → Line
  assign : Ex → Ex → Line
  augment : Ex → Operator → Ex → Line
  annotate : Ex → TypeTree → Option Ex → Line

mutual
  pub data St : Type 0 where
    line : Line → St
    if_else : Place → Branches → St
    while_do : Place → Ex → Sts → St
    for_in : Place → Word → Ex → Sts → St

  pub data Sts : Type 0 where
    no_stmts : Sts
    a_stmt : St → Sts → Sts

  pub data Branches : Type 0 where
    otherwise : Sts → Branches
    a_branch : Ex → Sts → Branches → Branches

pub record OneBranch : Type 0 where
  pub test : Ex
  pub block : Sts

abbrev pub sts_of : List St → Sts
sts_of [] = no_stmts
sts_of (s ∷ ss) = a_stmt s (sts_of ss)

abbrev pub branches_of : List OneBranch → Sts → Branches
branches_of [] b = otherwise b
branches_of (a ∷ as_) b = a_branch a.test a.block (branches_of as_ b)

abbrev pub block_or_none : Option Sts → Sts
block_or_none None = no_stmts
block_or_none (Some b) = b

-- no place; the grammar has no statement of no expressions
abbrev pub nowhere : Place
nowhere = record { line = 0; col = 0 }

abbrev pub exprs_of : Exprs → Ex
exprs_of es = listed nowhere (map tree_of es.items) es.comma

abbrev pub optional_exprs : Option Exprs → Option Ex
optional_exprs None = None
optional_exprs (Some es) = Some (exprs_of es)

abbrev pub optional_tree : Option Tree → Option Ex
optional_tree None = None
optional_tree (Some e) = Some (tree_of e)

abbrev pub update_operator : UpdateOp → Operator
update_operator update.Add = operator.Add
update_operator update.Sub = operator.Sub
update_operator update.Mul = operator.Mul
update_operator update.FloorDiv = operator.FloorDiv
update_operator update.Mod = operator.Mod
update_operator update.Power = operator.Power
update_operator update.BitAnd = operator.BitAnd
update_operator update.BitOr = operator.BitOr
update_operator update.BitXor = operator.BitXor
update_operator update.ShiftLeft = operator.ShiftLeft
update_operator update.ShiftRight = operator.ShiftRight

abbrev pub line_of : Simple → Line
line_of (simple.Pass p) = skip
line_of (simple.Break p) = leave p
line_of (simple.Continue p) = again p
line_of (simple.Return p es) = give p (optional_exprs es)
line_of (simple.Assert p e m) = claim p (tree_of e) (optional_tree m)
line_of (simple.Del p e) = delete p (tree_of e)
line_of (simple.Value es) = alone (exprs_of es)
line_of (simple.Assign ts es) = assign (exprs_of ts) (exprs_of es)
line_of (simple.Update ts o e) = augment (exprs_of ts) (update_operator o) (tree_of e)
line_of (simple.Annotate ts t es) = annotate (exprs_of ts) t (optional_exprs es)

abbrev pub stmt_layer : Stmt-F Sts St OneBranch → St
stmt_layer (Stmt-F.Simple l) = line (line_of l)
stmt_layer (Stmt-F.If p e b as_ c) = if_else p (a_branch (tree_of e) b (branches_of as_ (block_or_none c)))
stmt_layer (Stmt-F.While p e b) = while_do p (tree_of e) b
stmt_layer (Stmt-F.For p w e b) = for_in p w (tree_of e) b

abbrev pub branch_layer : Branch-F Sts St OneBranch → OneBranch
branch_layer a = record { test = tree_of a.test; block = a.block }

abbrev pub block_layer : Block-F Sts St OneBranch → Sts
block_layer (Block-F.Line l) = a_stmt (line (line_of l)) no_stmts
block_layer (Block-F.Lines ss) = sts_of ss

abbrev pub stmt_of : Stmt → St
stmt_of = fold-Stmt Sts St OneBranch block_layer stmt_layer branch_layer

abbrev pub branch_of : Branch → OneBranch
branch_of = fold-Branch Sts St OneBranch block_layer stmt_layer branch_layer

abbrev pub block_of : Block → Sts
block_of = fold-Block Sts St OneBranch block_layer stmt_layer branch_layer

abbrev pub stmts_of : List Stmt → Sts
stmts_of ss = sts_of (map stmt_of ss)
