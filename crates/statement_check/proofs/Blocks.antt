-- What each form of a statement stands for.
use Rattle.std.proofs.Common.{◌≡◌, ◌∙◌, List, map, ap, sym, Option, Some, None}
use Rattle.std.specs.Prelude.{option_map}
use Rattle.puya_base.specs.declared.source.Place.{Place}
use Rattle.py_grammar.specs.declared.word.Word.{Word}
use Rattle.py_grammar.specs.declared.expression.Tree.{Tree}
use Rattle.py_grammar.specs.declared.statement.Simple.{Simple}
use Rattle.py_grammar.specs.declared.statement.Stmt.{Stmt}
use Rattle.py_grammar.specs.declared.statement.Stmt.TheVariants as a_stmt_form
use Rattle.py_grammar.specs.declared.statement.Branch.{Branch}
use Rattle.py_grammar.specs.declared.statement.Block.{Block}
use Rattle.py_grammar.specs.declared.statement.Block.TheVariants as block
use Rattle.py_grammar.specs.declared.statement.Block.TheOpen.{Stmt-F, Block-F}
use Rattle.py_grammar.specs.declared.statement.Block.TheFolds.{fold-roll-Stmt, fold-roll-Block, fold_out-Branch}
use Rattle.source_names.specs.Source.{tree_of}
use Rattle.statement_check.specs.Lines.{St, Sts, OneBranch, line, if_else, while_do, for_in, a_branch, a_stmt, no_stmts, block_layer, block_of, block_or_none, branch_layer, branch_of, branches_of, line_of, stmt_layer, stmt_of, stmts_of}

pub stmt-Simple : (l : Simple) → stmt_of (a_stmt_form.Simple l) ≡ line (line_of l)
stmt-Simple l = ap stmt_of (sym (a_stmt_form.rolls-Simple l)) ∙ fold-roll-Stmt Sts St OneBranch block_layer stmt_layer branch_layer (Stmt-F.Simple l)

pub stmt-If : (p : Place) (e : Tree) (b : Block) (as_ : List Branch) (c : Option Block)
    → stmt_of (a_stmt_form.If p e b as_ c) ≡ if_else p (a_branch (tree_of e) (block_of b) (branches_of (map branch_of as_) (block_or_none (option_map block_of c))))
stmt-If p e b as_ None = ap stmt_of (sym (a_stmt_form.rolls-If p e b as_ None)) ∙ fold-roll-Stmt Sts St OneBranch block_layer stmt_layer branch_layer (Stmt-F.If p e b as_ None)
stmt-If p e b as_ (Some c) = ap stmt_of (sym (a_stmt_form.rolls-If p e b as_ (Some c))) ∙ fold-roll-Stmt Sts St OneBranch block_layer stmt_layer branch_layer (Stmt-F.If p e b as_ (Some c))

pub stmt-While : (p : Place) (e : Tree) (b : Block) → stmt_of (a_stmt_form.While p e b) ≡ while_do p (tree_of e) (block_of b)
stmt-While p e b = ap stmt_of (sym (a_stmt_form.rolls-While p e b)) ∙ fold-roll-Stmt Sts St OneBranch block_layer stmt_layer branch_layer (Stmt-F.While p e b)

pub stmt-For : (p : Place) (w : Word) (e : Tree) (b : Block) → stmt_of (a_stmt_form.For p w e b) ≡ for_in p w (tree_of e) (block_of b)
stmt-For p w e b = ap stmt_of (sym (a_stmt_form.rolls-For p w e b)) ∙ fold-roll-Stmt Sts St OneBranch block_layer stmt_layer branch_layer (Stmt-F.For p w e b)

pub block-Line : (l : Simple) → block_of (block.Line l) ≡ a_stmt (line (line_of l)) no_stmts
block-Line l = ap block_of (sym (block.rolls-Line l)) ∙ fold-roll-Block Sts St OneBranch block_layer stmt_layer branch_layer (Block-F.Line l)

pub block-Lines : (ss : List Stmt) → block_of (block.Lines ss) ≡ stmts_of ss
block-Lines ss = ap block_of (sym (block.rolls-Lines ss)) ∙ fold-roll-Block Sts St OneBranch block_layer stmt_layer branch_layer (Block-F.Lines ss)

pub branch-is : (b : Branch) → branch_of b ≡ record { test = tree_of b.test; block = block_of b.block }
branch-is b = fold_out-Branch Sts St OneBranch block_layer stmt_layer branch_layer b
