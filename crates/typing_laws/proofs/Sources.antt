-- Each augmented assignment of the source has an operator that gives the type of its operands.
use Rattle.std.proofs.Common.{List, [], ◌∷◌, map, Some, None, refl, sym, subst}
use Rattle.std.specs.Prelude.{IsTrue}
use Rattle.py_grammar.specs.declared.statement.UpdateOp.{UpdateOp}
use Rattle.py_grammar.specs.declared.statement.UpdateOp.TheVariants as update
use Rattle.py_grammar.specs.declared.statement.Simple.{Simple}
use Rattle.py_grammar.specs.declared.statement.Simple.TheVariants as simple
use Rattle.py_grammar.specs.declared.statement.Stmt.{Stmt, map-Stmt}
use Rattle.py_grammar.specs.declared.statement.Branch.{Branch, map-Branch}
use Rattle.py_grammar.specs.declared.statement.Block.{Block, map-Block}
use Rattle.py_grammar.specs.declared.statement.Block.TheOpen.{Stmt-F, Branch-F, Block-F}
use Rattle.py_grammar.specs.declared.statement.Block.TheFolds.{ind-Block, fold-roll-Stmt, fold-roll-Branch, fold-roll-Block}
use Rattle.statement_check.specs.Lines.{St, Sts, OneBranch, no_stmts, sts_of, branches_of, line_of, update_operator, stmt_layer, branch_layer, block_layer, stmt_of, branch_of, block_of}
use Rattle.typing_laws.proofs.Updates.{is_update, LineUpdates, Updates, AllUpdate, BranchesUpdate}

operator_updates : (o : UpdateOp) → IsTrue (is_update (update_operator o))
operator_updates update.Add = refl
operator_updates update.Sub = refl
operator_updates update.Mul = refl
operator_updates update.FloorDiv = refl
operator_updates update.Mod = refl
operator_updates update.Power = refl
operator_updates update.BitAnd = refl
operator_updates update.BitOr = refl
operator_updates update.BitXor = refl
operator_updates update.ShiftLeft = refl
operator_updates update.ShiftRight = refl

line_updates : (l : Simple) → LineUpdates (line_of l)
line_updates (simple.Pass p) = tt
line_updates (simple.Break p) = tt
line_updates (simple.Continue p) = tt
line_updates (simple.Return p es) = tt
line_updates (simple.Assert p e m) = tt
line_updates (simple.Del p e) = tt
line_updates (simple.Value es) = tt
line_updates (simple.Assign ts es) = tt
line_updates (simple.Update ts o e) = operator_updates o
line_updates (simple.Annotate ts t es) = tt

abbrev GoodBlock : Block → Type 0
GoodBlock b = AllUpdate (block_of b)

abbrev GoodStmt : Stmt → Type 0
GoodStmt s = Updates (stmt_of s)

abbrev GoodBranch : Branch → Type 0
GoodBranch a = AllUpdate (branch_of a).block

abbrev ABlock : Type 0
ABlock = (b : Block) × GoodBlock b

abbrev AStmt : Type 0
AStmt = (s : Stmt) × GoodStmt s

abbrev ABranch : Type 0
ABranch = (a : Branch) × GoodBranch a

all_update : (ss : List AStmt) → AllUpdate (sts_of (map stmt_of (map (λ (e : AStmt). e.0) ss)))
all_update [] = tt
all_update (s ∷ ss) = (s.1, all_update ss)

branches_update : (as_ : List ABranch) (r : Sts) → AllUpdate r → BranchesUpdate (branches_of (map branch_of (map (λ (e : ABranch). e.0) as_)) r)
branches_update [] r h = h
branches_update (a ∷ as_) r h = (a.1, branches_update as_ r h)

block_good : (y : Block-F ABlock AStmt ABranch) → AllUpdate (block_layer (map-Block Block Stmt Branch Sts St OneBranch block_of stmt_of branch_of (map-Block ABlock AStmt ABranch Block Stmt Branch (λ e. e.0) (λ e. e.0) (λ e. e.0) y)))
block_good (Block-F.Line l) = (line_updates l, tt)
block_good (Block-F.Lines ss) = all_update ss

stmt_good : (y : Stmt-F ABlock AStmt ABranch) → Updates (stmt_layer (map-Stmt Block Stmt Branch Sts St OneBranch block_of stmt_of branch_of (map-Stmt ABlock AStmt ABranch Block Stmt Branch (λ e. e.0) (λ e. e.0) (λ e. e.0) y)))
stmt_good (Stmt-F.Simple l) = line_updates l
stmt_good (Stmt-F.If p e b as_ None) = (b.1, branches_update as_ no_stmts tt)
stmt_good (Stmt-F.If p e b as_ (Some c)) = (b.1, branches_update as_ (block_of c.0) c.1)
stmt_good (Stmt-F.While p e b) = b.1
stmt_good (Stmt-F.For p w e b) = b.1

branch_good : (y : Branch-F ABlock AStmt ABranch) → AllUpdate (branch_layer (map-Branch Block Stmt Branch Sts St OneBranch block_of stmt_of branch_of (map-Branch ABlock AStmt ABranch Block Stmt Branch (λ e. e.0) (λ e. e.0) (λ e. e.0) y))).block
branch_good y = y.block.1

-- a block of the source
pub block_updates : (b : Block) → AllUpdate (block_of b)
block_updates = ind-Block GoodBlock GoodStmt GoodBranch
    (λ x y is. subst AllUpdate (sym (fold-roll-Block Sts St OneBranch block_layer stmt_layer branch_layer x)) (subst (λ z. AllUpdate (block_layer (map-Block Block Stmt Branch Sts St OneBranch block_of stmt_of branch_of z))) is (block_good y)))
    (λ x y is. subst Updates (sym (fold-roll-Stmt Sts St OneBranch block_layer stmt_layer branch_layer x)) (subst (λ z. Updates (stmt_layer (map-Stmt Block Stmt Branch Sts St OneBranch block_of stmt_of branch_of z))) is (stmt_good y)))
    (λ x y is. subst (λ (a : OneBranch). AllUpdate a.block) (sym (fold-roll-Branch Sts St OneBranch block_layer stmt_layer branch_layer x)) (subst (λ z. AllUpdate (branch_layer (map-Branch Block Stmt Branch Sts St OneBranch block_of stmt_of branch_of z)).block) is (branch_good y)))
