-- How deep the statements of a contract's functions are: a call goes one level down, whatever the depth of the function's body.
use Rattle.std.proofs.Common.{◌≡◌, ℕ, zero, suc, ◌+◌, ◌*◌, ◌<◌, ◌≤◌, max, map, List, [], ◌∷◌, Option, Some, None, slice_get, arith, subst}
use Rattle.awst.specs.declared.expression.Expr.{Expr, size-Expr}
use Rattle.awst.specs.declared.statement.Stmt.{Stmt}
use Rattle.awst.specs.declared.statement.StmtKind.{StmtKind}
use Rattle.awst.specs.declared.statement.Arm.{Arm}
use Rattle.awst.specs.declared.statement.MatchArm.{MatchArm}
use Rattle.awst.specs.declared.statement.StmtKind.TheOpen.{StmtKind-F, Stmt-F, Arm-F, MatchArm-F}
use Rattle.awst.specs.declared.statement.StmtKind.TheFolds.{fold-Stmt, fold-StmtKind, fold-Arm, fold-MatchArm}
use Rattle.awst.specs.declared.contract.Func.{Func}

abbrev pub greatest : List ℕ → ℕ
greatest [] = 0
greatest (n ∷ ns) = max n (greatest ns)

abbrev pub optional_depth : Option Expr → ℕ
optional_depth None = 0
optional_depth (Some e) = size-Expr e

abbrev pub kind_step : StmtKind-F ℕ ℕ ℕ ℕ → ℕ
kind_step (StmtKind-F.Assign ts prim e) = size-Expr e + 2
kind_step (StmtKind-F.Drop e) = size-Expr e + 2
kind_step (StmtKind-F.Assert e) = size-Expr e + 2
kind_step (StmtKind-F.If arms rest) = max (greatest arms) (greatest rest) + 2
kind_step (StmtKind-F.While c body) = max (size-Expr c) (greatest body) + 2
kind_step (StmtKind-F.Range x start stop step body) = max (max (optional_depth start) (size-Expr stop)) (greatest body) + 2
kind_step (StmtKind-F.Each x e body) = max (size-Expr e) (greatest body) + 2
kind_step StmtKind-F.Break = 2
kind_step StmtKind-F.Continue = 2
kind_step (StmtKind-F.Return e) = optional_depth e + 2
kind_step StmtKind-F.Fail = 2
kind_step (StmtKind-F.Match e picks rest) = max (size-Expr e) (max (greatest picks) (greatest rest)) + 2

abbrev pub stmt_step : Stmt-F ℕ ℕ ℕ ℕ → ℕ
stmt_step s = s.kind

abbrev pub arm_step : Arm-F ℕ ℕ ℕ ℕ → ℕ
arm_step a = max (size-Expr a.condition) (greatest a.body)

abbrev pub pick_step : MatchArm-F ℕ ℕ ℕ ℕ → ℕ
pick_step p = greatest p.body

abbrev pub stmt_depth : Stmt → ℕ
stmt_depth = fold-Stmt ℕ ℕ ℕ ℕ kind_step arm_step pick_step stmt_step

abbrev pub kind_depth : StmtKind → ℕ
kind_depth = fold-StmtKind ℕ ℕ ℕ ℕ kind_step arm_step pick_step stmt_step

abbrev pub arm_depth : Arm → ℕ
arm_depth = fold-Arm ℕ ℕ ℕ ℕ kind_step arm_step pick_step stmt_step

abbrev pub pick_depth : MatchArm → ℕ
pick_depth = fold-MatchArm ℕ ℕ ℕ ℕ kind_step arm_step pick_step stmt_step

abbrev pub body_depth : List Stmt → ℕ
body_depth body = greatest (map stmt_depth body)

abbrev pub arms_depth : List Arm → ℕ
arms_depth arms = greatest (map arm_depth arms)

abbrev pub picks_depth : List MatchArm → ℕ
picks_depth picks = greatest (map pick_depth picks)

abbrev pub deepest : List Func → ℕ
deepest [] = 0
deepest (f ∷ fs) = max (body_depth f.body) (deepest fs)

pub deep : (fs : List Func) (i : ℕ) (f : Func) → slice_get fs i ≡ Some f → body_depth f.body ≤ deepest fs
deep [] i f e = cc e
deep (g ∷ fs) zero f e =
    let h : g ≡ f = cc e in
    subst (λ (k : Func). body_depth k.body ≤ max (body_depth g.body) (deepest fs)) h (omega arith)
deep (g ∷ fs) (suc i) f e = omega (arith, deep fs i f e)

-- what a level of calls is worth, and a place in it
unfoldable pub level : List Func → ℕ
level fs = 8 * deepest fs + 16

pub lower : (n m s : ℕ) (fs : List Func) → n ≡ m + 1 → s ≤ deepest fs → m * level fs + (8 * s + 15) < n * level fs
unfolding level
lower n m s fs h g =
    let e : (m + 1) * (8 * deepest fs + 16) ≡ m * (8 * deepest fs + 16) + (8 * deepest fs + 16) = omega arith in
    rw h (rw e (omega arith))

-- a function that is called is below its call
pub called_lower : (n f : ℕ) (fs : List Func) (func : Func) → slice_get fs f ≡ Some func → n * level fs + (8 * body_depth func.body + 15) < suc n * level fs
called_lower n f fs func h = let e : suc n ≡ n + 1 = omega arith in lower (suc n) n (body_depth func.body) fs e (deep fs f func h)
