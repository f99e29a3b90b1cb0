-- What typed statements do to variables.
use Rattle.std.proofs.Common.{◌≡◌, ℕ, Bool, false, List, [], ◌∷◌, ◌++◌, map, Option, Some, None, refl, sym, ◌∙◌, ap}
use Rattle.std.specs.Prelude.{not}
use Rattle.puya_base.specs.declared.source.Place.{Place}
use Rattle.awst.specs.declared.primitive.Primitive.{Primitive}
use Rattle.awst.specs.declared.expression.Expr.{Expr}
use Rattle.awst.specs.declared.expression.ExprKind.{ExprKind, out-ExprKind, roll-ExprKind, roll-out-ExprKind}
use Rattle.awst.specs.declared.expression.ExprKind.TheOpen.{ExprKind-F, Index-F}
use Rattle.awst.specs.declared.expression.ExprKind.TheFolds.{fold-roll-ExprKind, fold-roll-Index}
use Rattle.awst.specs.declared.expression.ExprKind.TheVariants as value_kind
use Rattle.awst.specs.declared.expression.Index.TheVariants as index
use Rattle.awst.specs.declared.ty.Ty.{Ty}
use Rattle.awst.specs.declared.expression.Index.{Index}
use Rattle.awst.specs.declared.statement.Stmt.{Stmt}
use Rattle.awst.specs.declared.statement.StmtKind.{StmtKind}
use Rattle.awst.specs.declared.statement.StmtKind.TheVariants as kind
use Rattle.awst.specs.declared.statement.StmtKind.TheOpen.{StmtKind-F}
use Rattle.awst.specs.declared.statement.StmtKind.TheFolds.{fold_out-Stmt}
use Rattle.awst.specs.declared.statement.Target.{Target}
use Rattle.awst.specs.declared.statement.Target.TheVariants as target
use Rattle.awst.specs.Types.{ValueType}
use Rattle.awst.specs.Tree.{Ex}
use Rattle.awst.specs.Plain.{Bare, Which, fixed, indexed, item, Statement, PlainArm, PlainPick, arm_layer, pick_layer, placed_layer, which_of, kind_layer, index_layer, expr_layer, bare_of, tree_of, stmt_layer, kind_of, statement_of, all_plain, assigned_scalars, destination, optional_tree}
use Rattle.awst.specs.Paths as Paths
use Rattle.awst.specs.Paths.{Moves, none, one, joined, is_always, is_true_form, ex_moves, form_moves, optional_moves, all_set, over_items, st_moves, sts_moves}
use Rattle.awst.proofs.Equations.{tree-Expr, kind-Assign, kind-Drop, kind-Assert, kind-While, kind-Range, kind-Each, kind-Break, kind-Continue, kind-Return}
use Rattle.meaning_rules.specs.declared.meaning.Typed.{Typed}
use Rattle.statement_check.specs.Statements.{stmt, is_true_kind, first_part}
use Rattle.typing_laws.proofs.Moving.{joined-none, joined-joined}

abbrev pub moves_of : List ValueType → ℕ → List Stmt → Moves
moves_of vs a ss = sts_moves (all_plain vs a (map statement_of ss))

-- one list behind another
pub moves-append : (vs : List ValueType) (a : ℕ) (ss more : List Stmt) → moves_of vs a (ss ++ more) ≡ joined (moves_of vs a ss) (moves_of vs a more)
moves-append vs a [] more = refl
moves-append vs a (s ∷ ss) more =
    let m = st_moves ((statement_of s).plain vs a) in
    ap (joined m) (moves-append vs a ss more) ∙ sym (joined-joined m (moves_of vs a ss) (moves_of vs a more))

-- one statement alone
pub moves-stmt : (vs : List ValueType) (a : ℕ) (p : Place) (k : StmtKind) (layer : Place → Statement) → kind_of k ≡ layer → moves_of vs a (stmt p k) ≡ st_moves ((layer p).plain vs a)
moves-stmt vs a p k layer e =
    let whole : Stmt = record { place = p; kind = k } in
    joined-none (st_moves ((statement_of whole).plain vs a))
    ∙ ap (λ (z : Statement). st_moves (z.plain vs a)) (fold_out-Stmt (Place → Statement) PlainArm PlainPick Statement stmt_layer arm_layer pick_layer placed_layer whole)
    ∙ ap (λ (z : Place → Statement). st_moves ((z p).plain vs a)) e

pub moves-Assign : (vs : List ValueType) (a : ℕ) (p : Place) (ts : List Target) (e : Expr) → moves_of vs a (stmt p (kind.Assign ts None e)) ≡ joined (ex_moves (tree_of e)) (all_set (map destination ts))
moves-Assign vs a p ts e = moves-stmt vs a p (kind.Assign ts None e) _ (kind-Assign ts None e)

-- an augmented assignment reads its variable first
pub moves-Augment : (vs : List ValueType) (a : ℕ) (p : Place) (x : ℕ) (q : Primitive) (e : Expr)
    → moves_of vs a (stmt p (kind.Assign (target.Local x ∷ []) (Some q) e)) ≡ joined (one (Paths.reads x p) (joined (ex_moves (tree_of e)) none)) (one (Paths.sets x) none)
moves-Augment vs a p x q e = moves-stmt vs a p (kind.Assign (target.Local x ∷ []) (Some q) e) _ (kind-Assign (target.Local x ∷ []) (Some q) e)

pub moves-Drop : (vs : List ValueType) (a : ℕ) (p : Place) (e : Expr) → moves_of vs a (stmt p (kind.Drop e)) ≡ ex_moves (tree_of e)
moves-Drop vs a p e = moves-stmt vs a p (kind.Drop e) _ (kind-Drop e)

pub moves-Assert : (vs : List ValueType) (a : ℕ) (p : Place) (e : Expr) → moves_of vs a (stmt p (kind.Assert e)) ≡ ex_moves (tree_of e)
moves-Assert vs a p e = moves-stmt vs a p (kind.Assert e) _ (kind-Assert e)

pub moves-Break : (vs : List ValueType) (a : ℕ) (p : Place) → moves_of vs a (stmt p kind.Break) ≡ one Paths.breaks none
moves-Break vs a p = moves-stmt vs a p kind.Break _ kind-Break

pub moves-Continue : (vs : List ValueType) (a : ℕ) (p : Place) → moves_of vs a (stmt p kind.Continue) ≡ one Paths.continues none
moves-Continue vs a p = moves-stmt vs a p kind.Continue _ kind-Continue

pub moves-Return : (vs : List ValueType) (a : ℕ) (p : Place) (e : Option Expr) → moves_of vs a (stmt p (kind.Return e)) ≡ joined (optional_moves (optional_tree e)) (one Paths.leaves none)
moves-Return vs a p e = moves-stmt vs a p (kind.Return e) _ (kind-Return e)

-- a loop, whose body is typed beside the scalars that it assigns
pub record InLoop (vs : List ValueType) (a : ℕ) (ss body : List Stmt) (whole : Moves → Moves) : Type 0 where
  pub inner : ℕ
  pub is : moves_of vs a ss ≡ whole (moves_of vs inner body)

pub moves-While : (vs : List ValueType) (a : ℕ) (p : Place) (c : Expr) (body : List Stmt)
    → InLoop vs a (stmt p (kind.While c body)) body (λ m. one (Paths.loops (ex_moves (tree_of c)) (not (is_always (tree_of c))) m) none)
moves-While vs a p c body = record {
  inner = assigned_scalars vs (stmt_layer (StmtKind-F.While c (map statement_of body)) p).assigns;
  is = moves-stmt vs a p (kind.While c body) _ (kind-While c body);
}

pub moves-Range : (vs : List ValueType) (a : ℕ) (p : Place) (x : ℕ) (start : Option Expr) (stop : Expr) (step : ℕ) (body : List Stmt)
    → InLoop vs a (stmt p (kind.Range x start stop step body)) body (λ m. joined (optional_moves (optional_tree start)) (joined (ex_moves (tree_of stop)) (over_items x m)))
moves-Range vs a p x start stop step body = record {
  inner = assigned_scalars vs (stmt_layer (StmtKind-F.Range x start stop step (map statement_of body)) p).assigns;
  is = moves-stmt vs a p (kind.Range x start stop step body) _ (kind-Range x start stop step body);
}

pub moves-Each : (vs : List ValueType) (a : ℕ) (p : Place) (x : ℕ) (e : Expr) (body : List Stmt)
    → InLoop vs a (stmt p (kind.Each x e body)) body (λ m. joined (ex_moves (tree_of e)) (over_items x m))
moves-Each vs a p x e body = record {
  inner = assigned_scalars vs (stmt_layer (StmtKind-F.Each x e (map statement_of body)) p).assigns;
  is = moves-stmt vs a p (kind.Each x e body) _ (kind-Each x e body);
}

-- the first part of a value makes the moves of the value
pub moves-part : (t : Typed) (u : Ty) → ex_moves (tree_of (first_part t u)) ≡ ex_moves (tree_of t.expr)
moves-part t u =
    ap ex_moves (tree-Expr (first_part t u))
    ∙ ap (λ (z : Bare). form_moves t.expr.place z.form)
    (ap bare_of (sym (value_kind.rolls-Item t.expr (index.Fixed 0))) ∙ fold-roll-ExprKind Bare Which Ex kind_layer index_layer expr_layer (ExprKind-F.Item t.expr (index.Fixed 0)))
    ∙ ap (λ z. form_moves t.expr.place (item (tree_of t.expr) z).form) (ap which_of (sym (index.rolls-Fixed 0)) ∙ fold-roll-Index Bare Which Ex kind_layer index_layer expr_layer (Index-F.Fixed 0))
    ∙ joined-none (ex_moves (tree_of t.expr))

-- ---- the literal True

abbrev is_true_in : ExprKind-F ExprKind Index Expr → Bool
is_true_in k = elim k as (λ _. Bool) [ ExprKind-F.Flag b ↦ b | _ ↦ false ]

-- no part is
item_true : (e : Ex) (which : Which) → is_true_form (item e which).form ≡ false
item_true e (fixed i) = refl
item_true e (indexed i) = refl

true_by : (k : ExprKind-F ExprKind Index Expr) → is_true_in k ≡ is_true_form (bare_of (roll-ExprKind k)).form
true_by (ExprKind-F.Int n) = ap (λ (z : Bare). is_true_form z.form) (sym (fold-roll-ExprKind Bare Which Ex kind_layer index_layer expr_layer (ExprKind-F.Int n)))
true_by (ExprKind-F.Flag b) = ap (λ (z : Bare). is_true_form z.form) (sym (fold-roll-ExprKind Bare Which Ex kind_layer index_layer expr_layer (ExprKind-F.Flag b)))
true_by (ExprKind-F.Data b) = ap (λ (z : Bare). is_true_form z.form) (sym (fold-roll-ExprKind Bare Which Ex kind_layer index_layer expr_layer (ExprKind-F.Data b)))
true_by (ExprKind-F.Local x) = ap (λ (z : Bare). is_true_form z.form) (sym (fold-roll-ExprKind Bare Which Ex kind_layer index_layer expr_layer (ExprKind-F.Local x)))
true_by (ExprKind-F.Prim q es) = ap (λ (z : Bare). is_true_form z.form) (sym (fold-roll-ExprKind Bare Which Ex kind_layer index_layer expr_layer (ExprKind-F.Prim q es)))
true_by (ExprKind-F.And a b) = ap (λ (z : Bare). is_true_form z.form) (sym (fold-roll-ExprKind Bare Which Ex kind_layer index_layer expr_layer (ExprKind-F.And a b)))
true_by (ExprKind-F.Or a b) = ap (λ (z : Bare). is_true_form z.form) (sym (fold-roll-ExprKind Bare Which Ex kind_layer index_layer expr_layer (ExprKind-F.Or a b)))
true_by (ExprKind-F.Choose c a b) = ap (λ (z : Bare). is_true_form z.form) (sym (fold-roll-ExprKind Bare Which Ex kind_layer index_layer expr_layer (ExprKind-F.Choose c a b)))
true_by (ExprKind-F.Tuple es) = ap (λ (z : Bare). is_true_form z.form) (sym (fold-roll-ExprKind Bare Which Ex kind_layer index_layer expr_layer (ExprKind-F.Tuple es)))
true_by (ExprKind-F.Item e which) = sym (item_true (tree_of e) (which_of which)) ∙ ap (λ (z : Bare). is_true_form z.form) (sym (fold-roll-ExprKind Bare Which Ex kind_layer index_layer expr_layer (ExprKind-F.Item e which)))
true_by (ExprKind-F.Call f es order) = ap (λ (z : Bare). is_true_form z.form) (sym (fold-roll-ExprKind Bare Which Ex kind_layer index_layer expr_layer (ExprKind-F.Call f es order)))

pub true-always : (e : Expr) → is_true_kind e.kind ≡ is_always (tree_of e)
true-always e = true_by (out-ExprKind e.kind) ∙ ap (λ z. is_true_form (bare_of z).form) (roll-out-ExprKind e.kind) ∙ ap is_always (sym (tree-Expr e))
