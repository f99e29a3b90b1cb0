-- The plain tree of a typed tree, with the amounts of the table at each node.
use Rattle.std.specs.Prelude.{ℕ, ◌+◌, ◌==◌, ◌||◌, Bool, true, false, if◌then◌else◌, map, List, [], ◌∷◌, length, Option, Some, None}
use Rattle.puya_base.specs.declared.source.Place.{Place}
use Rattle.awst.specs.declared.primitive.Primitive.{Primitive}
use Rattle.awst.specs.declared.expression.Expr.{Expr}
use Rattle.awst.specs.declared.expression.ExprKind.{ExprKind}
use Rattle.awst.specs.declared.expression.ExprKind.TheOpen.{ExprKind-F, Index-F, Expr-F}
use Rattle.awst.specs.declared.expression.ExprKind.TheFolds.{fold-Expr, fold-ExprKind, fold-Index}
use Rattle.awst.specs.declared.expression.Index.{Index}
use Rattle.awst.specs.declared.statement.Target.{Target}
use Rattle.awst.specs.declared.statement.Target.TheVariants as target
use Rattle.awst.specs.declared.statement.Stmt.{Stmt}
use Rattle.awst.specs.declared.statement.StmtKind.TheOpen.{StmtKind-F, Stmt-F, Arm-F, MatchArm-F}
use Rattle.awst.specs.declared.statement.StmtKind.{StmtKind}
use Rattle.awst.specs.declared.statement.Arm.{Arm}
use Rattle.awst.specs.declared.statement.MatchArm.{MatchArm}
use Rattle.awst.specs.declared.statement.StmtKind.TheFolds.{fold-Stmt, fold-StmtKind, fold-Arm, fold-MatchArm}
use Rattle.awst.specs.Types.{ValueType, bool, scalar_count, type_of}
use Rattle.awst.specs.Values.{number, flag, string}
use Rattle.awst.specs.Table.{Own, own_number, own_flag, own_data, own_local, own_tuple, own_item, own_element, own_prim, own_choice, own_call, own_assign, own_effect, own_assert, own_if, own_while, own_range, own_each, own_leave, own_return, own_fail, own_match}
use Rattle.awst.specs.Tree.{by, pack, part, element, Ex, ex, Form, constant, variable, strict, both, one_of, choose, call, Exs, no_exprs, an_expr, Destination, to_variable, St, st, Deed, assign, effect, assert, branch, loop, count, each, break, continue, give_back, reject, pick, Picks, no_picks, a_pick, Sts, no_stmts, a_stmt, node_of, exs_of}
use Rattle.awst.specs.Places.{scalars_of}

-- ---- expressions

-- an expression but for its place and its type: its form, and its amounts where its type has so many scalars
pub record Bare : Type 0 where
  pub form : Form
  pub own : ℕ → Own

pub data Which : Type 0 where
  fixed : ℕ → Which
  indexed : Ex → Which

abbrev pub total_of : List Ex → ℕ
total_of [] = 0
total_of (e ∷ es) = scalars_of e + total_of es

abbrev pub bare : Form → (ℕ → Own) → Bare
bare form own = record { form = form; own = own }

abbrev pub made : Place → ValueType → Own → Form → Ex
made place ty own form = ex (record { place = place; ty = ty; own = own }) form

abbrev pub item : Ex → Which → Bare
item e (fixed i) = bare (strict (part i) (an_expr e no_exprs)) own_item
item e (indexed i) = bare (strict element (an_expr e (an_expr i no_exprs))) (λ s. own_element)

-- one layer, with the plain tree of each part in its place
abbrev pub kind_layer : ExprKind-F Bare Which Ex → Bare
kind_layer (ExprKind-F.Int n) = bare (constant (number n)) (λ s. own_number n)
kind_layer (ExprKind-F.Flag b) = bare (constant (flag b)) (λ s. own_flag)
kind_layer (ExprKind-F.Data b) = bare (constant (string b)) (λ s. own_data (length b))
kind_layer (ExprKind-F.Local x) = bare (variable x) own_local
kind_layer (ExprKind-F.Prim q es) = bare (strict (by q) (exs_of es)) (λ s. own_prim q s (length es))
kind_layer (ExprKind-F.And a b) = bare (both a b) own_choice
kind_layer (ExprKind-F.Or a b) = bare (one_of a b) own_choice
kind_layer (ExprKind-F.Choose c a b) = bare (choose c a b) own_choice
kind_layer (ExprKind-F.Tuple es) = bare (strict pack (exs_of es)) own_tuple
kind_layer (ExprKind-F.Item e which) = item e which
kind_layer (ExprKind-F.Call f es order) = bare (call f (exs_of es) order) (λ s. own_call (total_of es + s))

abbrev pub index_layer : Index-F Bare Which Ex → Which
index_layer (Index-F.Fixed i) = fixed i
index_layer (Index-F.At e) = indexed e

-- with its place and its type
abbrev pub typed : Place → ValueType → Bare → Ex
typed place ty b = made place ty (b.own (scalar_count ty)) b.form

abbrev pub expr_layer : Expr-F Bare Which Ex → Ex
expr_layer e = typed e.place (type_of e.ty) e.kind

abbrev pub tree_of : Expr → Ex
tree_of = fold-Expr Bare Which Ex kind_layer index_layer expr_layer

abbrev pub bare_of : ExprKind → Bare
bare_of = fold-ExprKind Bare Which Ex kind_layer index_layer expr_layer

abbrev pub which_of : Index → Which
which_of = fold-Index Bare Which Ex kind_layer index_layer expr_layer

abbrev pub trees_of : List Expr → Exs
trees_of es = exs_of (map tree_of es)

-- ---- statements

-- the types of a function's variables, by number
abbrev pub Scope : Type 0
Scope = List ValueType

-- a statement that waits for the types of variables, and for the scalars that its innermost loop assigns
pub record Statement : Type 0 where
  -- the variables that it assigns, those of its loops included
  pub assigns : ℕ → Bool
  pub plain : Scope → ℕ → St

pub record PlainArm : Type 0 where
  pub condition : Ex
  pub body : List Statement

pub record PlainPick : Type 0 where
  pub literal : List ℕ
  pub body : List Statement

abbrev pub assigned_in : List Statement → ℕ → Bool
assigned_in [] x = false
assigned_in (s ∷ ss) x = s.assigns x || assigned_in ss x

abbrev pub assigned_in_arms : List PlainArm → List Statement → ℕ → Bool
assigned_in_arms [] rest x = assigned_in rest x
assigned_in_arms (arm ∷ arms) rest x = assigned_in arm.body x || assigned_in_arms arms rest x

abbrev pub assigned_in_picks : List PlainPick → List Statement → ℕ → Bool
assigned_in_picks [] rest x = assigned_in rest x
assigned_in_picks (p ∷ ps) rest x = assigned_in p.body x || assigned_in_picks ps rest x

-- the scalars of the variables from number x on that are assigned, each variable once
abbrev pub scalars_from : ℕ → (ℕ → Bool) → Scope → ℕ
scalars_from x assigns [] = 0
scalars_from x assigns (t ∷ ts) = (if assigns x then scalar_count t else 0) + scalars_from (x + 1) assigns ts

abbrev pub assigned_scalars : Scope → (ℕ → Bool) → ℕ
assigned_scalars scope assigns = scalars_from 0 assigns scope

abbrev pub all_plain : Scope → ℕ → List Statement → Sts
all_plain scope a [] = no_stmts
all_plain scope a (s ∷ ss) = a_stmt (s.plain scope a) (all_plain scope a ss)

abbrev pub headed : Place → Own → Deed → St
headed place own deed = st (record { place = place; own = own }) deed

-- the arms of an `if`: an `elif` is an `if` in what is done otherwise
abbrev pub otherwise : Place → Scope → ℕ → List PlainArm → List Statement → Sts
otherwise place scope a [] rest = all_plain scope a rest
otherwise place scope a (arm ∷ arms) rest =
    a_stmt (headed place (own_if (assigned_scalars scope (assigned_in_arms (arm ∷ arms) rest))) (branch arm.condition (all_plain scope a arm.body) (otherwise place scope a arms rest))) no_stmts

abbrev pub if_plain : Place → Scope → ℕ → List PlainArm → List Statement → St
if_plain place scope a [] rest = headed place (own_if 0) (branch (made place bool own_flag (constant (flag true))) (all_plain scope a rest) no_stmts)
if_plain place scope a (arm ∷ arms) rest =
    headed place (own_if (assigned_scalars scope (assigned_in_arms (arm ∷ arms) rest))) (branch arm.condition (all_plain scope a arm.body) (otherwise place scope a arms rest))

abbrev pub picks_plain : Scope → ℕ → List PlainPick → Picks
picks_plain scope a [] = no_picks
picks_plain scope a (p ∷ ps) = a_pick p.literal (all_plain scope a p.body) (picks_plain scope a ps)

abbrev pub literal_bytes : List PlainPick → ℕ
literal_bytes [] = 0
literal_bytes (p ∷ ps) = length p.literal + literal_bytes ps

abbrev pub destination : Target → Destination
destination (target.Local x) = to_variable x

abbrev pub is_destination : Destination → ℕ → Bool
is_destination (to_variable y) x = y == x

abbrev pub is_among : List Destination → ℕ → Bool
is_among [] x = false
is_among (d ∷ ds) x = is_destination d x || is_among ds x

-- an augmented assignment reads its variable, evaluates the right side, and operates
abbrev pub read_of : Place → ValueType → Destination → Ex
read_of place ty (to_variable x) = made place ty (own_local (scalar_count ty)) (variable x)

abbrev pub updated : Place → Primitive → Destination → Ex → Ex
updated place prim d e =
    let ty = (node_of e).ty in
    made place ty (own_prim prim (scalar_count ty) 2) (strict (by prim) (an_expr (read_of place ty d) (an_expr e no_exprs)))

abbrev pub assigned_value : Place → Option Primitive → List Destination → Ex → Ex
assigned_value place (Some prim) (d ∷ []) e = updated place prim d e
assigned_value place _ ds e = e

-- an augmented assignment has one destination: with another number of them it has none
abbrev pub assigned_to : Option Primitive → List Destination → List Destination
assigned_to None ds = ds
assigned_to (Some prim) (d ∷ []) = d ∷ []
assigned_to (Some prim) _ = []

abbrev pub assign_plain : Place → List Destination → Option Primitive → Ex → St
assign_plain place ds prim e = headed place (own_assign (scalars_of e)) (assign (assigned_to prim ds) (assigned_value place prim ds e))

abbrev pub optional_scalars : Option Ex → ℕ
optional_scalars None = 0
optional_scalars (Some e) = scalars_of e

abbrev pub optional_tree : Option Expr → Option Ex
optional_tree None = None
optional_tree (Some e) = Some (tree_of e)

-- a statement without a body
abbrev pub simple : (ℕ → Bool) → (ℕ → St) → Statement
simple assigns plain = record { assigns = assigns; plain = λ scope a. plain a }

abbrev pub none_of_them : ℕ → Bool
none_of_them x = false

-- a loop that assigns a variable of its own, or none
abbrev pub looping : (ℕ → Bool) → (ℕ → Own) → Place → (Sts → Deed) → List Statement → Statement
looping own_variable own place deed body =
    let assigns = λ (x : ℕ). own_variable x || assigned_in body x in
    record { assigns = assigns; plain = λ scope a. let inner = assigned_scalars scope assigns in headed place (own inner) (deed (all_plain scope inner body)) }

abbrev pub stmt_layer : StmtKind-F (Place → Statement) PlainArm PlainPick Statement → Place → Statement
stmt_layer (StmtKind-F.Assign ts prim e) p = let ds = map destination ts in simple (is_among ds) (λ a. assign_plain p ds prim (tree_of e))
stmt_layer (StmtKind-F.Drop e) p = simple none_of_them (λ a. headed p (own_effect (scalars_of (tree_of e))) (effect (tree_of e)))
stmt_layer (StmtKind-F.Assert e) p = simple none_of_them (λ a. headed p own_assert (assert (tree_of e)))
stmt_layer (StmtKind-F.If arms rest) p = record { assigns = assigned_in_arms arms rest; plain = λ scope a. if_plain p scope a arms rest }
stmt_layer (StmtKind-F.While c body) p = looping none_of_them own_while p (loop (tree_of c)) body
stmt_layer (StmtKind-F.Range x start stop step body) p = looping (λ y. x == y) own_range p (count x (optional_tree start) (tree_of stop) step) body
stmt_layer (StmtKind-F.Each x e body) p = looping (λ y. x == y) own_each p (each x (tree_of e)) body
stmt_layer StmtKind-F.Break p = simple none_of_them (λ a. headed p (own_leave a) break)
stmt_layer StmtKind-F.Continue p = simple none_of_them (λ a. headed p (own_leave a) continue)
stmt_layer (StmtKind-F.Return e) p = simple none_of_them (λ a. headed p (own_return (optional_scalars (optional_tree e))) (give_back (optional_tree e)))
stmt_layer StmtKind-F.Fail p = simple none_of_them (λ a. headed p own_fail reject)
stmt_layer (StmtKind-F.Match e picks rest) p =
    record { assigns = assigned_in_picks picks rest; plain = λ scope a. headed p (own_match (length picks) (literal_bytes picks) (assigned_scalars scope (assigned_in_picks picks rest))) (pick (tree_of e) (picks_plain scope a picks) (all_plain scope a rest)) }

abbrev pub placed_layer : Stmt-F (Place → Statement) PlainArm PlainPick Statement → Statement
placed_layer s = s.kind s.place

abbrev pub arm_layer : Arm-F (Place → Statement) PlainArm PlainPick Statement → PlainArm
arm_layer a = record { condition = tree_of a.condition; body = a.body }

abbrev pub pick_layer : MatchArm-F (Place → Statement) PlainArm PlainPick Statement → PlainPick
pick_layer a = record { literal = a.literal; body = a.body }

abbrev pub statement_of : Stmt → Statement
statement_of = fold-Stmt (Place → Statement) PlainArm PlainPick Statement stmt_layer arm_layer pick_layer placed_layer

abbrev pub kind_of : StmtKind → Place → Statement
kind_of = fold-StmtKind (Place → Statement) PlainArm PlainPick Statement stmt_layer arm_layer pick_layer placed_layer

abbrev pub arm_of : Arm → PlainArm
arm_of = fold-Arm (Place → Statement) PlainArm PlainPick Statement stmt_layer arm_layer pick_layer placed_layer

abbrev pub pick_of : MatchArm → PlainPick
pick_of = fold-MatchArm (Place → Statement) PlainArm PlainPick Statement stmt_layer arm_layer pick_layer placed_layer
