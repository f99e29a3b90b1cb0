-- Typed statements, one by one, are sound where their parts are.
use Rattle.std.proofs.Common.{◌≡◌, ℕ, List, [], ◌∷◌, ◌++◌, map, ◌≤◌, Option, Some, None, refl, sym, ap, ◌∙◌, subst}
use Rattle.std.specs.Prelude.{IsTrue, slice_get}
use Rattle.puya_base.specs.declared.source.Place.{Place}
use Rattle.awst.specs.declared.primitive.Primitive.{Primitive}
use Rattle.awst.specs.declared.expression.Expr.{Expr}
use Rattle.awst.specs.declared.statement.Target.{Target}
use Rattle.awst.specs.declared.statement.Target.TheVariants as target
use Rattle.awst.specs.declared.statement.Stmt.{Stmt}
use Rattle.awst.specs.declared.statement.Arm.{Arm, roll-Arm}
use Rattle.awst.specs.declared.statement.StmtKind.{StmtKind}
use Rattle.awst.specs.declared.statement.StmtKind.TheVariants as kind
use Rattle.awst.specs.declared.statement.StmtKind.TheFolds.{fold_out-Stmt, fold-roll-Arm}
use Rattle.awst.specs.Types.{uint64, bool, bytes}
use Rattle.awst.specs.Shapes.{Fits, shape_of}
use Rattle.awst.specs.Plain.{Statement, PlainArm, PlainPick, stmt_layer, arm_layer, pick_layer, placed_layer, statement_of, kind_of, arm_of, all_plain, otherwise, if_plain, destination, tree_of, optional_tree}
use Rattle.awst.specs.Sound.{Names, Within, in_a_loop, IsSound, IsOf, IsOptionalOf, Returns, TakeAll, IsSoundStatement, AreSoundStatements, ty_of}
use Rattle.awst.proofs.Equations.{kind-Assign, kind-Drop, kind-Assert, kind-If, kind-While, kind-Range, kind-Each, kind-Break, kind-Continue, kind-Return}
use Rattle.statement_check.specs.Statements.{stmt}

-- sound, whatever the scalars that its innermost loop assigns
abbrev pub AreSoundTyped : Names → Within → List Stmt → Type 0
AreSoundTyped names within ss = (a : ℕ) → AreSoundStatements names within (all_plain names.variables a (map statement_of ss))

-- where they are known
abbrev pub SoundWhen : Names → Within → Option (List Stmt) → Type 0
SoundWhen names within None = Unit {0}
SoundWhen names within (Some ss) = AreSoundTyped names within ss

pub none_sound : (names : Names) (within : Within) → AreSoundTyped names within []
none_sound names within a = tt

pub both_sound : (names : Names) (within : Within) (ss ts : List Stmt) → AreSoundTyped names within ss → AreSoundTyped names within ts → AreSoundTyped names within (ss ++ ts)
both_sound names within [] ts h k a = k a
both_sound names within (s ∷ ss) ts h k a = ((h a).0, both_sound names within ss ts (λ b. (h b).1) k a)

placed : (p : Place) (k : StmtKind) → statement_of (record { place = p; kind = k }) ≡ kind_of k p
placed p k = fold_out-Stmt (Place → Statement) PlainArm PlainPick Statement stmt_layer arm_layer pick_layer placed_layer (record { place = p; kind = k })

one_sound : (names : Names) (within : Within) (p : Place) (k : StmtKind) (m : Place → Statement) → kind_of k ≡ m → ((a : ℕ) → IsSoundStatement names within ((m p).plain names.variables a)) → AreSoundTyped names within (stmt p k)
one_sound names within p k m e h a =
    (subst (λ (z : Statement). IsSoundStatement names within (z.plain names.variables a)) (sym (placed p k ∙ ap (λ (f : Place → Statement). f p) e)) (h a), tt)

-- ---- statements of one line

pub assign_sound : (names : Names) (within : Within) (p : Place) (ts : List Target) (e : Expr) → IsSound names (tree_of e) → TakeAll names (map destination ts) (ty_of (tree_of e)) → AreSoundTyped names within (stmt p (kind.Assign ts None e))
assign_sound names within p ts e h k = one_sound names within p (kind.Assign ts None e) _ (kind-Assign ts None e) (λ a. (h, k))

pub drop_sound : (names : Names) (within : Within) (p : Place) (e : Expr) → IsSound names (tree_of e) → AreSoundTyped names within (stmt p (kind.Drop e))
drop_sound names within p e h = one_sound names within p (kind.Drop e) _ (kind-Drop e) (λ a. h)

pub assert_sound : (names : Names) (within : Within) (p : Place) (e : Expr) → IsOf names bool (tree_of e) → AreSoundTyped names within (stmt p (kind.Assert e))
assert_sound names within p e h = one_sound names within p (kind.Assert e) _ (kind-Assert e) (λ a. h)

pub break_sound : (names : Names) (within : Within) (p : Place) → IsTrue within.in_loop → AreSoundTyped names within (stmt p kind.Break)
break_sound names within p h = one_sound names within p kind.Break _ kind-Break (λ a. h)

pub continue_sound : (names : Names) (within : Within) (p : Place) → IsTrue within.in_loop → AreSoundTyped names within (stmt p kind.Continue)
continue_sound names within p h = one_sound names within p kind.Continue _ kind-Continue (λ a. h)

pub return_sound : (names : Names) (within : Within) (p : Place) (e : Option Expr) → Returns names within.result (optional_tree e) → AreSoundTyped names within (stmt p (kind.Return e))
return_sound names within p e h = one_sound names within p (kind.Return e) _ (kind-Return e) (λ a. h)

pub update_sound : (names : Names) (within : Within) (p : Place) (x : ℕ) (q : Primitive) (e : Expr) → IsSound names (tree_of e) → slice_get names.variables x ≡ Some (ty_of (tree_of e))
    → Fits (shape_of q) (ty_of (tree_of e) ∷ ty_of (tree_of e) ∷ []) (ty_of (tree_of e)) → AreSoundTyped names within (stmt p (kind.Assign (target.Local x ∷ []) (Some q) e))
update_sound names within p x q e h k f = one_sound names within p (kind.Assign (target.Local x ∷ []) (Some q) e) _ (kind-Assign (target.Local x ∷ []) (Some q) e) (λ a. (((k, (h, tt)), f), k))

-- ---- compound statements

pub while_sound : (names : Names) (within : Within) (p : Place) (c : Expr) (body : List Stmt) → IsOf names bool (tree_of c) → AreSoundTyped names (in_a_loop within) body → AreSoundTyped names within (stmt p (kind.While c body))
while_sound names within p c body h k = one_sound names within p (kind.While c body) _ (kind-While c body) (λ a. (h, k _))

pub range_sound : (names : Names) (within : Within) (p : Place) (x : ℕ) (start : Option Expr) (stop : Expr) (step : ℕ) (body : List Stmt) → slice_get names.variables x ≡ Some uint64 → IsOptionalOf names uint64 (optional_tree start)
    → IsOf names uint64 (tree_of stop) → 1 ≤ step → AreSoundTyped names (in_a_loop within) body → AreSoundTyped names within (stmt p (kind.Range x start stop step body))
range_sound names within p x start stop step body h k m n b = one_sound names within p (kind.Range x start stop step body) _ (kind-Range x start stop step body) (λ a. (h, k, m, n, b _))

pub each_sound : (names : Names) (within : Within) (p : Place) (x : ℕ) (e : Expr) (body : List Stmt) → slice_get names.variables x ≡ Some bytes → IsOf names bytes (tree_of e) → AreSoundTyped names (in_a_loop within) body
    → AreSoundTyped names within (stmt p (kind.Each x e body))
each_sound names within p x e body h k b = one_sound names within p (kind.Each x e body) _ (kind-Each x e body) (λ a. (h, k, b _))

-- ---- an `if`

abbrev pub SoundArms : Names → Within → List Arm → List Stmt → Type 0
SoundArms names within as_ rest = (p : Place) (a : ℕ) → AreSoundStatements names within (otherwise p names.variables a (map arm_of as_) (map statement_of rest))

pub no_arms_sound : (names : Names) (within : Within) (rest : List Stmt) → AreSoundTyped names within rest → SoundArms names within [] rest
no_arms_sound names within rest h p a = h a

plain_arm : (c : Expr) (b : List Stmt) → arm_of (roll-Arm (record { condition = c; body = b })) ≡ record { condition = tree_of c; body = map statement_of b }
plain_arm c b = fold-roll-Arm (Place → Statement) PlainArm PlainPick Statement stmt_layer arm_layer pick_layer placed_layer (record { condition = c; body = b })

pub arm_sound : (names : Names) (within : Within) (c : Expr) (b : List Stmt) (as_ : List Arm) (rest : List Stmt) → IsOf names bool (tree_of c) → AreSoundTyped names within b → SoundArms names within as_ rest
    → SoundArms names within (roll-Arm (record { condition = c; body = b }) ∷ as_) rest
arm_sound names within c b as_ rest h k m p a =
    subst (λ (z : PlainArm). AreSoundStatements names within (otherwise p names.variables a (z ∷ map arm_of as_) (map statement_of rest))) (sym (plain_arm c b)) ((h, k a, m p a), tt)

if_by : (names : Names) (within : Within) (p : Place) (a : ℕ) (as_ : List PlainArm) (rest : List Statement) → AreSoundStatements names within (otherwise p names.variables a as_ rest)
    → IsSoundStatement names within (if_plain p names.variables a as_ rest)
if_by names within p a [] rest h = ((refl, refl), h, tt)
if_by names within p a (b ∷ as_) rest h = h.0

pub if_sound : (names : Names) (within : Within) (p : Place) (as_ : List Arm) (rest : List Stmt) → SoundArms names within as_ rest → AreSoundTyped names within (stmt p (kind.If as_ rest))
if_sound names within p as_ rest h = one_sound names within p (kind.If as_ rest) _ (kind-If as_ rest) (λ a. if_by names within p a (map arm_of as_) (map statement_of rest) (h p a))
