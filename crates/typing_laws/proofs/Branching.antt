-- The walks of an `if` are walks of the note on it.
use Rattle.std.proofs.Common.{◌≡◌, ℕ, List, [], ◌∷◌, map, Option, Some, None, refl, sym, ◌∙◌, ap, subst}
use Rattle.std.proofs.lemmas.Option.{none-some, same_Some}
use Rattle.puya_base.specs.declared.source.Place.{Place}
use Rattle.awst.specs.declared.expression.Expr.{Expr}
use Rattle.awst.specs.declared.statement.Stmt.{Stmt}
use Rattle.awst.specs.declared.statement.StmtKind.TheVariants as kind
use Rattle.awst.specs.declared.statement.Arm.{Arm, roll-Arm}
use Rattle.awst.specs.declared.statement.StmtKind.TheFolds.{fold-roll-Arm}
use Rattle.awst.specs.Types.{ValueType}
use Rattle.awst.specs.Plain.{Statement, PlainArm, PlainPick, stmt_layer, arm_layer, pick_layer, placed_layer, tree_of, arm_of, statement_of, all_plain, otherwise, if_plain}
use Rattle.awst.specs.Paths.{Moves, joined, forked, is_always, ex_moves, st_moves, sts_moves}
use Rattle.awst.proofs.Equations.{kind-If}
use Rattle.path_rules.specs.declared.note.Note.{Note}
use Rattle.path_rules.specs.declared.note.NoteArm.{NoteArm}
use Rattle.path_rules.specs.declared.note.Note.TheVariants as note
use Rattle.path_rules.specs.Steps as steps
use Rattle.path_rules.specs.Steps.{Steps, before, in_turn, steps_of, arms_of}
use Rattle.path_rules.proofs.Equations.{step-If, arm-is}
use Rattle.meaning_rules.specs.declared.meaning.Typed.{Typed}
use Rattle.meaning_rules.specs.Meanings.{Valued}
use Rattle.statement_check.specs.Statements.{Done, stmt, is_true, Armed, arm_typed, with_arm, rest_of, if_typed, an_if}
use Rattle.typing_laws.proofs.Good.{Follows}
use Rattle.typing_laws.proofs.Readings.{Told, told_follow}
use Rattle.typing_laws.proofs.Moving.{joined-none}
use Rattle.typing_laws.proofs.Looping.{IfFollows, rest_follow, arm_follow, choice_follow, before-before}
use Rattle.typing_laws.proofs.Deeds.{moves_of, moves-stmt, true-always}
use Rattle.typing_laws.proofs.Assigning.{AllFollow, DoneFollows, untyped_follow}

abbrev arms_steps : Armed → Steps
arms_steps r = before (in_turn (arms_of r.arms)) (steps_of r.rest)

abbrev arms_moves : Place → List ValueType → ℕ → List Arm → List Stmt → Moves
arms_moves p vs a as_ ss = sts_moves (otherwise p vs a (map arm_of as_) (map statement_of ss))

-- the arms that are typed, and the rest, follow the notes on them
abbrev pub ArmsFollow : List ValueType → Armed → Type 0
ArmsFollow vs r = (p : Place) (as_ : List Arm) (ss : List Stmt) → r.typed_arms ≡ Some as_ → r.typed_rest ≡ Some ss → (a : ℕ) → IfFollows (arms_steps r) (arms_moves p vs a as_ ss)

pub rest_arms : (vs : List ValueType) (d : Done) → DoneFollows vs d → ArmsFollow vs (rest_of d)
rest_arms vs d f p as_ ss e k a =
    subst (λ z. IfFollows (steps_of d.notes) (arms_moves p vs a z ss)) (same_Some [] as_ e)
    (rest_follow (steps_of d.notes) (moves_of vs a ss) (f ss k a))

-- an arm is its condition with its body
arm-roll : (c : Expr) (body : List Stmt) → arm_of (roll-Arm (record { condition = c; body = body })) ≡ record { condition = tree_of c; body = map statement_of body }
arm-roll c body = fold-roll-Arm (Place → Statement) PlainArm PlainPick Statement stmt_layer arm_layer pick_layer placed_layer (record { condition = c; body = body })

abbrev arm_plain : Place → List ValueType → ℕ → List PlainArm → List Statement → PlainArm → Moves
arm_plain p vs a arms rest x = joined (ex_moves x.condition) (forked (is_always x.condition) (sts_moves (all_plain vs a x.body)) (sts_moves (otherwise p vs a arms rest)))

arms-moves : (p : Place) (vs : List ValueType) (a : ℕ) (c : Expr) (body : List Stmt) (as_ : List Arm) (ss : List Stmt)
    → arms_moves p vs a (roll-Arm (record { condition = c; body = body }) ∷ as_) ss ≡ joined (ex_moves (tree_of c)) (forked (is_always (tree_of c)) (moves_of vs a body) (arms_moves p vs a as_ ss))
arms-moves p vs a c body as_ ss =
    joined-none (arm_plain p vs a (map arm_of as_) (map statement_of ss) (arm_of (roll-Arm (record { condition = c; body = body }))))
    ∙ ap (arm_plain p vs a (map arm_of as_) (map statement_of ss)) (arm-roll c body)

one_arm : (vs : List ValueType) (c : List Note) (t : Typed) (d : List Note) (body : List Stmt) (rest : Steps) (more : List NoteArm) (p : Place) (as_ : List Arm) (ss : List Stmt) (a : ℕ)
    → Told c (ex_moves (tree_of t.expr)) → Follows (steps_of d) (moves_of vs a body) → IfFollows (before (in_turn (arms_of more)) rest) (arms_moves p vs a as_ ss)
    → IfFollows (before (in_turn (arms_of ((record { test = c; always = is_true (Some t); body = d }) ∷ more))) rest) (arms_moves p vs a (roll-Arm (record { condition = t.expr; body = body }) ∷ as_) ss)
one_arm vs c t d body rest more p as_ ss a h f g =
    let arm : NoteArm = record { test = c; always = is_true (Some t); body = d } in
    let m = arms_moves p vs a as_ ss in
    let tree = tree_of t.expr in
    let plain = arm_follow (steps_of c) (is_always tree) (steps_of d) (before (in_turn (arms_of more)) rest) (ex_moves tree) (moves_of vs a body) m (told_follow c (ex_moves tree) h) f g in
    let noted = subst (λ z. IfFollows (before (steps.an_arm (steps_of c) z (steps_of d)) (before (in_turn (arms_of more)) rest)) (joined (ex_moves tree) (forked (is_always tree) (moves_of vs a body) m))) (sym (true-always t.expr)) plain in
    let in_order = subst (λ z. IfFollows (before z (before (in_turn (arms_of more)) rest)) (joined (ex_moves tree) (forked (is_always tree) (moves_of vs a body) m))) (sym (arm-is arm)) noted in
    let whole = subst (λ z. IfFollows z (joined (ex_moves tree) (forked (is_always tree) (moves_of vs a body) m))) (sym (before-before (steps.arm_of arm) (in_turn (arms_of more)) rest)) in_order in
    subst (IfFollows (before (before (steps.arm_of arm) (in_turn (arms_of more))) rest)) (sym (arms-moves p vs a t.expr body as_ ss)) whole

arm_by : (vs : List ValueType) (c : List Note) (o : Option Typed) (d : List Note) (b : Option (List Stmt)) (rest : List Note) (more : List NoteArm) (u : Option (List Arm)) (p : Place) (as_ : List Arm) (ss : List Stmt) (a : ℕ)
    → ((t : Typed) → o ≡ Some t → Told c (ex_moves (tree_of t.expr))) → ((body : List Stmt) → b ≡ Some body → Follows (steps_of d) (moves_of vs a body)) → ((bs : List Arm) → u ≡ Some bs → IfFollows (before (in_turn (arms_of more)) (steps_of rest)) (arms_moves p vs a bs ss))
    → arm_typed o b u ≡ Some as_
    → IfFollows (before (in_turn (arms_of ((record { test = c; always = is_true o; body = d }) ∷ more))) (steps_of rest)) (arms_moves p vs a as_ ss)
arm_by vs c None d b rest more u p as_ ss a h f g e = absurd (none-some as_ e)
arm_by vs c (Some t) d None rest more u p as_ ss a h f g e = absurd (none-some as_ e)
arm_by vs c (Some t) d (Some body) rest more None p as_ ss a h f g e = absurd (none-some as_ e)
arm_by vs c (Some t) d (Some body) rest more (Some bs) p as_ ss a h f g e =
    subst (λ z. IfFollows (before (in_turn (arms_of ((record { test = c; always = is_true (Some t); body = d }) ∷ more))) (steps_of rest)) (arms_moves p vs a z ss))
    (same_Some (roll-Arm (record { condition = t.expr; body = body }) ∷ bs) as_ e)
    (one_arm vs c t d body (steps_of rest) more p bs ss a (h t refl) (f body refl) (g bs refl))

pub arm_arms : (vs : List ValueType) (c : Valued) (d : Done) (r : Armed) → ((t : Typed) → c.typed ≡ Some t → Told c.notes (ex_moves (tree_of t.expr))) → DoneFollows vs d → ArmsFollow vs r → ArmsFollow vs (with_arm c d r)
arm_arms vs c d r h f g p as_ ss e k a =
    arm_by vs c.notes c.typed d.notes d.typed r.rest r.arms r.typed_arms p as_ ss a h (λ body i. f body i a) (λ bs i. g p bs ss i k a) e

-- the arms of a statement
if-otherwise : (p : Place) (vs : List ValueType) (a : ℕ) (arms : List PlainArm) (rest : List Statement) → st_moves (if_plain p vs a arms rest) ≡ sts_moves (otherwise p vs a arms rest)
if-otherwise p vs a [] rest = refl
if-otherwise p vs a (arm ∷ arms) rest = sym (joined-none (arm_plain p vs a arms rest arm))

moves-If : (vs : List ValueType) (a : ℕ) (p : Place) (as_ : List Arm) (ss : List Stmt) → moves_of vs a (stmt p (kind.If as_ ss)) ≡ arms_moves p vs a as_ ss
moves-If vs a p as_ ss = moves-stmt vs a p (kind.If as_ ss) _ (kind-If as_ ss) ∙ if-otherwise p vs a (map arm_of as_) (map statement_of ss)

if_by : (vs : List ValueType) (p : Place) (ns : List Note) (u : Option (List Arm)) (b : Option (List Stmt)) → ((as_ : List Arm) (ss : List Stmt) → u ≡ Some as_ → b ≡ Some ss → (a : ℕ) → Follows (steps_of ns) (arms_moves p vs a as_ ss))
    → AllFollow vs ns (if_typed p u b)
if_by vs p ns None b h = untyped_follow vs ns
if_by vs p ns (Some as_) None h = untyped_follow vs ns
if_by vs p ns (Some as_) (Some ss) h = λ ts e a.
    subst (λ z. Follows (steps_of ns) (moves_of vs a z)) (same_Some (stmt p (kind.If as_ ss)) ts e)
    (subst (λ z. Follows (steps_of ns) z) (sym (moves-If vs a p as_ ss)) (h as_ ss refl refl a))

pub if_follow : (vs : List ValueType) (p : Place) (r : Armed) → ArmsFollow vs r → DoneFollows vs (an_if p r)
if_follow vs p r f =
    if_by vs p (note.If r.arms r.rest ∷ []) r.typed_arms r.typed_rest
    (λ as_ ss e k a. subst (λ z. Follows (steps.one z) (arms_moves p vs a as_ ss)) (sym (step-If r.arms r.rest)) (choice_follow (arms_steps r) (arms_moves p vs a as_ ss) (f p as_ ss e k a)))
