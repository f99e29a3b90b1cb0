-- The walks of loops are walks of the notes on them.
use Rattle.std.proofs.Common.{◌≡◌, ℕ, Bool, true, List, [], ◌∷◌, ◌++◌, Option, Some, None, refl, sym, ◌∙◌, ap, subst}
use Rattle.std.specs.Prelude.{not}
use Rattle.std.proofs.lemmas.Option.{none-some, same_Some}
use Rattle.puya_base.specs.declared.source.Place.{Place}
use Rattle.awst.specs.declared.expression.Expr.{Expr}
use Rattle.awst.specs.declared.statement.Stmt.{Stmt}
use Rattle.awst.specs.declared.statement.StmtKind.{StmtKind}
use Rattle.awst.specs.declared.statement.StmtKind.TheVariants as kind
use Rattle.awst.specs.Types.{ValueType}
use Rattle.awst.specs.Paths as Paths
use Rattle.awst.specs.Paths.{Moves, none, one, joined, is_always, ex_moves, optional_moves, over_items}
use Rattle.awst.specs.Plain.{tree_of, optional_tree}
use Rattle.awst.specs.Sound.{Names}
use Rattle.algopy_library.specs.declared.scalar.Scalar.{Scalar}
use Rattle.algopy_library.specs.declared.scalar.Scalar.TheVariants as scalar
use Rattle.path_rules.specs.declared.note.Note.{Note}
use Rattle.path_rules.specs.declared.note.Note.TheVariants as note
use Rattle.path_rules.specs.Steps as steps
use Rattle.path_rules.specs.Steps.{step_of, steps_of, a_loop}
use Rattle.path_rules.proofs.Equations.{step-Loop, step-Assign, step-Forget}
use Rattle.source_names.specs.Source.{Ex, place_of}
use Rattle.source_names.specs.Types.{scalar_of}
use Rattle.meaning_rules.specs.declared.meaning.Typed.{Typed}
use Rattle.meaning_rules.specs.declared.meaning.Range.{Range}
use Rattle.meaning_rules.specs.declared.meaning.Meaning.{Meaning}
use Rattle.meaning_rules.specs.declared.meaning.Meaning.TheVariants as meaning
use Rattle.meaning_rules.specs.declared.operand.Operand.{Operand}
use Rattle.meaning_rules.specs.declared.operand.Operand.TheVariants.{Value as a_value, Literal as a_literal, Missing as missing}
use Rattle.meaning_rules.specs.declared.scope.Scope.{Scope}
use Rattle.meaning_rules.specs.declared.scope.Local.{Local}
use Rattle.meaning_rules.specs.Meanings.{Judged, Valued, freely, operand_of}
use Rattle.expression_check.specs.Expressions.{judge}
use Rattle.expression_check.specs.Variables.{status_at, fixed}
use Rattle.statement_check.specs.Statements.{Done, stmt, is_true, while_typed, a_while, Over, over, over_value, over_operand, over_scalar, turn_differs, for_typed, a_for}
use Rattle.typing_laws.proofs.Good.{Always, GoodScope, GoodRange, GoodJudged, GoodOperated, Follows}
use Rattle.typing_laws.proofs.Meanings.{operand_good}
use Rattle.typing_laws.proofs.Expressions.{judge_good}
use Rattle.typing_laws.proofs.Readings.{MovesRead, Told, told_follow, told_reads, ex_reads, joined_reads}
use Rattle.typing_laws.proofs.Moving.{joined-joined}
use Rattle.typing_laws.proofs.Agreeing.{notes_follow}
use Rattle.typing_laws.proofs.Looping.{loop_follow, items_follow}
use Rattle.typing_laws.proofs.Deeds.{moves_of, InLoop, moves-While, moves-Range, moves-Each, true-always}
use Rattle.typing_laws.proofs.Telling.{world, told_front}
use Rattle.typing_laws.proofs.Assigning.{AllFollow, DoneFollows, untyped_follow, typed_follow}

-- ---- `while`

while_one : (vs : List ValueType) (p : Place) (c : List Note) (t : Typed) (d : List Note) (body : List Stmt) → Told c (ex_moves (tree_of t.expr)) → ((a : ℕ) → Follows (steps_of d) (moves_of vs a body))
    → (a : ℕ) → Follows (steps_of (note.Loop c (not (is_true (Some t))) d ∷ [])) (moves_of vs a (stmt p (kind.While t.expr body)))
while_one vs p c t d body h f a =
    let tree = tree_of t.expr in
    let r = moves-While vs a p t.expr body in
    let m = one (Paths.loops (ex_moves tree) (not (is_always tree)) (moves_of vs r.inner body)) none in
    let plain = loop_follow (steps_of c) (steps_of d) (ex_moves tree) (moves_of vs r.inner body) (not (is_always tree)) (told_follow c (ex_moves tree) h) (f r.inner) (told_reads c (ex_moves tree) h) in
    let noted = subst (λ z. Follows (steps.one (a_loop (steps_of c) (not z) (steps_of d))) m) (sym (true-always t.expr)) plain in
    let whole = subst (λ z. Follows (steps.one z) m) (sym (step-Loop c (not (is_true (Some t))) d)) noted in
    subst (λ z. Follows (steps_of (note.Loop c (not (is_true (Some t))) d ∷ [])) z) (sym r.is) whole

while_by : (vs : List ValueType) (p : Place) (c : List Note) (o : Option Typed) (d : List Note) (b : Option (List Stmt)) → ((t : Typed) → o ≡ Some t → Told c (ex_moves (tree_of t.expr))) → AllFollow vs d b
    → AllFollow vs (note.Loop c (not (is_true o)) d ∷ []) (while_typed p o b)
while_by vs p c None d b h f = untyped_follow vs (note.Loop c (not (is_true None)) d ∷ [])
while_by vs p c (Some t) d None h f = untyped_follow vs (note.Loop c (not (is_true (Some t))) d ∷ [])
while_by vs p c (Some t) d (Some body) h f =
    typed_follow vs (note.Loop c (not (is_true (Some t))) d ∷ []) (stmt p (kind.While t.expr body)) (while_one vs p c t d body (h t refl) (f body refl))

pub while_follow : (vs : List ValueType) (p : Place) (c : Valued) (d : Done) → ((t : Typed) → c.typed ≡ Some t → Told c.notes (ex_moves (tree_of t.expr))) → DoneFollows vs d → DoneFollows vs (a_while p c d)
while_follow vs p c d h f = while_by vs p c.notes c.typed d.notes d.typed h f

-- ---- what a `for` goes over

-- the moves before the turns
pub record GoneOver (ns : List Note) (k : ℕ → List Stmt → StmtKind) : Type 0 where
  pub moves : Moves
  pub told : Told ns moves
  pub is : (vs : List ValueType) (a : ℕ) (p : Place) (i : ℕ) (body : List Stmt) → InLoop vs a (stmt p (k i body)) body (λ m. joined moves (over_items i m))

abbrev pub OverTold : Over → Type 0
OverTold o = (k : ℕ → List Stmt → StmtKind) → o.over ≡ Some k → GoneOver o.notes k

no_over : (ns : List Note) (k : ℕ → List Stmt → StmtKind) → None ≡ Some k → GoneOver ns k
no_over ns k e = absurd (none-some k e)

optional_reads : (reads : ℕ → Bool) (o : Option Expr) (n : Names) (r : Range) → r.start ≡ o → GoodRange (world n reads) r → MovesRead reads (optional_moves (optional_tree o))
optional_reads reads None n r e g = tt
optional_reads reads (Some x) n r e g = ex_reads reads (tree_of x) (g.start_reads (tree_of x) (ap optional_tree e))

range_over : (names : Names) (ns : List Note) (r : Range) → ((reads : ℕ → Bool) → GoodJudged (world names reads) Always (record { notes = ns; meaning = meaning.Range r }))
    → GoneOver ns (λ i b. kind.Range i r.start r.stop r.step b)
range_over names ns r g = record {
  moves = joined (optional_moves (optional_tree r.start)) (ex_moves (tree_of r.stop));
  told = record {
    reading = (g (λ y. true)).reading;
    moves = λ reads h.
        let k = (g reads).holds tt h in
        joined_reads reads (optional_moves (optional_tree r.start)) (ex_moves (tree_of r.stop)) (optional_reads reads r.start names r refl k) (ex_reads reads (tree_of r.stop) k.stop_reads);
  };
  is = λ vs a p i body.
      let m = moves-Range vs a p i r.start r.stop r.step body in
      record { inner = m.inner; is = m.is ∙ sym (joined-joined (optional_moves (optional_tree r.start)) (ex_moves (tree_of r.stop)) (over_items i (moves_of vs m.inner body))) };
}

scalar_over : (ns : List Note) (t : Typed) (o : Option Scalar) → Told ns (ex_moves (tree_of t.expr)) → (k : ℕ → List Stmt → StmtKind) → (over_scalar t o).over ≡ Some k → GoneOver (ns ++ (over_scalar t o).notes) k
scalar_over ns t None h k e = no_over _ k e
scalar_over ns t (Some scalar.UInt64) h k e = no_over _ k e
scalar_over ns t (Some scalar.Bool) h k e = no_over _ k e
scalar_over ns t (Some scalar.Text) h k e = no_over _ k e
scalar_over ns t (Some scalar.Account) h k e = no_over _ k e
scalar_over ns t (Some scalar.Bytes) h k e =
    subst (GoneOver (ns ++ [])) (same_Some (λ i b. kind.Each i t.expr b) k e) (record {
      moves = ex_moves (tree_of t.expr);
      told = told_front ns [] (ex_moves (tree_of t.expr)) h tt;
      is = λ vs a p i body. moves-Each vs a p i t.expr body;
    })

operand_over : (names : Names) (ns : List Note) (o : Operand) → ((reads : ℕ → Bool) → GoodOperated (world names reads) Always (record { notes = ns; operand = o }))
    → (k : ℕ → List Stmt → StmtKind) → (over_operand o).over ≡ Some k → GoneOver (ns ++ (over_operand o).notes) k
operand_over names ns (a_value t) g k e =
    scalar_over ns t (scalar_of t.ty) (record { reading = (g (λ y. true)).reading; moves = λ reads h. ex_reads reads (tree_of t.expr) ((g reads).holds tt h).0.reads }) k e
operand_over names ns (a_literal q l) g k e = no_over _ k e
operand_over names ns missing g k e = no_over _ k e

value_over : (names : Names) (p : Place) (j : Judged) → ((reads : ℕ → Bool) → GoodJudged (world names reads) Always j) → OverTold (over_value p j)
value_over names p j g k e =
    let o = operand_of p j in
    operand_over names o.notes o.operand (λ reads. operand_good (world names reads) p j (g reads)) k e

over_by : (names : Names) (p : Place) (ns : List Note) (m : Meaning) → ((reads : ℕ → Bool) → GoodJudged (world names reads) Always (record { notes = ns; meaning = m })) → OverTold (over p (record { notes = ns; meaning = m }))
over_by names p ns (meaning.Range r) g k e = subst (GoneOver ns) (same_Some (λ i b. kind.Range i r.start r.stop r.step b) k e) (range_over names ns r g)
over_by names p ns (meaning.Value t) g k e = value_over names p (record { notes = ns; meaning = meaning.Value t }) g k e
over_by names p ns (meaning.Literal q l) g k e = value_over names p (record { notes = ns; meaning = meaning.Literal q l }) g k e
over_by names p ns (meaning.Thing t) g k e = value_over names p (record { notes = ns; meaning = meaning.Thing t }) g k e
over_by names p ns meaning.Unknown g k e = value_over names p (record { notes = ns; meaning = meaning.Unknown }) g k e

pub over_told : (names : Names) (s : Scope) (e : Ex) → GoodScope names s → OverTold (over (place_of e) (judge s freely e))
over_told names s e g =
    let j = judge s freely e in
    over_by names (place_of e) j.notes j.meaning (λ reads. judge_good (world names reads) s freely e g)

-- ---- `for`

abbrev turn_notes : ℕ → List Note → List Note
turn_notes i body = note.Loop [] true (note.Assign i ∷ body) ∷ note.Forget i ∷ []

turns_follow : (i : ℕ) (d : List Note) (m : Moves) → Follows (steps_of d) m → Follows (steps_of (turn_notes i d)) (over_items i m)
turns_follow i d m f =
    let plain = items_follow i (steps_of d) m f in
    let forgotten = subst (λ z. Follows (steps.a_step (a_loop steps.no_steps true (steps.a_step (steps.assign i) (steps_of d))) (steps.one z)) (over_items i m)) (sym (step-Forget i)) plain in
    let set = subst (λ z. Follows (steps.a_step (a_loop steps.no_steps true (steps.a_step z (steps_of d))) (steps.one (step_of (note.Forget i)))) (over_items i m)) (sym (step-Assign i)) forgotten in
    subst (λ z. Follows (steps.a_step z (steps.one (step_of (note.Forget i)))) (over_items i m)) (sym (step-Loop [] true (note.Assign i ∷ d))) set

for_one : (vs : List ValueType) (p : Place) (i : ℕ) (ns : List Note) (k : ℕ → List Stmt → StmtKind) (d : List Note) (body : List Stmt) → GoneOver ns k → ((a : ℕ) → Follows (steps_of d) (moves_of vs a body))
    → (a : ℕ) → Follows (steps_of (ns ++ turn_notes i d)) (moves_of vs a (stmt p (k i body)))
for_one vs p i ns k d body g f a =
    let r = g.is vs a p i body in
    let m = moves_of vs r.inner body in
    subst (λ z. Follows (steps_of (ns ++ turn_notes i d)) z) (sym r.is) (notes_follow ns (turn_notes i d) g.moves (over_items i m) (told_follow ns g.moves g.told) (turns_follow i d m (f r.inner)))

for_by : (vs : List ValueType) (p : Place) (i : ℕ) (ns more : List Note) (o : Option (ℕ → List Stmt → StmtKind)) (d : List Note) (b : Option (List Stmt)) → ((k : ℕ → List Stmt → StmtKind) → o ≡ Some k → GoneOver ns k) → AllFollow vs d b
    → AllFollow vs (ns ++ (more ++ turn_notes i d)) (for_typed p i more o b)
for_by vs p i ns [] None d b g f = untyped_follow vs (ns ++ turn_notes i d)
for_by vs p i ns [] (Some k) d None g f = untyped_follow vs (ns ++ turn_notes i d)
for_by vs p i ns [] (Some k) d (Some body) g f = typed_follow vs (ns ++ turn_notes i d) (stmt p (k i body)) (for_one vs p i ns k d body (g k refl) (f body refl))
for_by vs p i ns (n ∷ more) o d b g f = untyped_follow vs (ns ++ ((n ∷ more) ++ turn_notes i d))

pub for_follow : (vs : List ValueType) (ls : List Local) (p q : Place) (i : ℕ) (o : Over) (body : List Local → Done) → OverTold o → DoneFollows vs (body (fixed ls i o.ty)) → DoneFollows vs (a_for ls p q i o body)
for_follow vs ls p q i o body g f =
    let d = body (fixed ls i o.ty) in
    for_by vs p i o.notes (turn_differs (status_at ls i) q o.ty) o.over d.notes d.typed g f
