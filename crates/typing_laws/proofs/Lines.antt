-- The walks of typed statements of one line are walks of the notes on them.
use Rattle.std.proofs.Common.{◌≡◌, ℕ, Bool, true, false, List, [], ◌∷◌, ◌++◌, Option, Some, None, refl, sym, subst}
use Rattle.std.specs.Prelude.{if◌then◌else◌}
use Rattle.puya_base.specs.declared.source.Place.{Place}
use Rattle.puya_base.specs.declared.source.Rule.TheVariants as rule
use Rattle.awst.specs.declared.statement.Stmt.{Stmt}
use Rattle.awst.specs.Types.{ValueType}
use Rattle.awst.specs.Paths as Paths
use Rattle.awst.specs.Paths.{none, one, joined, ex_moves}
use Rattle.awst.specs.Plain.{tree_of}
use Rattle.awst.specs.Sound.{Names}
use Rattle.py_grammar.specs.declared.type_tree.TypeTree.{TypeTree}
use Rattle.path_rules.specs.declared.note.Note.{Note}
use Rattle.path_rules.specs.declared.note.Note.TheVariants as note
use Rattle.path_rules.specs.Steps as steps
use Rattle.path_rules.specs.Steps.{steps_of}
use Rattle.path_rules.proofs.Equations.{step-Break, step-Continue, step-Return}
use Rattle.source_names.specs.declared.types.SourceType.{SourceType}
use Rattle.source_names.specs.Annotations.{written, of_value}
use Rattle.source_names.specs.Source.{Ex, place_of}
use Rattle.source_names.specs.Types.{is_nothing}
use Rattle.meaning_rules.specs.declared.meaning.Lit.{Lit}
use Rattle.meaning_rules.specs.declared.meaning.Lit.TheVariants as lit
use Rattle.meaning_rules.specs.declared.meaning.Typed.{Typed}
use Rattle.meaning_rules.specs.declared.meaning.Meaning.{Meaning}
use Rattle.meaning_rules.specs.declared.meaning.Meaning.TheVariants as meaning
use Rattle.meaning_rules.specs.declared.scope.Scope.{Scope}
use Rattle.meaning_rules.specs.declared.scope.Local.{Local}
use Rattle.meaning_rules.specs.Meanings.{Judged, Valued, broken, broken_all, value, required, hoped, context, freely, condition}
use Rattle.expression_check.specs.Expressions.{judge}
use Rattle.expression_check.specs.Variables.{status_at, fixed, local_names}
use Rattle.statement_check.specs.Lines.{Line, skip, leave, again, give, claim, delete, alone, assign, augment, annotate}
use Rattle.statement_check.specs.Targets.{target_name, unpacked}
use Rattle.statement_check.specs.Statements.{seeing, assign_variable, annotated_again, differs, annotation_typed, only_when, annotated_value, annotate_variable, annotate_one, returned_typed, nothing_returned, return_nothing, return_value, claimed, message_is_text, message_notes, claim_that, alone_literal, alone_says, stand_alone, variable_of, check_line}
use Rattle.typing_laws.proofs.Good.{Reading, Always, GoodNames, GoodScope, GoodJudged, Settled, KeptLocals, Later, Follows}
use Rattle.typing_laws.proofs.Giving.{reading_append, reading_broken, reading_broken_all}
use Rattle.typing_laws.proofs.Expressions.{judge_good}
use Rattle.typing_laws.proofs.Growing.{later_itself, line_later, settled_before, kept_settled, value_later}
use Rattle.typing_laws.proofs.Keeping.{line_keeps}
use Rattle.typing_laws.proofs.Readings.{Told, told_follow}
use Rattle.typing_laws.proofs.Agreeing.{none_follow, notes_follow, break_follow, continue_follow, return_follow}
use Rattle.typing_laws.proofs.Deeds.{moves_of, moves-Drop, moves-Assert, moves-Break, moves-Continue, moves-Return}
use Rattle.typing_laws.proofs.Telling.{world, told_front, told_none, GoodValue, value_told, judged_value, required_value, condition_told, message_reading, meaning_told}
use Rattle.typing_laws.proofs.Assigning.{AllFollow, DoneFollows, untyped_follow, typed_follow, moves_follow, variable_follow, assign_all_follow, augment_one_follow}

-- ---- annotations

-- an annotation alone does nothing
annotation_alone : (vs : List ValueType) (ns more : List Note) (t : Option SourceType) → Reading ns → AllFollow vs ns (annotation_typed more t)
annotation_alone vs ns more None h = untyped_follow vs ns
annotation_alone vs ns [] (Some t) h = typed_follow vs ns [] (λ a. told_follow ns none (told_none ns h))
annotation_alone vs ns (n ∷ more) (Some t) h = untyped_follow vs ns

only_follow : (vs : List ValueType) (ns : List Note) (o b : Option (List Stmt)) → AllFollow vs ns b → AllFollow vs ns (only_when o b)
only_follow vs ns None b h = untyped_follow vs ns
only_follow vs ns (Some c) b h = h

behind_follow : (vs : List ValueType) (ns more : List Note) (typed : Option (List Stmt)) → Reading ns → AllFollow vs more typed → AllFollow vs (ns ++ more) typed
behind_follow vs ns more typed h f ss e a = notes_follow ns more none (moves_of vs a ss) (told_follow ns none (told_none ns h)) (f ss e a)

annotated_reading : (b : Bool) (p : Place) → Reading (if b then broken rule.P14 p ∷ [] else [])
annotated_reading true p = reading_broken rule.P14 p
annotated_reading false p = tt

-- a value is judged where the type is fixed
annotated_follow : (names : Names) (s : Scope) (p : Place) (i : ℕ) (front more : List Note) (t : Option SourceType) (e : Option Ex) → GoodScope names s → Reading front
    → AllFollow names.variables (front ++ (annotated_value s p i (annotation_typed more t) e).notes) (annotated_value s p i (annotation_typed more t) e).typed
annotated_follow names s p i front more t None g h = annotation_alone names.variables (front ++ []) more t (reading_append front [] h tt)
annotated_follow names s p i front more t (Some e) g h =
    let d = assign_variable s p i e in
    behind_follow names.variables front d.notes _ h (only_follow names.variables d.notes (annotation_typed more t) d.typed (variable_follow names s p i e g))

-- what is good of later variables is of earlier ones
pub kept_before : (ls ms : List Local) → Later ls ms → KeptLocals ms → KeptLocals ls
kept_before ls ms h k i l t e f =
    let r = h.stays i l (Some t) e f in
    k i r.local t r.at r.status

pub good_at : (names : Names) (s : Scope) (ls ms : List Local) → GoodNames names s → Later ls ms → KeptLocals ms → Settled names ms → GoodScope names (seeing s ls)
good_at names s ls ms g h k m = record {
  known = record { entries = g.entries; constants = g.constants; functions = g.functions };
  locals = kept_settled names ls (settled_before names ls ms h m) (kept_before ls ms h k);
}

annotate_follow : (names : Names) (s : Scope) (p : Place) (i : ℕ) (a : TypeTree) (e : Option Ex) → GoodNames names s → KeptLocals (annotate_variable s p i a e).locals → Settled names (annotate_variable s p i a e).locals
    → DoneFollows names.variables (annotate_variable s p i a e)
annotate_follow names s p i a e g k m =
    let w = of_value (written s.entries (local_names s.locals) a) in
    let ns = annotated_again (status_at s.locals i) w.place w.ty in
    let inner = seeing s (fixed s.locals i w.ty) in
    annotated_follow names inner p i (broken_all w.faults ++ ns) ns w.ty e
    (good_at names s inner.locals (annotate_variable s p i a e).locals g (value_later inner p i (annotation_typed ns w.ty) e) k m)
    (reading_append (broken_all w.faults) ns (reading_broken_all w.faults) (annotated_reading (differs (status_at s.locals i) w.ty) w.place))

annotate_one_follow : (names : Names) (s : Scope) (t : Ex) (i : Option ℕ) (a : TypeTree) (e : Option Ex) → GoodNames names s → KeptLocals (annotate_one s t i a e).locals → Settled names (annotate_one s t i a e).locals
    → DoneFollows names.variables (annotate_one s t i a e)
annotate_one_follow names s t (Some i) a e g k m = annotate_follow names s (place_of t) i a e g k m
annotate_one_follow names s t None a e g k m = untyped_follow names.variables _

-- ---- the other statements

note_leaves : Follows (steps_of (note.Return ∷ [])) (one Paths.leaves none)
note_leaves = subst (λ z. Follows (steps.one z) (one Paths.leaves none)) (sym step-Return) return_follow

nothing_follow : (vs : List ValueType) (ls : List Local) (p : Place) (b : Bool) → DoneFollows vs (nothing_returned ls p b)
nothing_follow vs ls p true = moves_follow vs (note.Return ∷ []) _ (one Paths.leaves none) (λ a. moves-Return vs a p None) note_leaves
nothing_follow vs ls p false = untyped_follow vs (broken rule.P14 p ∷ note.Return ∷ [])

return_nothing_follow : (vs : List ValueType) (ls : List Local) (r : Option SourceType) (p : Place) → DoneFollows vs (return_nothing ls r p)
return_nothing_follow vs ls None p = untyped_follow vs (note.Return ∷ [])
return_nothing_follow vs ls (Some t) p = nothing_follow vs ls p (is_nothing t)

returned_by : (names : Names) (p : Place) (v : Valued) (o : Option Typed) → GoodValue names v → v.typed ≡ o → AllFollow names.variables (v.notes ++ note.Return ∷ []) (returned_typed p o)
returned_by names p v None g e = untyped_follow names.variables _
returned_by names p v (Some t) g e =
    moves_follow names.variables (v.notes ++ note.Return ∷ []) _ (joined (ex_moves (tree_of t.expr)) (one Paths.leaves none))
    (λ a. moves-Return names.variables a p (Some t.expr))
    (notes_follow v.notes (note.Return ∷ []) (ex_moves (tree_of t.expr)) (one Paths.leaves none) (told_follow v.notes (ex_moves (tree_of t.expr)) (value_told names v t g e)) note_leaves)

return_follow_value : (names : Names) (s : Scope) (r : Option SourceType) (p : Place) (e : Ex) → GoodScope names s → DoneFollows names.variables (return_value s r p e)
return_follow_value names s r p e g =
    let v = required r (value (hoped r) (place_of e) (judge s (context true (hoped r)) e)) in
    returned_by names p v v.typed (required_value names r (value (hoped r) (place_of e) (judge s (context true (hoped r)) e)) (judged_value names s (context true (hoped r)) (hoped r) e g)) refl

claimed_by : (vs : List ValueType) (p : Place) (ns : List Note) (b : Bool) (o : Option Typed) → ((t : Typed) → o ≡ Some t → Told ns (ex_moves (tree_of t.expr))) → AllFollow vs ns (claimed p b o)
claimed_by vs p ns true None h = untyped_follow vs _
claimed_by vs p ns true (Some t) h = moves_follow vs ns _ (ex_moves (tree_of t.expr)) (λ a. moves-Assert vs a p t.expr) (told_follow ns (ex_moves (tree_of t.expr)) (h t refl))
claimed_by vs p ns false o h = untyped_follow vs _

claim_follow : (names : Names) (s : Scope) (p : Place) (e : Ex) (m : Option Ex) → GoodScope names s → DoneFollows names.variables (claim_that s p e m)
claim_follow names s p e m g =
    let c = condition (place_of e) (judge s freely e) in
    claimed_by names.variables p (c.notes ++ message_notes s m) (message_is_text s m) c.typed
    (λ t k. told_front c.notes (message_notes s m) (ex_moves (tree_of t.expr)) (condition_told names s e t g k) (message_reading names s m g))

literal_follow : (vs : List ValueType) (ls : List Local) (p : Place) (l : Lit) (front : List Note) → Reading front → AllFollow vs (front ++ (alone_literal ls p l).notes) (alone_literal ls p l).typed
literal_follow vs ls p (lit.Text b) front h = typed_follow vs (front ++ []) [] (λ a. told_follow (front ++ []) none (told_none (front ++ []) (reading_append front [] h tt)))
literal_follow vs ls p (lit.Number n) front h = untyped_follow vs _
literal_follow vs ls p (lit.Bytes b) front h = untyped_follow vs _

alone_by : (names : Names) (ls : List Local) (p : Place) (j : Judged) (m : Meaning) → j.meaning ≡ m → ((reads : ℕ → Bool) → GoodJudged (world names reads) Always j)
    → AllFollow names.variables (j.notes ++ (alone_says ls p m).notes) (alone_says ls p m).typed
alone_by names ls p j (meaning.Value t) e g =
    moves_follow names.variables (j.notes ++ []) _ (ex_moves (tree_of t.expr)) (λ a. moves-Drop names.variables a p t.expr)
    (told_follow (j.notes ++ []) (ex_moves (tree_of t.expr)) (told_front j.notes [] (ex_moves (tree_of t.expr)) (meaning_told names j t g e) tt))
alone_by names ls p j (meaning.Literal q l) e g = literal_follow names.variables ls q l j.notes (g (λ y. true)).reading
alone_by names ls p j (meaning.Thing t) e g = untyped_follow names.variables _
alone_by names ls p j (meaning.Range r) e g = untyped_follow names.variables _
alone_by names ls p j meaning.Unknown e g = untyped_follow names.variables _

alone_follow : (names : Names) (s : Scope) (e : Ex) → GoodScope names s → DoneFollows names.variables (stand_alone s e)
alone_follow names s e g = let j = judge s freely e in alone_by names s.locals (place_of e) j j.meaning refl (λ reads. judge_good (world names reads) s freely e g)

note_breaks : (p : Place) → Follows (steps_of (note.Break p ∷ [])) (one Paths.breaks none)
note_breaks p = subst (λ z. Follows (steps.one z) (one Paths.breaks none)) (sym (step-Break p)) (break_follow p)

note_continues : (p : Place) → Follows (steps_of (note.Continue p ∷ [])) (one Paths.continues none)
note_continues p = subst (λ z. Follows (steps.one z) (one Paths.continues none)) (sym (step-Continue p)) (continue_follow p)

-- where the variables of a scope are good, and those behind the line
line_by : (names : Names) (s : Scope) (r : Option SourceType) (l : Line) → GoodNames names s → GoodScope names s → KeptLocals (check_line s r l).locals → Settled names (check_line s r l).locals → DoneFollows names.variables (check_line s r l)
line_by names s r skip n g k m = typed_follow names.variables [] [] (λ a. none_follow)
line_by names s r (leave p) n g k m = moves_follow names.variables (note.Break p ∷ []) _ (one Paths.breaks none) (λ a. moves-Break names.variables a p) (note_breaks p)
line_by names s r (again p) n g k m = moves_follow names.variables (note.Continue p ∷ []) _ (one Paths.continues none) (λ a. moves-Continue names.variables a p) (note_continues p)
line_by names s r (give p None) n g k m = return_nothing_follow names.variables s.locals r p
line_by names s r (give p (Some e)) n g k m = return_follow_value names s r p e g
line_by names s r (claim p e t) n g k m = claim_follow names s p e t g
line_by names s r (delete p e) n g k m = untyped_follow names.variables _
line_by names s r (alone e) n g k m = alone_follow names s e g
line_by names s r (assign t e) n g k m = assign_all_follow names s t (unpacked t) e g
line_by names s r (augment t o e) n g k m = augment_one_follow names s t (variable_of s (target_name t)) o e g
line_by names s r (annotate t a e) n g k m = annotate_one_follow names s t (variable_of s (target_name t)) a e n k m

pub line_follow : (names : Names) (s : Scope) (r : Option SourceType) (ls : List Local) (l : Line) → GoodNames names s → KeptLocals ls → Settled names (check_line (seeing s ls) r l).locals → DoneFollows names.variables (check_line (seeing s ls) r l)
line_follow names s r ls l g k m =
    let h = good_at names s ls ls g (later_itself ls) k (settled_before names ls (check_line (seeing s ls) r l).locals (line_later (seeing s ls) r l) m) in
    line_by names (seeing s ls) r l h.known h (line_keeps names (seeing s ls) r l h.known k m) m
