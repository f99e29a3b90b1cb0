-- The walks of typed assignments are walks of the notes on them.
use Rattle.std.proofs.Common.{◌≡◌, ℕ, Bool, true, false, List, [], ◌∷◌, ◌++◌, map, Option, Some, None, refl, sym, ◌∙◌, ap, subst, append_assoc}
use Rattle.std.specs.Prelude.{slice_get, if◌then◌else◌}
use Rattle.std.proofs.lemmas.Option.{none-some, same_Some}
use Rattle.puya_base.specs.declared.source.Place.{Place}
use Rattle.puya_base.specs.declared.source.Rule.TheVariants as rule
use Rattle.awst.specs.declared.ty.Ty.{Ty}
use Rattle.awst.specs.declared.statement.Stmt.{Stmt}
use Rattle.awst.specs.declared.statement.StmtKind.TheVariants as kind
use Rattle.awst.specs.declared.statement.Target.{Target}
use Rattle.awst.specs.declared.statement.Target.TheVariants as target
use Rattle.awst.specs.Types.{ValueType}
use Rattle.awst.specs.Paths as Paths
use Rattle.awst.specs.Paths.{Moves, none, one, joined, ex_moves, all_set}
use Rattle.awst.specs.Plain.{tree_of, destination}
use Rattle.awst.specs.Sound.{Names}
use Rattle.algopy_library.specs.declared.operator.Operator.{Operator}
use Rattle.algopy_library.specs.declared.operator.Operation.{Operation}
use Rattle.path_rules.specs.declared.note.Note.{Note}
use Rattle.path_rules.specs.declared.note.Note.TheVariants as note
use Rattle.path_rules.specs.Steps as steps
use Rattle.path_rules.specs.Steps.{steps_of}
use Rattle.path_rules.proofs.Equations.{step-Assign}
use Rattle.source_names.specs.declared.types.SourceType.{SourceType}
use Rattle.source_names.specs.Source.{Ex, Exs, place_of}
use Rattle.source_names.specs.Types.{tuple_parts, scalar_of}
use Rattle.meaning_rules.specs.declared.meaning.Hope.TheVariants as hope
use Rattle.meaning_rules.specs.declared.meaning.Context.{Context}
use Rattle.meaning_rules.specs.declared.meaning.Expect.TheVariants as expect
use Rattle.meaning_rules.specs.declared.meaning.Typed.{Typed}
use Rattle.meaning_rules.specs.declared.operand.Operand.{Operand}
use Rattle.meaning_rules.specs.declared.operand.Operand.TheVariants.{Value as a_value, Literal as a_literal, Missing as missing}
use Rattle.meaning_rules.specs.declared.scope.Scope.{Scope}
use Rattle.meaning_rules.specs.declared.scope.Local.{Local}
use Rattle.meaning_rules.specs.Meanings.{Valued, broken, value, context, freely, operand_of}
use Rattle.meaning_rules.specs.Operations.{operation_at, read_status}
use Rattle.expression_check.specs.Expressions.{judge}
use Rattle.expression_check.specs.Variables.{status_at}
use Rattle.statement_check.specs.Targets.{target_name}
use Rattle.statement_check.specs.Statements.{Done, of_typed, status_hope, for_status, assigned, assign_variable, assign_one, assign_all, unpack_slots, slots, Slots, slot_hopes, taken, slot_targets, both_targets, all_assigned, first_type, first_part, unpack_to, unpack_typed, unpacked_parts, unpacked_value, agreed, augmented, augmented_when, augmented_by, augment_variable, augment_one, variable_of}
use Rattle.typing_laws.proofs.Good.{Reading, GoodScope, Follows}
use Rattle.typing_laws.proofs.Readings.{Told, told_follow}
use Rattle.typing_laws.proofs.Moving.{joined-none}
use Rattle.typing_laws.proofs.Agreeing.{none_follow, notes_follow, sets_follow}
use Rattle.typing_laws.proofs.Deeds.{moves_of, moves-Assign, moves-Augment, moves-Drop, moves-part}
use Rattle.typing_laws.proofs.Telling.{told_behind, GoodValue, value_told, judged_value, status_value, slots_reading, read_told, agreed_value_good}

-- typed statements follow notes
abbrev pub AllFollow : List ValueType → List Note → Option (List Stmt) → Type 0
AllFollow vs ns typed = (ss : List Stmt) → typed ≡ Some ss → (a : ℕ) → Follows (steps_of ns) (moves_of vs a ss)

abbrev pub DoneFollows : List ValueType → Done → Type 0
DoneFollows vs d = AllFollow vs d.notes d.typed

-- nothing is typed
pub untyped_follow : (vs : List ValueType) (ns : List Note) → AllFollow vs ns None
untyped_follow vs ns ss e a = absurd (none-some ss e)

-- these statements, which make those moves
pub typed_follow : (vs : List ValueType) (ns : List Note) (ss : List Stmt) → ((a : ℕ) → Follows (steps_of ns) (moves_of vs a ss)) → AllFollow vs ns (Some ss)
typed_follow vs ns ss h ts e a = subst (λ z. Follows (steps_of ns) (moves_of vs a z)) (same_Some ss ts e) (h a)

pub moves_follow : (vs : List ValueType) (ns : List Note) (ss : List Stmt) (m : Moves) → ((a : ℕ) → moves_of vs a ss ≡ m) → Follows (steps_of ns) m → AllFollow vs ns (Some ss)
moves_follow vs ns ss m e h = typed_follow vs ns ss (λ a. subst (λ z. Follows (steps_of ns) z) (sym (e a)) h)

-- ---- assignments

note_sets : (i : ℕ) → Follows (steps_of (note.Assign i ∷ [])) (one (Paths.sets i) none)
note_sets i = subst (λ z. Follows (steps.one z) (one (Paths.sets i) none)) (sym (step-Assign i)) (sets_follow i)

assigned_by : (names : Names) (p : Place) (i : ℕ) (v : Valued) (o : Option Typed) → GoodValue names v → v.typed ≡ o
    → AllFollow names.variables (v.notes ++ note.Assign i ∷ []) (of_typed p o (kind.Assign (target.Local i ∷ []) None))
assigned_by names p i v None g e = untyped_follow names.variables _
assigned_by names p i v (Some t) g e =
    moves_follow names.variables (v.notes ++ note.Assign i ∷ []) _ (joined (ex_moves (tree_of t.expr)) (one (Paths.sets i) none))
    (λ a. moves-Assign names.variables a p (target.Local i ∷ []) t.expr)
    (notes_follow v.notes (note.Assign i ∷ []) (ex_moves (tree_of t.expr)) (one (Paths.sets i) none) (told_follow v.notes (ex_moves (tree_of t.expr)) (value_told names v t g e)) (note_sets i))

assigned_follow : (names : Names) (ls : List Local) (p : Place) (i : ℕ) (v : Valued) → GoodValue names v → DoneFollows names.variables (assigned ls p i v)
assigned_follow names ls p i v g =
    let w = for_status (status_at ls i) v in
    assigned_by names p i w w.typed (status_value names (status_at ls i) v g) refl

pub variable_follow : (names : Names) (s : Scope) (p : Place) (i : ℕ) (e : Ex) → GoodScope names s → DoneFollows names.variables (assign_variable s p i e)
variable_follow names s p i e g =
    let h = status_hope (status_at s.locals i) in
    assigned_follow names s.locals p i (value h (place_of e) (judge s (context true h) e)) (judged_value names s (context true h) h e g)

assign_one_follow : (names : Names) (s : Scope) (t : Ex) (i : Option ℕ) (e : Ex) → GoodScope names s → DoneFollows names.variables (assign_one s t i e)
assign_one_follow names s t (Some i) e g = variable_follow names s (place_of t) i e g
assign_one_follow names s t None e g = untyped_follow names.variables _

-- ---- unpackings

targets_by : (is : List (Option ℕ)) (i : ℕ) (o : Option (List Target)) (as_ : List Target) → ((bs : List Target) → o ≡ Some bs → Follows (steps_of (all_assigned is)) (all_set (map destination bs)))
    → both_targets (Some i) o ≡ Some as_ → Follows (steps_of (all_assigned (Some i ∷ is))) (all_set (map destination as_))
targets_by is i None as_ h e = absurd (none-some as_ e)
targets_by is i (Some bs) as_ h e =
    subst (λ z. Follows (steps_of (all_assigned (Some i ∷ is))) (all_set (map destination z))) (same_Some (target.Local i ∷ bs) as_ e)
    (notes_follow (note.Assign i ∷ []) (all_assigned is) (one (Paths.sets i) none) (all_set (map destination bs)) (note_sets i) (h bs refl))

targets_follow : (is : List (Option ℕ)) (as_ : List Target) → slot_targets is ≡ Some as_ → Follows (steps_of (all_assigned is)) (all_set (map destination as_))
targets_follow [] as_ e = subst (λ z. Follows steps.no_steps (all_set (map destination z))) (same_Some [] as_ e) none_follow
targets_follow (None ∷ is) as_ e = absurd (none-some as_ e)
targets_follow (Some i ∷ is) as_ e = targets_by is i (slot_targets is) as_ (targets_follow is) e

unpack_follow : (vs : List ValueType) (p : Place) (front behind : List Note) (as_ : List Target) (u : Option Ty) (t : Typed) → Told front (ex_moves (tree_of t.expr))
    → Follows (steps_of behind) (all_set (map destination as_)) → AllFollow vs (front ++ behind) (unpack_to p as_ u t)
unpack_follow vs p front behind [] u t h k =
    moves_follow vs (front ++ behind) _ (joined (ex_moves (tree_of t.expr)) none)
    (λ a. moves-Drop vs a p t.expr ∙ sym (joined-none (ex_moves (tree_of t.expr))))
    (notes_follow front behind (ex_moves (tree_of t.expr)) none (told_follow front (ex_moves (tree_of t.expr)) h) k)
unpack_follow vs p front behind (b ∷ []) None t h k = untyped_follow vs _
unpack_follow vs p front behind (b ∷ []) (Some u) t h k =
    moves_follow vs (front ++ behind) _ (joined (ex_moves (tree_of t.expr)) (all_set (map destination (b ∷ []))))
    (λ a. moves-Assign vs a p (b ∷ []) (first_part t u) ∙ ap (λ z. joined z (all_set (map destination (b ∷ [])))) (moves-part t u))
    (notes_follow front behind (ex_moves (tree_of t.expr)) (all_set (map destination (b ∷ []))) (told_follow front (ex_moves (tree_of t.expr)) h) k)
unpack_follow vs p front behind (b ∷ c ∷ as_) u t h k =
    moves_follow vs (front ++ behind) _ (joined (ex_moves (tree_of t.expr)) (all_set (map destination (b ∷ c ∷ as_))))
    (λ a. moves-Assign vs a p (b ∷ c ∷ as_) t.expr)
    (notes_follow front behind (ex_moves (tree_of t.expr)) (all_set (map destination (b ∷ c ∷ as_))) (told_follow front (ex_moves (tree_of t.expr)) h) k)

taken_follow : (vs : List ValueType) (p : Place) (front : List Note) (is : List (Option ℕ)) (b : Bool) (o : Option (List Target)) (u : Option Ty) (t : Typed) → Told front (ex_moves (tree_of t.expr)) → slot_targets is ≡ o
    → AllFollow vs (front ++ ((if b then [] else broken rule.P14 t.expr.place ∷ []) ++ all_assigned is)) (unpack_typed p b o u t)
taken_follow vs p front is true None u t h e = untyped_follow vs _
taken_follow vs p front is true (Some as_) u t h e = unpack_follow vs p front (all_assigned is) as_ u t h (targets_follow is as_ e)
taken_follow vs p front is false o u t h e = untyped_follow vs _

parts_follow : (vs : List ValueType) (ls : List Local) (p : Place) (front : List Note) (is : List (Option ℕ)) (t : Typed) (o : Option (List SourceType)) → Told front (ex_moves (tree_of t.expr))
    → AllFollow vs (front ++ (unpacked_parts ls p is t o).notes) (unpacked_parts ls p is t o).typed
parts_follow vs ls p front is t None h = untyped_follow vs _
parts_follow vs ls p front is t (Some ts) h = taken_follow vs p front is (taken ls is ts).all (slot_targets is) (first_type ts) t h refl

unpacked_by : (names : Names) (ls : List Local) (p : Place) (front : List Note) (is : List (Option ℕ)) (o : Option Typed) → ((t : Typed) → o ≡ Some t → Told front (ex_moves (tree_of t.expr)))
    → AllFollow names.variables (front ++ (unpacked_value ls p is o).notes) (unpacked_value ls p is o).typed
unpacked_by names ls p front is None h = untyped_follow names.variables _
unpacked_by names ls p front is (Some t) h = parts_follow names.variables ls p front is t (tuple_parts t.ty) (h t refl)

unpack_slots_follow : (names : Names) (s : Scope) (p : Place) (r : Slots) (e : Ex) → GoodScope names s → Reading r.notes → DoneFollows names.variables (unpack_slots s p r e)
unpack_slots_follow names s p r e g h =
    let c : Context = record { expect = expect.Each (slot_hopes s.locals r.numbers); copying = true } in
    let v = value hope.Free (place_of e) (judge s c e) in
    unpacked_by names s.locals p (r.notes ++ v.notes) r.numbers v.typed
    (λ t k. told_behind r.notes v.notes (ex_moves (tree_of t.expr)) h (value_told names v t (judged_value names s c hope.Free e g) k))

pub assign_all_follow : (names : Names) (s : Scope) (t : Ex) (o : Option Exs) (e : Ex) → GoodScope names s → DoneFollows names.variables (assign_all s t o e)
assign_all_follow names s t (Some ts) e g = unpack_slots_follow names s (place_of t) (slots s ts) e g (slots_reading names s ts g)
assign_all_follow names s t None e g = assign_one_follow names s t (variable_of s (target_name t)) e g

-- ---- augmented assignments

augmented_last : (names : Names) (p : Place) (i : ℕ) (front : List Note) (v : Valued) (o : Option Operation) (t : Typed) → Told front (one (Paths.reads i p) none) → GoodValue names v → v.typed ≡ Some t
    → AllFollow names.variables (front ++ (v.notes ++ note.Assign i ∷ [])) (augmented_by p i o t)
augmented_last names p i front v None t h g e = untyped_follow names.variables _
augmented_last names p i front v (Some o) t h g e =
    let x = ex_moves (tree_of t.expr) in
    let set = one (Paths.sets i) none in
    moves_follow names.variables (front ++ (v.notes ++ note.Assign i ∷ [])) _ (joined (one (Paths.reads i p) none) (joined (joined x none) set))
    (λ a. moves-Augment names.variables a p i o.prim t.expr)
    (notes_follow front (v.notes ++ note.Assign i ∷ []) (one (Paths.reads i p) none) (joined (joined x none) set) (told_follow front (one (Paths.reads i p) none) h)
    (subst (λ z. Follows (steps_of (v.notes ++ note.Assign i ∷ [])) (joined z set)) (sym (joined-none x))
    (notes_follow v.notes (note.Assign i ∷ []) x set (told_follow v.notes x (value_told names v t g e)) (note_sets i))))

augmented_right : (names : Names) (p : Place) (i : ℕ) (o : Operator) (c : Typed) (front : List Note) (v : Valued) (r : Option Typed) → Told front (one (Paths.reads i p) none) → GoodValue names v → v.typed ≡ r
    → AllFollow names.variables (front ++ (v.notes ++ note.Assign i ∷ [])) (augmented_when p i o c r)
augmented_right names p i o c front v None h g e = untyped_follow names.variables _
augmented_right names p i o c front v (Some t) h g e = augmented_last names p i front v (operation_at o (scalar_of c.ty)) t h g e

augmented_left : (names : Names) (s : Scope) (p : Place) (i : ℕ) (o : Operator) (e : Ex) (front : List Note) (l : Operand) → GoodScope names s → ((c : Typed) → l ≡ a_value c → Told front (one (Paths.reads i p) none))
    → AllFollow names.variables (front ++ ((operand_of (place_of e) (judge s freely e)).notes ++ ((augmented p i o l (operand_of (place_of e) (judge s freely e)).operand).notes ++ note.Assign i ∷ [])))
    (augmented p i o l (operand_of (place_of e) (judge s freely e)).operand).typed
augmented_left names s p i o e front (a_literal q l) g h = untyped_follow names.variables _
augmented_left names s p i o e front missing g h = untyped_follow names.variables _
augmented_left names s p i o e front (a_value c) g h =
    let b = operand_of (place_of e) (judge s freely e) in
    let v = agreed p o c b.operand in
    let whole : Valued = record { notes = b.notes ++ v.notes; typed = v.typed } in
    subst (λ z. AllFollow names.variables (front ++ z) (augmented_when p i o c v.typed)) (append_assoc b.notes v.notes (note.Assign i ∷ []))
    (augmented_right names p i o c front whole v.typed (h c refl) (agreed_value_good names s p o c e g) refl)

augment_follow : (names : Names) (s : Scope) (p : Place) (i : ℕ) (o : Operator) (e : Ex) → GoodScope names s → DoneFollows names.variables (augment_variable s p i o e)
augment_follow names s p i o e g =
    let l = operand_of p (read_status p i (slice_get s.locals i)) in
    augmented_left names s p i o e l.notes l.operand g (read_told p i (slice_get s.locals i))

pub augment_one_follow : (names : Names) (s : Scope) (t : Ex) (i : Option ℕ) (o : Operator) (e : Ex) → GoodScope names s → DoneFollows names.variables (augment_one s t i o e)
augment_one_follow names s t (Some i) o e g = augment_follow names s (place_of t) i o e g
augment_one_follow names s t None o e g = untyped_follow names.variables _
