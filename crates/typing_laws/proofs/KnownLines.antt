-- Statements of one line that tell of no broken rule are typed, and the variables that they assign have types.
use Rattle.std.proofs.Common.{◌≡◌, ℕ, Bool, true, false, List, [], ◌∷◌, ◌++◌, Option, Some, None, refl, sym, subst}
use Rattle.std.specs.Prelude.{slice_get, if◌then◌else◌}
use Rattle.puya_base.specs.declared.source.Place.{Place}
use Rattle.puya_base.specs.declared.source.Rule.TheVariants as rule
use Rattle.py_grammar.specs.declared.type_tree.TypeTree.{TypeTree}
use Rattle.py_grammar.specs.declared.word.Word.{Word}
use Rattle.awst.specs.declared.expression.ExprKind.TheVariants as value_kind
use Rattle.awst.specs.declared.statement.Stmt.{Stmt}
use Rattle.algopy_library.specs.declared.operator.Operator.{Operator}
use Rattle.algopy_library.specs.declared.operator.Operation.{Operation}
use Rattle.path_rules.specs.declared.note.Note.{Note}
use Rattle.path_rules.specs.declared.note.Note.TheVariants as note
use Rattle.source_names.specs.declared.types.SourceType.{SourceType}
use Rattle.source_names.specs.declared.named.Thing.{Thing}
use Rattle.source_names.specs.Types.{same_type, scalar_of, is_nothing}
use Rattle.source_names.specs.Annotations.{Written, written, of_value}
use Rattle.source_names.specs.Source.{Ex, place_of, does}
use Rattle.meaning_rules.specs.declared.meaning.Hope.{Hope}
use Rattle.meaning_rules.specs.declared.meaning.Typed.{Typed}
use Rattle.meaning_rules.specs.declared.meaning.Lit.{Lit}
use Rattle.meaning_rules.specs.declared.meaning.Lit.TheVariants as lit
use Rattle.meaning_rules.specs.declared.meaning.Meaning.{Meaning}
use Rattle.meaning_rules.specs.declared.meaning.Meaning.TheVariants as meaning
use Rattle.meaning_rules.specs.declared.operand.Operand.{Operand}
use Rattle.meaning_rules.specs.declared.operand.Operand.TheVariants.{Value as a_value, Literal as a_literal, Missing as missing}
use Rattle.meaning_rules.specs.declared.scope.Scope.{Scope}
use Rattle.meaning_rules.specs.declared.scope.Local.{Local}
use Rattle.meaning_rules.specs.declared.scope.Status.{Status}
use Rattle.meaning_rules.specs.declared.scope.Status.TheVariants as status
use Rattle.meaning_rules.specs.Meanings.{Judged, Valued, Operated, broken, broken_all, a_node, a_typed, value_breaks, lit_type, lit_node, operand_of, value, required, hoped, context, freely, condition}
use Rattle.meaning_rules.specs.Operations.{has_between, operation_at, is_some_operation, read_status}
use Rattle.expression_check.specs.Expressions.{judge}
use Rattle.expression_check.specs.Variables.{fixed, status_at, local_status, local_names}
use Rattle.statement_check.specs.Lines.{Line, skip, leave, again, give, claim, delete, alone, assign, augment, annotate}
use Rattle.statement_check.specs.Targets.{target_name, unpacked, one_name, line_targets}
use Rattle.statement_check.specs.Statements.{Done, variable_of, bad_target, assign_variable, agreed, augmented, augmented_by, augmented_when, Augmented, augment_one, differs, annotated_again, annotation_typed, only_when, annotated_value, annotate_one, returned_typed, nothing_returned, return_value, text_notes, message_notes, is_text, message_is_text, claimed, claim_that, alone_literal, alone_says, stand_alone, check_line, seeing}
use Rattle.typing_laws.proofs.Growing.{fixed_later}
use Rattle.typing_laws.proofs.Fixing.{unseen_fixed}
use Rattle.typing_laws.proofs.Taking.{Exists, variable_exists}
use Rattle.typing_laws.specs.Naming.{is_named_line, is_named_type, EntriesKnown}
use Rattle.typing_laws.proofs.Known.{Unbroken, IsKnownType, KnownNames, KnownLocals, KnownScope, KnownThing, KnownMeaning, KnownOperand, KnownTyped}
use Rattle.typing_laws.proofs.KnownExpressions.{judge_known, operand_known, value_known, required_known, condition_known}
use Rattle.typing_laws.proofs.KnownTypes.{value_annotation_known}
use Rattle.typing_laws.proofs.KnownNotes.{not_broken, none_broken, not_held}
use Rattle.typing_laws.proofs.KnownVariables.{scope_known, fixed_known, AllSeen, all_later, one_seen, seen_same}
use Rattle.typing_laws.proofs.KnownUnpacking.{KnownBy, unbroken_front, unbroken_behind, bad_target_told, KnownVariable, variable_known, assign_known}

-- ---- returns

nothing_known : (ls : List Local) (p : Place) (b : Bool) → KnownLocals ls → Unbroken (nothing_returned ls p b).notes → KnownBy ls [] (nothing_returned ls p b)
nothing_known ls p true k h = record { typed = tt; locals = k; targets = tt }
nothing_known ls p false k h = not_broken rule.P14 p (note.Return ∷ []) h

returned_known : (p : Place) (o : Option Typed) → KnownTyped o → KnownTyped (returned_typed p o)
returned_known p None h = h
returned_known p (Some t) h = tt

return_known : (s : Scope) (t : SourceType) (p : Place) (e : Ex) → KnownScope s → Unbroken (return_value s (Some t) p e).notes → KnownBy s.locals [] (return_value s (Some t) p e)
return_known s t p e k h =
    let hp : Hope = hoped (Some t) in
    let v : Valued = value hp (place_of e) (judge s (context true hp) e) in
    let w : Valued = required (Some t) v in
    record {
      typed = returned_known p w.typed (required_known t v (value_known s hp (place_of e) (judge s (context true hp) e) tt (judge_known s (context true hp) e k tt)) (unbroken_front w.notes (note.Return ∷ []) h));
      locals = k.locals;
      targets = tt;
    }

-- ---- assertions

abbrev kept_when : Place → Typed → Bool → Operated
kept_when p t b = if b then record { notes = broken rule.P14 p ∷ []; operand = missing } else record { notes = []; operand = a_value t }

kept_text : {A : Type 0} (p : Place) (t : Typed) (b : Bool) → KnownOperand (kept_when p t b).operand → Unbroken (text_notes p (kept_when p t b).operand) → A
kept_text p t true k h = absurd k
kept_text p t false k h = not_broken rule.P14 p [] h

literal_text : (p q : Place) (l : Lit) → Unbroken (text_notes p (a_literal q l)) → is_text (meaning.Literal q l) ≡ true
literal_text p q (lit.Text b) h = refl
literal_text p q (lit.Number n) h = not_broken rule.P14 q [] h
literal_text p q (lit.Bytes b) h = not_broken rule.P14 q [] h

operand_text : (p : Place) (ns : List Note) (m : Meaning) → KnownOperand (operand_of p (record { notes = ns; meaning = m })).operand → Unbroken (text_notes p (operand_of p (record { notes = ns; meaning = m })).operand) → is_text m ≡ true
operand_text p ns (meaning.Value t) k h = kept_text p t (is_nothing t.ty) k h
operand_text p ns (meaning.Literal q l) k h = literal_text p q l h
operand_text p ns (meaning.Thing t) k h = absurd k
operand_text p ns (meaning.Range r) k h = absurd k
operand_text p ns meaning.Unknown k h = absurd k

message_known : (s : Scope) (m : Option Ex) → KnownScope s → Unbroken (message_notes s m) → message_is_text s m ≡ true
message_known s None k h = refl
message_known s (Some e) k h =
    let j : Judged = judge s freely e in
    let o : Operated = operand_of (place_of e) j in
    operand_text (place_of e) j.notes j.meaning (operand_known s (place_of e) j (judge_known s freely e k tt) (unbroken_front o.notes (text_notes (place_of e) o.operand) h))
    (unbroken_behind o.notes (text_notes (place_of e) o.operand) h)

claimed_known : (p : Place) (b : Bool) (o : Option Typed) → b ≡ true → KnownTyped o → KnownTyped (claimed p b o)
claimed_known p true None e h = h
claimed_known p true (Some t) e h = tt
claimed_known p false o e h = absurd (cc)

claim_known : (s : Scope) (p : Place) (e : Ex) (m : Option Ex) → KnownScope s → Unbroken (claim_that s p e m).notes → KnownBy s.locals [] (claim_that s p e m)
claim_known s p e m k h =
    let c : Valued = condition (place_of e) (judge s freely e) in
    record {
      typed = claimed_known p (message_is_text s m) c.typed (message_known s m k (unbroken_behind c.notes (message_notes s m) h))
          (condition_known s (place_of e) (judge s freely e) (judge_known s freely e k tt) (unbroken_front c.notes (message_notes s m) h));
      locals = k.locals;
      targets = tt;
    }

-- ---- expressions that stand alone

literal_known : (ls : List Local) (p : Place) (l : Lit) → KnownLocals ls → Unbroken (alone_literal ls p l).notes → KnownBy ls [] (alone_literal ls p l)
literal_known ls p (lit.Text b) k h = record { typed = tt; locals = k; targets = tt }
literal_known ls p (lit.Number n) k h = not_broken rule.P14 p [] h
literal_known ls p (lit.Bytes b) k h = not_broken rule.P14 p [] h

alone_by : (s : Scope) (ls : List Local) (p : Place) (m : Meaning) → KnownLocals ls → KnownMeaning s m → Unbroken (alone_says ls p m).notes → KnownBy ls [] (alone_says ls p m)
alone_by s ls p (meaning.Value t) k m h = record { typed = tt; locals = k; targets = tt }
alone_by s ls p (meaning.Literal q l) k m h = literal_known ls q l k h
alone_by s ls p (meaning.Thing t) k m h = not_broken rule.P14 p [] h
alone_by s ls p (meaning.Range r) k m h = not_broken rule.P14 p [] h
alone_by s ls p meaning.Unknown k m h = absurd m

alone_known : (s : Scope) (e : Ex) → KnownScope s → Unbroken (stand_alone s e).notes → KnownBy s.locals [] (stand_alone s e)
alone_known s e k h =
    let j : Judged = judge s freely e in
    let d : Done = alone_says s.locals (place_of e) j.meaning in
    let r : KnownBy s.locals [] d = alone_by s s.locals (place_of e) j.meaning k.locals (judge_known s freely e k tt (unbroken_front j.notes d.notes h)) (unbroken_behind j.notes d.notes h) in
    record { typed = r.typed; locals = r.locals; targets = r.targets }

-- ---- annotations

annotation_by : (c : Bool) (p : Place) (t : Option SourceType) → c ≡ false → IsKnownType t → KnownTyped (annotation_typed (if c then broken rule.P14 p ∷ [] else []) t)
annotation_by true p t e k = absurd (cc)
annotation_by false p None e k = k
annotation_by false p (Some t) e k = tt

only_known : (a b : Option (List Stmt)) → KnownTyped a → KnownTyped b → KnownTyped (only_when a b)
only_known None b h k = h
only_known (Some a) b h k = k

entries_known : (s : Scope) → KnownNames s → EntriesKnown s.entries
entries_known s k i e h u = subst (λ (t : Thing). KnownThing s t) u (k.entries i e h)

pub record KnownAnnotated (s : Scope) (p : Place) (i : ℕ) (t : Option (List Stmt)) (e : Option Ex) : Type 0 where
  pub typed : KnownTyped (annotated_value s p i t e).typed
  pub locals : KnownLocals (annotated_value s p i t e).locals

annotated_known : (s : Scope) (p : Place) (i : ℕ) (t : Option (List Stmt)) (e : Option Ex) → KnownScope s → KnownTyped t → Unbroken (annotated_value s p i t e).notes → KnownAnnotated s p i t e
annotated_known s p i t None k a h = record { typed = a; locals = k.locals }
annotated_known s p i t (Some e) k a h =
    let r : KnownVariable s p i e = variable_known s p i e k h in
    record { typed = only_known t (assign_variable s p i e).typed a r.typed; locals = r.locals }

annotated_later : (s : Scope) (ws : List Word) (p : Place) (i : ℕ) (t : Option (List Stmt)) (e : Option Ex) (ls : List Local) → AllSeen ls s.locals ws → AllSeen ls (annotated_value s p i t e).locals ws
annotated_later s ws p i t None ls h = h
annotated_later s ws p i t (Some e) ls h = all_later ls s.locals (assign_variable s p i e).locals ws (fixed_later s.locals i _) h

annotate_known : (s : Scope) (t : Ex) (i : Option ℕ) (a : TypeTree) (e : Option Ex) → variable_of s (target_name t) ≡ i → KnownScope s → is_named_type a ≡ true → Unbroken (annotate_one s t i a e).notes
    → KnownBy s.locals (one_name (target_name t)) (annotate_one s t i a e)
annotate_known s t None a e z k n h = not_broken rule.P16 (place_of t) _ (unbroken_behind (judge s freely t).notes _ h)
annotate_known s t (Some i) a e z k n h =
    let w : Written = of_value (written s.entries (local_names s.locals) a) in
    let ns : List Note = annotated_again (status_at s.locals i) w.place w.ty in
    let ms : List Local = fixed s.locals i w.ty in
    let y : Option (List Stmt) = annotation_typed ns w.ty in
    let d : Done = annotated_value (seeing s ms) (place_of t) i y e in
    let front : Unbroken (broken_all w.faults ++ ns) = unbroken_front (broken_all w.faults ++ ns) d.notes h in
    let none : w.faults ≡ [] = none_broken w.faults (unbroken_front (broken_all w.faults) ns front) in
    let known : IsKnownType w.ty = value_annotation_known s.entries (local_names s.locals) a (entries_known s k.known) n none in
    let same : differs (status_at s.locals i) w.ty ≡ false = not_held (differs (status_at s.locals i) w.ty) rule.P14 w.place (unbroken_behind (broken_all w.faults) ns front) in
    let r : KnownAnnotated (seeing s ms) (place_of t) i y e = annotated_known (seeing s ms) (place_of t) i y e (scope_known s ms k.known (fixed_known s.locals i w.ty k.locals known))
    (annotation_by (differs (status_at s.locals i) w.ty) w.place w.ty same known) (unbroken_behind (broken_all w.faults ++ ns) d.notes h) in
    record {
      typed = r.typed;
      locals = r.locals;
      targets = annotated_later (seeing s ms) (one_name (target_name t)) (place_of t) i y e s.locals (one_seen s (target_name t) i w.ty z);
    }

-- ---- augmented assignments

-- the variable that is read has a type, and a value of it
pub record IsRead (s : Status) (o : Operand) : Type 0 where
  pub settled : (s ≡ status.Unseen) → ⊥
  pub value : Typed
  pub is : o ≡ a_value value

kept_read : (p : Place) (t : Typed) (u : Option SourceType) (b : Bool) → Unbroken (kept_when p t b).notes → IsRead (status.Fixed u) (kept_when p t b).operand
kept_read p t u true h = not_broken rule.P14 p [] h
kept_read p t u false h = record { settled = λ e. unseen_fixed u (sym e); value = t; is = refl }

read_by : (p : Place) (i : ℕ) (n : List ℕ) (s : Status) → (s ≡ status.Fixed None → ⊥) → Unbroken (operand_of p (read_status p i (Some (record { name = n; status = s })))).notes
    → IsRead s (operand_of p (read_status p i (Some (record { name = n; status = s })))).operand
read_by p i n status.Unseen k h = not_broken rule.P17 p (note.Read i p ∷ []) h
read_by p i n (status.Fixed None) k h = absurd (k refl)
read_by p i n (status.Fixed (Some u)) k h = kept_read p (a_node p u (value_kind.Local i)) (Some u) (is_nothing u) h.1

variable_read : (p : Place) (i : ℕ) (ls : List Local) (x : Exists ls i) → KnownLocals ls → Unbroken (operand_of p (read_status p i (slice_get ls i))).notes → IsRead (status_at ls i) (operand_of p (read_status p i (slice_get ls i))).operand
variable_read p i ls x k h =
    subst (λ (o : Option Local). Unbroken (operand_of p (read_status p i o)).notes → IsRead (local_status o) (operand_of p (read_status p i o)).operand) (sym x.at)
    (λ g. read_by p i x.local.name x.local.status (k i x.local x.at) g) h

-- the value beside it has the same type, and that has the operator
abbrev agreed_when : Place → Place → Bool → Bool → Typed → Valued
agreed_when p q c d b = if c then (if d then a_typed b else value_breaks rule.P14 q) else value_breaks rule.P14 p

record IsAgreed (c : Bool) (o : Option Typed) : Type 0 where
  typed : KnownTyped o
  has : c ≡ true

agreed_by : (p q : Place) (c d : Bool) (b : Typed) → Unbroken (agreed_when p q c d b).notes → IsAgreed c (agreed_when p q c d b).typed
agreed_by p q true true b h = record { typed = tt; has = refl }
agreed_by p q true false b h = not_broken rule.P14 q [] h
agreed_by p q false d b h = not_broken rule.P14 p [] h

agreed_known : (p : Place) (o : Operator) (a : Typed) (b : Operand) → KnownOperand b → Unbroken (agreed p o a b).notes → IsAgreed (has_between (does o) a.ty) (agreed p o a b).typed
agreed_known p o a (a_value b) k h = agreed_by p b.expr.place (has_between (does o) a.ty) (same_type a.ty b.ty) b h
agreed_known p o a (a_literal q l) k h = agreed_by p q (has_between (does o) a.ty) (same_type a.ty (lit_type l)) (lit_node q l) h
agreed_known p o a missing k h = absurd k

by_known : (p : Place) (i : ℕ) (o : Option Operation) (t : Typed) → is_some_operation o ≡ true → KnownTyped (augmented_by p i o t)
by_known p i None t e = absurd (cc)
by_known p i (Some o) t e = tt

when_known : (p : Place) (i : ℕ) (o : Operator) (a : Typed) (b : Option Typed) → IsAgreed (has_between (does o) a.ty) b → KnownTyped (augmented_when p i o a b)
when_known p i o a None g = g.typed
when_known p i o a (Some b) g = by_known p i (operation_at o (scalar_of a.ty)) b g.has

augmented_known : (p : Place) (i : ℕ) (o : Operator) (x b : Operand) (a : Typed) → x ≡ a_value a → KnownOperand b → Unbroken (augmented p i o x b).notes → KnownTyped (augmented p i o x b).typed
augmented_known p i o x b a e k h =
    subst (λ (z : Operand). Unbroken (augmented p i o z b).notes → KnownTyped (augmented p i o z b).typed) (sym e) (λ g. when_known p i o a (agreed p o a b).typed (agreed_known p o a b k g)) h

augment_known : (s : Scope) (t : Ex) (i : Option ℕ) (o : Operator) (e : Ex) → variable_of s (target_name t) ≡ i → KnownScope s → Unbroken (augment_one s t i o e).notes
    → KnownBy s.locals (one_name (target_name t)) (augment_one s t i o e)
augment_known s t None o e z k h = bad_target_told s (place_of t) t k (unbroken_front (bad_target (place_of t) (judge s freely t)) _ h)
augment_known s t (Some i) o e z k h =
    let p : Place = place_of t in
    let a : Operated = operand_of p (read_status p i (slice_get s.locals i)) in
    let b : Operated = operand_of (place_of e) (judge s freely e) in
    let r : Augmented = augmented p i o a.operand b.operand in
    let behind : Unbroken (b.notes ++ (r.notes ++ note.Assign i ∷ [])) = unbroken_behind a.notes (b.notes ++ (r.notes ++ note.Assign i ∷ [])) h in
    let y : IsRead (status_at s.locals i) a.operand = variable_read p i s.locals (variable_exists s (target_name t) i z) k.locals (unbroken_front a.notes (b.notes ++ (r.notes ++ note.Assign i ∷ [])) h) in
    record {
      typed = augmented_known p i o a.operand b.operand y.value y.is (operand_known s (place_of e) (judge s freely e) (judge_known s freely e k tt) (unbroken_front b.notes (r.notes ++ note.Assign i ∷ []) behind))
          (unbroken_front r.notes (note.Assign i ∷ []) (unbroken_behind b.notes (r.notes ++ note.Assign i ∷ []) behind));
      locals = subst (λ ls. KnownLocals ls) (sym (seen_same s.locals i None y.settled)) k.locals;
      targets = one_seen s (target_name t) i None z;
    }

-- ---- a line

pub line_known : (s : Scope) (t : SourceType) (l : Line) → KnownScope s → is_named_line l ≡ true → Unbroken (check_line s (Some t) l).notes → KnownBy s.locals (line_targets l) (check_line s (Some t) l)
line_known s t skip k n h = record { typed = tt; locals = k.locals; targets = tt }
line_known s t (leave p) k n h = record { typed = tt; locals = k.locals; targets = tt }
line_known s t (again p) k n h = record { typed = tt; locals = k.locals; targets = tt }
line_known s t (give p None) k n h = nothing_known s.locals p (is_nothing t) k.locals h
line_known s t (give p (Some e)) k n h = return_known s t p e k h
line_known s t (claim p e m) k n h = claim_known s p e m k h
line_known s t (delete p e) k n h = bad_target_told s (place_of e) e k h
line_known s t (alone e) k n h = alone_known s e k h
line_known s t (assign y e) k n h = assign_known s y e (unpacked y) k h
line_known s t (augment y o e) k n h = augment_known s y (variable_of s (target_name y)) o e refl k h
line_known s t (annotate y a e) k n h = annotate_known s y (variable_of s (target_name y)) a e refl k n h
