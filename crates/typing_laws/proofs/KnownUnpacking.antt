-- Assignments that tell of no broken rule are typed, and the variables that they assign have types.
use Rattle.std.proofs.Common.{◌≡◌, ℕ, Bool, true, false, List, [], ◌∷◌, ◌++◌, Option, Some, None, refl, sym, ◌∙◌, subst}
use Rattle.std.specs.Prelude.{if◌then◌else◌}
use Rattle.puya_base.specs.declared.source.Place.{Place}
use Rattle.puya_base.specs.declared.source.Rule.TheVariants as rule
use Rattle.py_grammar.specs.declared.word.Word.{Word}
use Rattle.awst.specs.declared.expression.Expr.{Expr}
use Rattle.awst.specs.declared.statement.StmtKind.{StmtKind}
use Rattle.awst.specs.declared.statement.StmtKind.TheVariants as kind
use Rattle.awst.specs.declared.statement.Target.{Target}
use Rattle.awst.specs.declared.statement.Target.TheVariants as target
use Rattle.awst.specs.declared.ty.Ty.{Ty}
use Rattle.path_rules.specs.declared.note.Note.{Note}
use Rattle.path_rules.specs.declared.note.Note.TheVariants as note
use Rattle.source_names.specs.declared.types.SourceType.{SourceType}
use Rattle.source_names.specs.Types.{tuple_parts}
use Rattle.source_names.specs.Source.{Ex, Exs, no_exprs, an_expr, place_of}
use Rattle.meaning_rules.specs.declared.meaning.Hope.TheVariants as hope
use Rattle.meaning_rules.specs.declared.meaning.Expect.TheVariants as expect
use Rattle.meaning_rules.specs.declared.meaning.Context.{Context}
use Rattle.meaning_rules.specs.declared.meaning.Typed.{Typed}
use Rattle.meaning_rules.specs.declared.meaning.Meaning.{Meaning}
use Rattle.meaning_rules.specs.declared.meaning.Meaning.TheVariants as meaning
use Rattle.meaning_rules.specs.declared.scope.Scope.{Scope}
use Rattle.meaning_rules.specs.declared.scope.Local.{Local}
use Rattle.meaning_rules.specs.declared.scope.Status.{Status}
use Rattle.meaning_rules.specs.declared.scope.Status.TheVariants as status
use Rattle.meaning_rules.specs.Meanings.{Judged, Valued, broken, value, context, freely}
use Rattle.expression_check.specs.Expressions.{judge}
use Rattle.expression_check.specs.Variables.{status_at}
use Rattle.statement_check.specs.Targets.{target_name, one_name, names_in, unpacked_names}
use Rattle.statement_check.specs.Statements.{Done, of_typed, status_hope, for_status, type_in, is_known, bad_target, variable_of, assign_variable, assign_one, assign_all, Slots, slots, slot_notes, slot_hopes, slot_fixed, all_assigned, slot_takes, taken, both_targets, slot_targets, first_type, unpack_typed, unpacked_parts, unpacked_value, unpack_slots}
use Rattle.typing_laws.proofs.Giving.{each_front, each_behind}
use Rattle.typing_laws.proofs.Growing.{taken_later}
use Rattle.typing_laws.proofs.Lasting.{SameNames, same_itself, same_then, slot_same}
use Rattle.typing_laws.proofs.Known.{IsUnbroken, Unbroken, IsHope, AreHopes, IsKnownType, KnownLocals, KnownScope, KnownMeaning, KnownTyped, KnownValued}
use Rattle.typing_laws.proofs.KnownExpressions.{judge_known, value_known, required_known}
use Rattle.typing_laws.proofs.KnownNotes.{not_broken, is_held}
use Rattle.typing_laws.proofs.KnownVariables.{fixed_known, status_known, IsSeen, AllSeen, all_append, all_later, fixed_seen, found_exists, one_seen}

-- a statement that is typed, behind which each variable's type is known and each target has one
pub record KnownBy (ls : List Local) (ws : List Word) (d : Done) : Type 0 where
  pub typed : KnownTyped d.typed
  pub locals : KnownLocals d.locals
  pub targets : AllSeen ls d.locals ws

pub unbroken_front : (a b : List Note) → Unbroken (a ++ b) → Unbroken a
unbroken_front a b = each_front IsUnbroken a b

pub unbroken_behind : (a b : List Note) → Unbroken (a ++ b) → Unbroken b
unbroken_behind a b = each_behind IsUnbroken a b

-- ---- targets that are no variables

known_is : (s : Scope) (m : Meaning) → KnownMeaning s m → is_known m ≡ true
known_is s (meaning.Value t) k = refl
known_is s (meaning.Literal p l) k = refl
known_is s (meaning.Thing t) k = refl
known_is s (meaning.Range r) k = refl
known_is s meaning.Unknown k = absurd k

bad_told : {A : Type 0} (b : Bool) (p : Place) → b ≡ true → Unbroken (if b then broken rule.P16 p ∷ [] else []) → A
bad_told true p e h = not_broken rule.P16 p [] h
bad_told false p e h = absurd (cc)

pub bad_target_told : {A : Type 0} (s : Scope) (p : Place) (e : Ex) → KnownScope s → Unbroken (bad_target p (judge s freely e)) → A
bad_target_told s p e k h =
    let j : Judged = judge s freely e in
    let said : List Note = if is_known j.meaning then broken rule.P16 p ∷ [] else [] in
    bad_told (is_known j.meaning) p (known_is s j.meaning (judge_known s freely e k tt (unbroken_front j.notes said h))) (unbroken_behind j.notes said h)

-- ---- one variable

pub hope_known : (s : Status) → (s ≡ status.Fixed None → ⊥) → IsHope (status_hope s)
hope_known status.Unseen n = tt
hope_known (status.Fixed None) n = absurd (n refl)
hope_known (status.Fixed (Some t)) n = tt

for_known : (s : Status) (v : Valued) → (s ≡ status.Fixed None → ⊥) → KnownValued v → KnownValued (for_status s v)
for_known status.Unseen v n k = k
for_known (status.Fixed None) v n k = absurd (n refl)
for_known (status.Fixed (Some t)) v n k = required_known t v k

of_known : (p : Place) (o : Option Typed) (own : Expr → StmtKind) → KnownTyped o → KnownTyped (of_typed p o own)
of_known p None own h = h
of_known p (Some t) own h = tt

type_known : (o : Option Typed) → KnownTyped o → IsKnownType (type_in o)
type_known None h = h
type_known (Some t) h = tt

pub record KnownVariable (s : Scope) (p : Place) (i : ℕ) (e : Ex) : Type 0 where
  pub typed : KnownTyped (assign_variable s p i e).typed
  pub locals : KnownLocals (assign_variable s p i e).locals

pub variable_known : (s : Scope) (p : Place) (i : ℕ) (e : Ex) → KnownScope s → Unbroken (assign_variable s p i e).notes → KnownVariable s p i e
variable_known s p i e k h =
    let st : Status = status_at s.locals i in
    let hp = status_hope st in
    let n = status_known s.locals i k.locals in
    let v : Valued = value hp (place_of e) (judge s (context true hp) e) in
    let w : Valued = for_status st v in
    let g : IsHope hp = hope_known st n in
    let kw : KnownTyped w.typed = for_known st v n (value_known s hp (place_of e) (judge s (context true hp) e) g (judge_known s (context true hp) e k g)) (unbroken_front w.notes (note.Assign i ∷ []) h) in
    record {
      typed = of_known p w.typed (kind.Assign (target.Local i ∷ []) None) kw;
      locals = fixed_known s.locals i (type_in w.typed) k.locals (type_known w.typed kw);
    }

one_known : (s : Scope) (t e : Ex) (i : Option ℕ) → variable_of s (target_name t) ≡ i → KnownScope s → Unbroken (assign_one s t i e).notes → KnownBy s.locals (one_name (target_name t)) (assign_one s t i e)
one_known s t e None z k h = bad_target_told s (place_of t) t k (unbroken_front (bad_target (place_of t) (judge s freely t)) _ h)
one_known s t e (Some i) z k h =
    let r : KnownVariable s (place_of t) i e = variable_known s (place_of t) i e k h in
    record { typed = r.typed; locals = r.locals; targets = one_seen s (target_name t) i _ z }

-- ---- the slots of an unpacking

abbrev AreSlots : List (Option ℕ) → Type 0
AreSlots [] = Unit {0}
AreSlots (None ∷ is) = ⊥
AreSlots (Some i ∷ is) = AreSlots is

slot_by : (s : Scope) (e : Ex) (i : Option ℕ) (is : List (Option ℕ)) → KnownScope s → Unbroken (slot_notes i (place_of e) (judge s freely e)) → AreSlots is → AreSlots (i ∷ is)
slot_by s e None is k h r = bad_target_told s (place_of e) e k h
slot_by s e (Some i) is k h r = r

slots_known : (s : Scope) (es : Exs) → KnownScope s → Unbroken (slots s es).notes → AreSlots (slots s es).numbers
slots_known s no_exprs k h = tt
slots_known s (an_expr e es) k h =
    let i : Option ℕ = variable_of s (target_name e) in
    let own : List Note = slot_notes i (place_of e) (judge s freely e) in
    let r : Slots = slots s es in
    slot_by s e i r.numbers k (unbroken_front own r.notes h) (slots_known s es k (unbroken_behind own r.notes h))

hopes_known : (ls : List Local) (is : List (Option ℕ)) → KnownLocals ls → AreSlots is → AreHopes (slot_hopes ls is)
hopes_known ls [] k r = tt
hopes_known ls (None ∷ is) k r = absurd r
hopes_known ls (Some i ∷ is) k r = (hope_known (status_at ls i) (status_known ls i k), hopes_known ls is k r)

-- ---- the parts that they take

not_all : {A : Type 0} → false ≡ true → A
not_all e = absurd (cc)

and_rest : (b c : Bool) → (if b then c else false) ≡ true → c ≡ true
and_rest true c h = h
and_rest false c h = not_all h

slot_known : (ls : List Local) (i : Option ℕ) (t : SourceType) → KnownLocals ls → KnownLocals (slot_fixed ls i (Some t))
slot_known ls None t k = k
slot_known ls (Some i) t k = fixed_known ls i (Some t) k tt

taken_known : (ls : List Local) (is : List (Option ℕ)) (ts : List SourceType) → KnownLocals ls → (taken ls is ts).all ≡ true → KnownLocals (taken ls is ts).locals
taken_known ls [] [] k h = k
taken_known ls [] (t ∷ ts) k h = k
taken_known ls (i ∷ is) [] k h = not_all h
taken_known ls (i ∷ is) (t ∷ ts) k h = taken_known (slot_fixed ls i (Some t)) is ts (slot_known ls i t k) (and_rest (slot_takes ls i t) (taken (slot_fixed ls i (Some t)) is ts).all h)

slot_seen : (s : Scope) (ls : List Local) (w : Option Word) (i : Option ℕ) (t : SourceType) → SameNames s.locals ls → variable_of s w ≡ i → AllSeen s.locals (slot_fixed ls i (Some t)) (one_name w)
slot_seen s ls None i t m e = tt
slot_seen s ls (Some w) i t m e =
    (λ j h. subst (λ (z : Option ℕ). IsSeen (slot_fixed ls z (Some t)) j) (sym h ∙ e) (fixed_seen ls j (Some t) (found_exists s ls w.name j (m 0 w.name ∙ h))), tt)

taken_seen : (s : Scope) (es : Exs) (ls : List Local) (ts : List SourceType) → SameNames s.locals ls → (taken ls (slots s es).numbers ts).all ≡ true → AllSeen s.locals (taken ls (slots s es).numbers ts).locals (names_in es)
taken_seen s no_exprs ls ts m h = tt
taken_seen s (an_expr e es) ls [] m h = not_all h
taken_seen s (an_expr e es) ls (t ∷ ts) m h =
    let i : Option ℕ = variable_of s (target_name e) in
    let is : List (Option ℕ) = (slots s es).numbers in
    let ms : List Local = slot_fixed ls i (Some t) in
    all_append s.locals (taken ms is ts).locals (one_name (target_name e)) (names_in es)
    (all_later s.locals ms (taken ms is ts).locals (one_name (target_name e)) (taken_later ms is ts) (slot_seen s ls (target_name e) i t m refl))
    (taken_seen s es ms ts (same_then s.locals ls ms m (slot_same ls i (Some t))) (and_rest (slot_takes ls i t) (taken ms is ts).all h))

-- ---- the statement

slot_targets_known : (is : List (Option ℕ)) → AreSlots is → KnownTyped (slot_targets is)
slot_targets_known [] r = tt
slot_targets_known (None ∷ is) r = absurd r
slot_targets_known (Some i ∷ is) r = one_more (slot_targets is) (slot_targets_known is r)
  where
    one_more : (o : Option (List Target)) → KnownTyped o → KnownTyped (both_targets (Some i) o)
    one_more None h = h
    one_more (Some as_) h = tt

several_known : (p : Place) (i j : ℕ) (o : Option (List Target)) (u : Option Ty) (t : Typed) → KnownTyped o → KnownTyped (unpack_typed p true (both_targets (Some i) (both_targets (Some j) o)) u t)
several_known p i j None u t h = h
several_known p i j (Some as_) u t h = tt

targets_known : (ls : List Local) (p : Place) (is : List (Option ℕ)) (ts : List SourceType) (t : Typed) → AreSlots is → (taken ls is ts).all ≡ true → KnownTyped (unpack_typed p true (slot_targets is) (first_type ts) t)
targets_known ls p [] ts t r h = tt
targets_known ls p (None ∷ is) ts t r h = absurd r
targets_known ls p (Some i ∷ []) [] t r h = not_all h
targets_known ls p (Some i ∷ []) (u ∷ us) t r h = tt
targets_known ls p (Some i ∷ None ∷ is) ts t r h = absurd r
targets_known ls p (Some i ∷ Some j ∷ is) ts t r h = several_known p i j (slot_targets is) (first_type ts) t (slot_targets_known is r)

parts_known : (s : Scope) (p : Place) (es : Exs) (t : Typed) (ts : Option (List SourceType)) → KnownLocals s.locals → AreSlots (slots s es).numbers → Unbroken (unpacked_parts s.locals p (slots s es).numbers t ts).notes
    → KnownBy s.locals (names_in es) (unpacked_parts s.locals p (slots s es).numbers t ts)
parts_known s p es t None k r h = not_broken rule.P14 t.expr.place _ h
parts_known s p es t (Some ts) k r h =
    let is : List (Option ℕ) = (slots s es).numbers in
    let all : (taken s.locals is ts).all ≡ true = is_held (taken s.locals is ts).all rule.P14 t.expr.place (unbroken_front (if (taken s.locals is ts).all then [] else broken rule.P14 t.expr.place ∷ []) (all_assigned is) h) in
    record {
      typed = subst (λ z. KnownTyped (unpack_typed p z (slot_targets is) (first_type ts) t)) (sym all) (targets_known s.locals p is ts t r all);
      locals = taken_known s.locals is ts k all;
      targets = taken_seen s es s.locals ts (same_itself s.locals) all;
    }

unpacked_known : (s : Scope) (p : Place) (es : Exs) (o : Option Typed) → KnownLocals s.locals → AreSlots (slots s es).numbers → KnownTyped o → Unbroken (unpacked_value s.locals p (slots s es).numbers o).notes
    → KnownBy s.locals (names_in es) (unpacked_value s.locals p (slots s es).numbers o)
unpacked_known s p es None k r o h = absurd o
unpacked_known s p es (Some t) k r o h = parts_known s p es t (tuple_parts t.ty) k r h

unpack_known : (s : Scope) (p : Place) (es : Exs) (e : Ex) → KnownScope s → Unbroken (unpack_slots s p (slots s es) e).notes → KnownBy s.locals (names_in es) (unpack_slots s p (slots s es) e)
unpack_known s p es e k h =
    let r : Slots = slots s es in
    let c : Context = record { expect = expect.Each (slot_hopes s.locals r.numbers); copying = true } in
    let v : Valued = value hope.Free (place_of e) (judge s c e) in
    let d : Done = unpacked_value s.locals p r.numbers v.typed in
    let before : Unbroken (r.notes ++ v.notes) = unbroken_front (r.notes ++ v.notes) d.notes h in
    let are : AreSlots r.numbers = slots_known s es k (unbroken_front r.notes v.notes before) in
    let o : KnownTyped v.typed = value_known s hope.Free (place_of e) (judge s c e) tt (judge_known s c e k (hopes_known s.locals r.numbers k.locals are)) (unbroken_behind r.notes v.notes before) in
    let u : KnownBy s.locals (names_in es) d = unpacked_known s p es v.typed k.locals are o (unbroken_behind (r.notes ++ v.notes) d.notes h) in
    record { typed = u.typed; locals = u.locals; targets = u.targets }

pub assign_known : (s : Scope) (t e : Ex) (ts : Option Exs) → KnownScope s → Unbroken (assign_all s t ts e).notes → KnownBy s.locals (unpacked_names t ts) (assign_all s t ts e)
assign_known s t e None k h = one_known s t e (variable_of s (target_name t)) refl k h
assign_known s t e (Some es) k h = unpack_known s (place_of t) es e k h
