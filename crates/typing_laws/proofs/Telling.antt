-- What is told by the notes on values, conditions and parts of statements.
use Rattle.std.proofs.Common.{◌≡◌, ℕ, Bool, true, false, List, [], ◌∷◌, ◌++◌, Option, Some, None, refl, subst}
use Rattle.std.specs.Prelude.{if◌then◌else◌}
use Rattle.puya_base.specs.declared.source.Place.{Place}
use Rattle.puya_base.specs.declared.source.Rule.TheVariants as rule
use Rattle.awst.specs.Paths as Paths
use Rattle.awst.specs.Paths.{Moves, none, one, ex_moves}
use Rattle.awst.specs.Plain.{tree_of}
use Rattle.awst.specs.Sound.{Names}
use Rattle.awst.specs.declared.expression.ExprKind.TheVariants as kind
use Rattle.algopy_library.specs.declared.operator.Operator.{Operator}
use Rattle.path_rules.specs.declared.note.Note.{Note}
use Rattle.path_rules.specs.declared.note.Note.TheVariants as note
use Rattle.source_names.specs.declared.types.SourceType.{SourceType}
use Rattle.source_names.specs.Source.{Ex, Exs, no_exprs, an_expr, does, place_of}
use Rattle.source_names.specs.Types.{same_type, is_nothing}
use Rattle.meaning_rules.specs.declared.meaning.Context.{Context}
use Rattle.meaning_rules.specs.declared.meaning.Hope.{Hope}
use Rattle.meaning_rules.specs.declared.meaning.Hope.TheVariants as hope
use Rattle.meaning_rules.specs.declared.meaning.Lit.{Lit}
use Rattle.meaning_rules.specs.declared.meaning.Lit.TheVariants as lit
use Rattle.meaning_rules.specs.declared.meaning.Typed.{Typed}
use Rattle.meaning_rules.specs.declared.meaning.Meaning.TheVariants as meaning
use Rattle.meaning_rules.specs.declared.operand.Operand.{Operand}
use Rattle.meaning_rules.specs.declared.operand.Operand.TheVariants.{Value as a_value, Literal as a_literal, Missing as missing}
use Rattle.meaning_rules.specs.declared.scope.Scope.{Scope}
use Rattle.meaning_rules.specs.declared.scope.Local.{Local}
use Rattle.meaning_rules.specs.declared.scope.Status.{Status}
use Rattle.meaning_rules.specs.declared.scope.Status.TheVariants as status
use Rattle.meaning_rules.specs.Meanings.{Judged, Valued, broken, value, required, condition, freely, operand_of, kept, a_node}
use Rattle.meaning_rules.specs.Operations.{read_status, has_between}
use Rattle.expression_check.specs.Expressions.{judge}
use Rattle.statement_check.specs.Statements.{for_status, bad_target, is_known, slots, slot_notes, variable_of, agreed, agreed_value, message_notes, text_notes}
use Rattle.statement_check.specs.Targets.{target_name}
use Rattle.typing_laws.proofs.Good.{IsAllowed, Reading, World, Always, Gives, GoodScope, GoodMeaning, GoodOption, GoodCondition, GoodOperand, GoodJudged, GoodValued, GoodOperated}
use Rattle.typing_laws.proofs.Giving.{each_front, each_behind, reading_append, reading_broken, reading_read, read_allowed, gives_none, gives_broken, gives_then}
use Rattle.typing_laws.proofs.Meanings.{literal_good, value_good, required_good, condition_good, operand_good}
use Rattle.typing_laws.proofs.Expressions.{judge_good}
use Rattle.typing_laws.proofs.Readings.{Told, ex_reads}

abbrev pub world : Names → (ℕ → Bool) → World
world names reads = record { names = names; reads = reads }

-- ---- more notes

pub told_behind : (a b : List Note) (ms : Moves) → Reading a → Told b ms → Told (a ++ b) ms
told_behind a b ms h k = record {
  reading = reading_append a b h k.reading;
  moves = λ reads l. k.moves reads (each_behind (IsAllowed reads) a b l);
}

pub told_front : (a b : List Note) (ms : Moves) → Told a ms → Reading b → Told (a ++ b) ms
told_front a b ms k h = record {
  reading = reading_append a b k.reading h;
  moves = λ reads l. k.moves reads (each_front (IsAllowed reads) a b l);
}

pub told_none : (ns : List Note) → Reading ns → Told ns none
told_none ns h = record { reading = h; moves = λ reads l. tt }

-- ---- values, conditions and operands, whatever may be read

abbrev pub GoodValue : Names → Valued → Type 0
GoodValue names v = (reads : ℕ → Bool) → GoodValued (world names reads) Always v

pub value_told : (names : Names) (v : Valued) (t : Typed) → GoodValue names v → v.typed ≡ Some t → Told v.notes (ex_moves (tree_of t.expr))
value_told names v t g e = record {
  reading = (g (λ y. true)).reading;
  moves = λ reads h. ex_reads reads (tree_of t.expr) (subst (GoodOption (world names reads)) e ((g reads).holds tt h)).0.reads;
}

pub meaning_told : (names : Names) (j : Judged) (t : Typed) → ((reads : ℕ → Bool) → GoodJudged (world names reads) Always j) → j.meaning ≡ meaning.Value t → Told j.notes (ex_moves (tree_of t.expr))
meaning_told names j t g e = record {
  reading = (g (λ y. true)).reading;
  moves = λ reads h. ex_reads reads (tree_of t.expr) (subst (GoodMeaning (world names reads)) e ((g reads).holds tt h)).reads;
}

pub judged_reading : (names : Names) (s : Scope) (c : Context) (e : Ex) → GoodScope names s → Reading (judge s c e).notes
judged_reading names s c e g = (judge_good (world names (λ y. true)) s c e g).reading

pub judged_value : (names : Names) (s : Scope) (c : Context) (h : Hope) (e : Ex) → GoodScope names s → GoodValue names (value h (place_of e) (judge s c e))
judged_value names s c h e g reads = value_good (world names reads) h (place_of e) (judge s c e) (judge_good (world names reads) s c e g)

pub required_value : (names : Names) (t : Option SourceType) (v : Valued) → GoodValue names v → GoodValue names (required t v)
required_value names t v g reads = required_good (world names reads) t v (g reads)

pub status_value : (names : Names) (t : Status) (v : Valued) → GoodValue names v → GoodValue names (for_status t v)
status_value names status.Unseen v g = g
status_value names (status.Fixed t) v g = required_value names t v g

pub condition_told : (names : Names) (s : Scope) (e : Ex) (t : Typed) → GoodScope names s → (condition (place_of e) (judge s freely e)).typed ≡ Some t
    → Told (condition (place_of e) (judge s freely e)).notes (ex_moves (tree_of t.expr))
condition_told names s e t g k =
    let good = λ (reads : ℕ → Bool). condition_good (world names reads) (place_of e) (judge s freely e) (judge_good (world names reads) s freely e g) in
    record {
      reading = (good (λ y. true)).reading;
      moves = λ reads h. ex_reads reads (tree_of t.expr) (subst (GoodCondition (world names reads)) k ((good reads).holds tt h)).0.reads;
    }

pub operated_good : (names : Names) (s : Scope) (e : Ex) → GoodScope names s → (reads : ℕ → Bool) → GoodOperated (world names reads) Always (operand_of (place_of e) (judge s freely e))
operated_good names s e g reads = operand_good (world names reads) (place_of e) (judge s freely e) (judge_good (world names reads) s freely e g)

-- ---- targets that are no variables

reading_when : (b : Bool) (ns : List Note) → Reading ns → Reading (if b then ns else [])
reading_when true ns h = h
reading_when false ns h = tt

pub bad_target_reading : (p : Place) (j : Judged) → Reading j.notes → Reading (bad_target p j)
bad_target_reading p j h = reading_append j.notes _ h (reading_when (is_known j.meaning) (broken rule.P16 p ∷ []) (reading_broken rule.P16 p))

slot_reading : (i : Option ℕ) (p : Place) (j : Judged) → Reading j.notes → Reading (slot_notes i p j)
slot_reading None p j h = bad_target_reading p j h
slot_reading (Some i) p j h = tt

pub slots_reading : (names : Names) (s : Scope) (es : Exs) → GoodScope names s → Reading (slots s es).notes
slots_reading names s no_exprs g = tt
slots_reading names s (an_expr e es) g =
    reading_append (slot_notes (variable_of s (target_name e)) (place_of e) (judge s freely e)) (slots s es).notes
    (slot_reading (variable_of s (target_name e)) (place_of e) (judge s freely e) (judged_reading names s freely e g)) (slots_reading names s es g)

-- ---- augmented assignments

kept_by : (p : Place) (t : Typed) (b : Bool) → is_nothing t.ty ≡ b → Reading (kept p t).notes
kept_by p t true e = rw e (reading_broken rule.P14 p)
kept_by p t false e = rw e tt

read_first : (i : ℕ) (p : Place) (rest : List Note) → Reading rest → Told (note.Read i p ∷ rest) (one (Paths.reads i p) none)
read_first i p rest h = record { reading = ((reading_read i p).0, h); moves = λ reads l. (read_allowed reads i p rest l, tt) }

missing_none : (a : Typed) → missing ≡ a_value a → ⊥
missing_none a e = cc

-- a variable that has a value is read
read_by : (p : Place) (i : ℕ) (n : List ℕ) (u : Status) (a : Typed) → (operand_of p (read_status p i (Some (record { name = n; status = u })))).operand ≡ a_value a
    → Told (operand_of p (read_status p i (Some (record { name = n; status = u })))).notes (one (Paths.reads i p) none)
read_by p i n status.Unseen a e = absurd (missing_none a e)
read_by p i n (status.Fixed None) a e = read_first i p [] tt
read_by p i n (status.Fixed (Some u)) a e =
    let t = a_node p u (kind.Local i) in
    read_first i p (kept p t).notes (kept_by p t (is_nothing u) refl)

pub read_told : (p : Place) (i : ℕ) (l : Option Local) (a : Typed) → (operand_of p (read_status p i l)).operand ≡ a_value a → Told (operand_of p (read_status p i l)).notes (one (Paths.reads i p) none)
read_told p i None a e = absurd (missing_none a e)
read_told p i (Some l) a e = read_by p i l.name l.status a e

agreed_by : (w : World) (p : Place) (o : Operator) (a b : Typed) (c d : Bool) → has_between (does o) a.ty ≡ c → same_type a.ty b.ty ≡ d
    → Gives w (GoodOperand w (a_value b)) (agreed_value p o a b).notes (GoodOption w (agreed_value p o a b).typed)
agreed_by w p o a b true true e k = rw (e, k) (gives_none w _ _ (λ h. h))
agreed_by w p o a b true false e k = rw (e, k) (gives_broken w _ _ rule.P14 b.expr.place (λ h. tt))
agreed_by w p o a b false d e k = rw e (gives_broken w _ _ rule.P14 p (λ h. tt))

agreed_lit_by : (w : World) (p q : Place) (o : Operator) (a : Typed) (l : Lit) (c : Bool) → has_between (does o) a.ty ≡ c
    → Gives w (GoodOperand w (a_literal q l)) (agreed p o a (a_literal q l)).notes (GoodOption w (agreed p o a (a_literal q l)).typed)
agreed_lit_by w p q o a l true e = rw e (literal_good w (hope.Wants a.ty) q l)
agreed_lit_by w p q o a l false e = rw e (gives_broken w _ _ rule.P14 p (λ h. tt))

agreed_good : (w : World) (p : Place) (o : Operator) (a : Typed) (b : Operand) → Gives w (GoodOperand w b) (agreed p o a b).notes (GoodOption w (agreed p o a b).typed)
agreed_good w p o a (a_value b) = agreed_by w p o a b (has_between (does o) a.ty) (same_type a.ty b.ty) refl refl
agreed_good w p o a (a_literal q l) = agreed_lit_by w p q o a l (has_between (does o) a.ty) refl
agreed_good w p o a missing = gives_none w _ _ (λ h. tt)

-- the right side, with the notes on its type
pub agreed_value_good : (names : Names) (s : Scope) (p : Place) (o : Operator) (a : Typed) (e : Ex) → GoodScope names s
    → GoodValue names (record { notes = (operand_of (place_of e) (judge s freely e)).notes ++ (agreed p o a (operand_of (place_of e) (judge s freely e)).operand).notes; typed = (agreed p o a (operand_of (place_of e) (judge s freely e)).operand).typed })
agreed_value_good names s p o a e g reads =
    let b = operand_of (place_of e) (judge s freely e) in
    gives_then (world names reads) Always _ _ b.notes (agreed p o a b.operand).notes (operated_good names s e g reads) (agreed_good (world names reads) p o a b.operand)

-- ---- the second part of `assert`

text_reading : (p : Place) (o : Operand) → Reading (text_notes p o)
text_reading p (a_literal q (lit.Text b)) = tt
text_reading p (a_literal q (lit.Number n)) = reading_broken rule.P14 q
text_reading p (a_literal q (lit.Bytes b)) = reading_broken rule.P14 q
text_reading p (a_value t) = reading_broken rule.P14 p
text_reading p missing = tt

pub message_reading : (names : Names) (s : Scope) (m : Option Ex) → GoodScope names s → Reading (message_notes s m)
message_reading names s None g = tt
message_reading names s (Some e) g =
    let o = operand_of (place_of e) (judge s freely e) in
    reading_append o.notes (text_notes (place_of e) o.operand) (operated_good names s e g (λ y. true)).reading (text_reading (place_of e) o.operand)
