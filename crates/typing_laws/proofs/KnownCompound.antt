-- Compound statements are typed where what they are made of is, and their variables have types.
use Rattle.std.proofs.Common.{◌≡◌, ℕ, Bool, true, false, List, [], ◌∷◌, ◌++◌, Option, Some, None}
use Rattle.std.specs.Prelude.{if◌then◌else◌}
use Rattle.puya_base.specs.declared.source.Place.{Place}
use Rattle.puya_base.specs.declared.source.Rule.TheVariants as rule
use Rattle.py_grammar.specs.declared.word.Word.{Word}
use Rattle.awst.specs.declared.statement.Stmt.{Stmt}
use Rattle.awst.specs.declared.statement.StmtKind.{StmtKind}
use Rattle.awst.specs.declared.statement.Arm.{Arm}
use Rattle.algopy_library.specs.declared.scalar.Scalar.{Scalar}
use Rattle.algopy_library.specs.declared.scalar.Scalar.TheVariants as scalar
use Rattle.path_rules.specs.declared.note.Note.{Note}
use Rattle.source_names.specs.declared.types.SourceType.{SourceType}
use Rattle.source_names.specs.Types.{scalar_of}
use Rattle.source_names.specs.Source.{Ex, place_of}
use Rattle.meaning_rules.specs.declared.meaning.Typed.{Typed}
use Rattle.meaning_rules.specs.declared.meaning.Meaning.{Meaning}
use Rattle.meaning_rules.specs.declared.meaning.Meaning.TheVariants as meaning
use Rattle.meaning_rules.specs.declared.operand.Operand.{Operand}
use Rattle.meaning_rules.specs.declared.operand.Operand.TheVariants.{Value as a_value, Literal as a_literal, Missing as missing}
use Rattle.meaning_rules.specs.declared.scope.Scope.{Scope}
use Rattle.meaning_rules.specs.declared.scope.Local.{Local}
use Rattle.meaning_rules.specs.Meanings.{Judged, Operated, broken, operand_of, freely}
use Rattle.expression_check.specs.Expressions.{judge}
use Rattle.expression_check.specs.Variables.{status_at}
use Rattle.statement_check.specs.Statements.{Done, done, behind_done, arm_typed, if_typed, while_typed, differs, turn_differs, for_typed, over_scalar, over_operand, over_value, over}
use Rattle.typing_laws.proofs.Good.{Later}
use Rattle.typing_laws.proofs.Known.{Unbroken, IsKnownType, KnownScope, KnownOperand, KnownOperated, KnownTyped}
use Rattle.typing_laws.proofs.KnownExpressions.{judge_known, operand_known}
use Rattle.typing_laws.proofs.KnownNotes.{not_broken, not_held}
use Rattle.typing_laws.proofs.KnownVariables.{AllSeen, all_append, all_later, all_before}
use Rattle.typing_laws.proofs.Lasting.{SameNames}
use Rattle.typing_laws.proofs.KnownUnpacking.{KnownBy, unbroken_front, unbroken_behind}

-- ---- one behind another

behind_by : (ls ms : List Local) (ns os : List Note) (a b : Option (List Stmt)) → KnownTyped a → KnownTyped b → KnownTyped (behind_done (done ls ns a) (done ms os b)).typed
behind_by ls ms ns os None b h k = h
behind_by ls ms ns os (Some a) None h k = k
behind_by ls ms ns os (Some a) (Some b) h k = tt

pub both_seen : (ls ms ns : List Local) (as_ bs : List Word) → Later ms ns → SameNames ls ms → AllSeen ls ms as_ → AllSeen ms ns bs → AllSeen ls ns (as_ ++ bs)
both_seen ls ms ns as_ bs l s h k = all_append ls ns as_ bs (all_later ls ms ns as_ l h) (all_before ls ms ns bs s k)

pub behind_known : (ls : List Local) (as_ bs : List Word) (d e : Done) → Later d.locals e.locals → SameNames ls d.locals → KnownBy ls as_ d → KnownBy d.locals bs e → KnownBy ls (as_ ++ bs) (behind_done d e)
behind_known ls as_ bs d e l s h k = record {
  typed = behind_by d.locals e.locals d.notes e.notes d.typed e.typed h.typed k.typed;
  locals = k.locals;
  targets = both_seen ls d.locals e.locals as_ bs l s h.targets k.targets;
}

-- ---- arms

pub arm_known : (c : Option Typed) (b : Option (List Stmt)) (as_ : Option (List Arm)) → KnownTyped c → KnownTyped b → KnownTyped as_ → KnownTyped (arm_typed c b as_)
arm_known None b as_ g h k = g
arm_known (Some c) None as_ g h k = h
arm_known (Some c) (Some b) None g h k = k
arm_known (Some c) (Some b) (Some as_) g h k = tt

pub if_known : (p : Place) (as_ : Option (List Arm)) (b : Option (List Stmt)) → KnownTyped as_ → KnownTyped b → KnownTyped (if_typed p as_ b)
if_known p None b h k = h
if_known p (Some as_) None h k = k
if_known p (Some as_) (Some b) h k = tt

-- ---- loops

pub while_known : (p : Place) (c : Option Typed) (b : Option (List Stmt)) → KnownTyped c → KnownTyped b → KnownTyped (while_typed p c b)
while_known p None b h k = h
while_known p (Some c) None h k = k
while_known p (Some c) (Some b) h k = tt

pub record KnownOver (t : Option SourceType) (f : Option (ℕ → List Stmt → StmtKind)) : Type 0 where
  pub ty : IsKnownType t
  pub over : KnownTyped f

scalar_known : (t : Typed) (s : Option Scalar) → Unbroken (over_scalar t s).notes → KnownOver (over_scalar t s).ty (over_scalar t s).over
scalar_known t None h = not_broken rule.P14 t.expr.place [] h
scalar_known t (Some scalar.UInt64) h = not_broken rule.P14 t.expr.place [] h
scalar_known t (Some scalar.Bool) h = not_broken rule.P14 t.expr.place [] h
scalar_known t (Some scalar.Bytes) h = record { ty = tt; over = tt }
scalar_known t (Some scalar.Text) h = not_broken rule.P14 t.expr.place [] h
scalar_known t (Some scalar.Account) h = not_broken rule.P14 t.expr.place [] h

operand_over : (o : Operand) → KnownOperand o → Unbroken (over_operand o).notes → KnownOver (over_operand o).ty (over_operand o).over
operand_over (a_value t) k h = scalar_known t (scalar_of t.ty) h
operand_over (a_literal q l) k h = not_broken rule.P14 q [] h
operand_over missing k h = absurd k

value_over : (p : Place) (j : Judged) → KnownOperated (operand_of p j) → Unbroken (over_value p j).notes → KnownOver (over_value p j).ty (over_value p j).over
value_over p j k h =
    let o : Operated = operand_of p j in
    operand_over o.operand (k (unbroken_front o.notes (over_operand o.operand).notes h)) (unbroken_behind o.notes (over_operand o.operand).notes h)

over_by : (p : Place) (ns : List Note) (m : Meaning) → KnownOperated (operand_of p (record { notes = ns; meaning = m })) → Unbroken (over p (record { notes = ns; meaning = m })).notes
    → KnownOver (over p (record { notes = ns; meaning = m })).ty (over p (record { notes = ns; meaning = m })).over
over_by p ns (meaning.Range r) k h = record { ty = tt; over = tt }
over_by p ns (meaning.Value t) k h = value_over p (record { notes = ns; meaning = meaning.Value t }) k h
over_by p ns (meaning.Literal q l) k h = value_over p (record { notes = ns; meaning = meaning.Literal q l }) k h
over_by p ns (meaning.Thing t) k h = value_over p (record { notes = ns; meaning = meaning.Thing t }) k h
over_by p ns meaning.Unknown k h = value_over p (record { notes = ns; meaning = meaning.Unknown }) k h

pub over_known : (s : Scope) (e : Ex) → KnownScope s → Unbroken (over (place_of e) (judge s freely e)).notes → KnownOver (over (place_of e) (judge s freely e)).ty (over (place_of e) (judge s freely e)).over
over_known s e k h = let j : Judged = judge s freely e in over_by (place_of e) j.notes j.meaning (operand_known s (place_of e) j (judge_known s freely e k tt)) h

for_by : (p q : Place) (i : ℕ) (c : Bool) (f : Option (ℕ → List Stmt → StmtKind)) (b : Option (List Stmt)) → c ≡ false → KnownTyped f → KnownTyped b → KnownTyped (for_typed p i (if c then broken rule.P14 q ∷ [] else []) f b)
for_by p q i true f b e h k = absurd (cc)
for_by p q i false None b e h k = h
for_by p q i false (Some f) None e h k = k
for_by p q i false (Some f) (Some b) e h k = tt

pub for_known : (ls : List Local) (p q : Place) (i : ℕ) (t : Option SourceType) (f : Option (ℕ → List Stmt → StmtKind)) (b : Option (List Stmt)) → Unbroken (turn_differs (status_at ls i) q t) → KnownTyped f → KnownTyped b
    → KnownTyped (for_typed p i (turn_differs (status_at ls i) q t) f b)
for_known ls p q i t f b h k m = for_by p q i (differs (status_at ls i) t) f b (not_held (differs (status_at ls i) t) rule.P14 q h) k m
