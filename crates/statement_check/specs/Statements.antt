-- Statements (Python reference, chapters 7 and 8): typed statements, notes, and the types of variables, which the first assignment or annotation
-- in reading order fixes; P14 and P16.
use Rattle.std.specs.Prelude.{ℕ, Bool, true, false, not, if◌then◌else◌, List, [], ◌∷◌, ◌++◌, Option, Some, None, slice_get}
use Rattle.puya_base.specs.declared.source.Place.{Place}
use Rattle.puya_base.specs.declared.source.Rule.TheVariants as rule
use Rattle.awst.specs.declared.expression.Expr.{Expr}
use Rattle.awst.specs.declared.expression.ExprKind.{ExprKind, out-ExprKind}
use Rattle.awst.specs.declared.expression.ExprKind.TheOpen.{ExprKind-F}
use Rattle.awst.specs.declared.expression.ExprKind.TheVariants as value_kind
use Rattle.awst.specs.declared.expression.Index.TheVariants as item
use Rattle.awst.specs.declared.ty.Ty.{Ty}
use Rattle.awst.specs.declared.statement.Stmt.{Stmt}
use Rattle.awst.specs.declared.statement.StmtKind.{StmtKind}
use Rattle.awst.specs.declared.statement.StmtKind.TheVariants as kind
use Rattle.awst.specs.declared.statement.Target.{Target}
use Rattle.awst.specs.declared.statement.Target.TheVariants as target
use Rattle.awst.specs.declared.statement.Arm.{Arm, roll-Arm}
use Rattle.py_grammar.specs.declared.word.Word.{Word}
use Rattle.py_grammar.specs.declared.type_tree.TypeTree.{TypeTree}
use Rattle.algopy_library.specs.declared.scalar.Scalar.{Scalar}
use Rattle.algopy_library.specs.declared.scalar.Scalar.TheVariants as scalar
use Rattle.algopy_library.specs.declared.operator.Operator.{Operator}
use Rattle.algopy_library.specs.declared.operator.Operation.{Operation}
use Rattle.path_rules.specs.declared.note.Note.{Note}
use Rattle.path_rules.specs.declared.note.NoteArm.{NoteArm}
use Rattle.path_rules.specs.declared.note.Note.TheVariants as note
use Rattle.source_names.specs.declared.types.SourceType.{SourceType}
use Rattle.source_names.specs.declared.types.SourceType.TheVariants as ty
use Rattle.source_names.specs.Types.{same_type, scalar_of, tuple_parts, is_nothing, typed}
use Rattle.source_names.specs.Annotations.{written, of_value}
use Rattle.source_names.specs.Source.{Ex, Exs, no_exprs, an_expr, does, place_of}
use Rattle.meaning_rules.specs.declared.meaning.Hope.{Hope}
use Rattle.meaning_rules.specs.declared.meaning.Hope.TheVariants as hope
use Rattle.meaning_rules.specs.declared.meaning.Expect.TheVariants as expect
use Rattle.meaning_rules.specs.declared.meaning.Typed.{Typed}
use Rattle.meaning_rules.specs.declared.meaning.Lit.{Lit}
use Rattle.meaning_rules.specs.declared.meaning.Lit.TheVariants as lit
use Rattle.meaning_rules.specs.declared.meaning.Range.{Range}
use Rattle.meaning_rules.specs.declared.meaning.Meaning.{Meaning}
use Rattle.meaning_rules.specs.declared.meaning.Meaning.TheVariants as meaning
use Rattle.meaning_rules.specs.declared.scope.Scope.{Scope}
use Rattle.meaning_rules.specs.declared.scope.Local.{Local}
use Rattle.meaning_rules.specs.declared.scope.Status.{Status}
use Rattle.meaning_rules.specs.declared.scope.Status.TheVariants as status
use Rattle.meaning_rules.specs.declared.operand.Operand.{Operand}
use Rattle.meaning_rules.specs.declared.operand.Operand.TheVariants.{Value as a_value, Literal as a_literal, Missing as missing}
use Rattle.meaning_rules.specs.Meanings.{Judged, Valued, broken, broken_all, no_value, value_breaks, a_typed, literal, operand_of, value, required, hoped, context, freely, condition}
use Rattle.meaning_rules.specs.Operations.{local_of, read_status, has_between, operation_at}
use Rattle.expression_check.specs.Variables.{status_at, fixed, local_names}
use Rattle.expression_check.specs.Expressions.{judge}
use Rattle.statement_check.specs.Lines.{Line, skip, leave, again, give, claim, delete, alone, assign, augment, annotate, St, line, if_else, while_do, for_in, Sts, no_stmts, a_stmt, Branches, otherwise, a_branch}
use Rattle.statement_check.specs.Targets.{target_name, unpacked}

-- what is said of statements: the variables behind them, their notes, and what they are where each is known
pub record Done : Type 0 where
  pub locals : List Local
  pub notes : List Note
  pub typed : Option (List Stmt)

abbrev pub seeing : Scope → List Local → Scope
seeing s ls = record { entries = s.entries; constants = s.constants; functions = s.functions; methods = s.methods; myself = s.myself; locals = ls }

abbrev pub stmt : Place → StmtKind → List Stmt
stmt p k = (record { place = p; kind = k }) ∷ []

abbrev pub done : List Local → List Note → Option (List Stmt) → Done
done ls ns t = record { locals = ls; notes = ns; typed = t }

-- a statement of a value, where that is known
abbrev pub of_typed : Place → Option Typed → (Expr → StmtKind) → Option (List Stmt)
of_typed p None own = None
of_typed p (Some t) own = Some (stmt p (own t.expr))

-- ---- variables

abbrev pub status_hope : Status → Hope
status_hope status.Unseen = hope.Free
status_hope (status.Fixed t) = hoped t

-- a value for a variable: of its type, where that is fixed
abbrev pub for_status : Status → Valued → Valued
for_status status.Unseen v = v
for_status (status.Fixed t) v = required t v

abbrev pub type_in : Option Typed → Option SourceType
type_in None = None
type_in (Some t) = Some t.ty

-- ---- targets that are no variables

abbrev pub is_known : Meaning → Bool
is_known meaning.Unknown = false
is_known _ = true

-- P16 on a target that can't be assigned, where its names are known
abbrev pub bad_target : Place → Judged → List Note
bad_target p j = j.notes ++ (if is_known j.meaning then broken rule.P16 p ∷ [] else [])

-- the variable of a target, if it is one
abbrev pub variable_of : Scope → Option Word → Option ℕ
variable_of s None = None
variable_of s (Some w) = local_of s w.name

-- ---- assignments

abbrev pub assigned : List Local → Place → ℕ → Valued → Done
assigned ls p i v =
    let w = for_status (status_at ls i) v in
    done (fixed ls i (type_in w.typed)) (w.notes ++ note.Assign i ∷ []) (of_typed p w.typed (kind.Assign (target.Local i ∷ []) None))

abbrev pub assign_variable : Scope → Place → ℕ → Ex → Done
assign_variable s p i e =
    let h = status_hope (status_at s.locals i) in
    assigned s.locals p i (value h (place_of e) (judge s (context true h) e))

-- the value of a target that can't be assigned is judged by itself
abbrev pub assign_bad : Scope → Ex → Ex → Done
assign_bad s t e =
    done s.locals (bad_target (place_of t) (judge s freely t) ++ (value hope.Unknown (place_of e) (judge s (context true hope.Unknown) e)).notes) None

abbrev pub assign_one : Scope → Ex → Option ℕ → Ex → Done
assign_one s t (Some i) e = assign_variable s (place_of t) i e
assign_one s t None e = assign_bad s t e

-- the targets of an unpacking: P16 on anything but a variable
pub record Slots : Type 0 where
  pub notes : List Note
  pub numbers : List (Option ℕ)

abbrev pub slot_notes : Option ℕ → Place → Judged → List Note
slot_notes (Some i) p j = []
slot_notes None p j = bad_target p j

abbrev pub slots : Scope → Exs → Slots
slots s no_exprs = record { notes = []; numbers = [] }
slots s (an_expr e es) =
    let r = slots s es in
    let i = variable_of s (target_name e) in
    record { notes = slot_notes i (place_of e) (judge s freely e) ++ r.notes; numbers = i ∷ r.numbers }

abbrev pub slot_hope : List Local → Option ℕ → Hope
slot_hope ls None = hope.Unknown
slot_hope ls (Some i) = status_hope (status_at ls i)

abbrev pub slot_hopes : List Local → List (Option ℕ) → List Hope
slot_hopes ls [] = []
slot_hopes ls (i ∷ is) = slot_hope ls i ∷ slot_hopes ls is

abbrev pub slot_fixed : List Local → Option ℕ → Option SourceType → List Local
slot_fixed ls None t = ls
slot_fixed ls (Some i) t = fixed ls i t

abbrev pub slot_assigned : Option ℕ → List Note
slot_assigned None = []
slot_assigned (Some i) = note.Assign i ∷ []

abbrev pub all_assigned : List (Option ℕ) → List Note
all_assigned [] = []
all_assigned (i ∷ is) = slot_assigned i ++ all_assigned is

-- whether a variable may take a value of a type
abbrev pub status_takes : Status → SourceType → Bool
status_takes status.Unseen t = true
status_takes (status.Fixed None) t = true
status_takes (status.Fixed (Some u)) t = same_type u t

abbrev pub slot_takes : List Local → Option ℕ → SourceType → Bool
slot_takes ls None t = true
slot_takes ls (Some i) t = status_takes (status_at ls i) t

-- each variable takes its part, from left to right, and whether each could
pub record Taken : Type 0 where
  pub locals : List Local
  pub all : Bool

abbrev pub taken : List Local → List (Option ℕ) → List SourceType → Taken
taken ls [] [] = record { locals = ls; all = true }
taken ls [] (t ∷ ts) = record { locals = ls; all = false }
taken ls (i ∷ is) [] = let r = taken (slot_fixed ls i None) is [] in record { locals = r.locals; all = false }
taken ls (i ∷ is) (t ∷ ts) =
    let r = taken (slot_fixed ls i (Some t)) is ts in
    record { locals = r.locals; all = if slot_takes ls i t then r.all else false }

abbrev pub none_taken : List Local → List (Option ℕ) → List Local
none_taken ls [] = ls
none_taken ls (i ∷ is) = none_taken (slot_fixed ls i None) is

abbrev pub both_targets : Option ℕ → Option (List Target) → Option (List Target)
both_targets (Some i) (Some ts) = Some (target.Local i ∷ ts)
both_targets (Some i) None = None
both_targets None ts = None

abbrev pub slot_targets : List (Option ℕ) → Option (List Target)
slot_targets [] = Some []
slot_targets (i ∷ is) = both_targets i (slot_targets is)

-- the type of a tuple's first part
abbrev pub first_type : List SourceType → Option Ty
first_type [] = None
first_type (u ∷ us) = Some (typed u)

abbrev pub first_part : Typed → Ty → Expr
first_part t u = record { place = t.expr.place; ty = u; kind = value_kind.Item t.expr (item.Fixed 0) }

abbrev pub unpack_one : Place → Target → Option Ty → Typed → Option (List Stmt)
unpack_one p a None t = None
unpack_one p a (Some u) t = Some (stmt p (kind.Assign (a ∷ []) None (first_part t u)))

-- no target drops the value, one target takes the first part, and several take a part each
abbrev pub unpack_to : Place → List Target → Option Ty → Typed → Option (List Stmt)
unpack_to p [] u t = Some (stmt p (kind.Drop t.expr))
unpack_to p (a ∷ []) u t = unpack_one p a u t
unpack_to p (a ∷ b ∷ as_) u t = Some (stmt p (kind.Assign (a ∷ b ∷ as_) None t.expr))

abbrev pub unpack_typed : Place → Bool → Option (List Target) → Option Ty → Typed → Option (List Stmt)
unpack_typed p true (Some as_) u t = unpack_to p as_ u t
unpack_typed p true None u t = None
unpack_typed p false as_ u t = None

-- P14 on a value that is no tuple of so many parts, or one of which has another type than its variable
abbrev pub unpacked_parts : List Local → Place → List (Option ℕ) → Typed → Option (List SourceType) → Done
unpacked_parts ls p is t None = done (none_taken ls is) (broken rule.P14 t.expr.place ∷ all_assigned is) None
unpacked_parts ls p is t (Some ts) =
    let r = taken ls is ts in
    done r.locals ((if r.all then [] else broken rule.P14 t.expr.place ∷ []) ++ all_assigned is) (unpack_typed p r.all (slot_targets is) (first_type ts) t)

abbrev pub unpacked_value : List Local → Place → List (Option ℕ) → Option Typed → Done
unpacked_value ls p is None = done (none_taken ls is) (all_assigned is) None
unpacked_value ls p is (Some t) = unpacked_parts ls p is t (tuple_parts t.ty)

abbrev pub behind_notes : List Note → Done → Done
behind_notes ns d = done d.locals (ns ++ d.notes) d.typed

abbrev pub unpack_slots : Scope → Place → Slots → Ex → Done
unpack_slots s p r e =
    let v = value hope.Free (place_of e) (judge s (record { expect = expect.Each (slot_hopes s.locals r.numbers); copying = true }) e) in
    behind_notes (r.notes ++ v.notes) (unpacked_value s.locals p r.numbers v.typed)

abbrev pub assign_all : Scope → Ex → Option Exs → Ex → Done
assign_all s t (Some ts) e = unpack_slots s (place_of t) (slots s ts) e
assign_all s t None e = assign_one s t (variable_of s (target_name t)) e

-- ---- augmented assignments

-- the right operand beside a left one of a type
abbrev pub agreed_value : Place → Operator → Typed → Typed → Valued
agreed_value p o a b =
    if has_between (does o) a.ty then (if same_type a.ty b.ty then a_typed b else value_breaks rule.P14 b.expr.place) else value_breaks rule.P14 p

abbrev pub agreed : Place → Operator → Typed → Operand → Valued
agreed p o a (a_value b) = agreed_value p o a b
agreed p o a (a_literal q l) = if has_between (does o) a.ty then literal (hope.Wants a.ty) q l else value_breaks rule.P14 p
agreed p o a missing = no_value

abbrev pub augmented_by : Place → ℕ → Option Operation → Typed → Option (List Stmt)
augmented_by p i None t = None
augmented_by p i (Some o) t = Some (stmt p (kind.Assign (target.Local i ∷ []) (Some o.prim) t.expr))

abbrev pub augmented_when : Place → ℕ → Operator → Typed → Option Typed → Option (List Stmt)
augmented_when p i o a None = None
augmented_when p i o a (Some b) = augmented_by p i (operation_at o (scalar_of a.ty)) b

-- the notes of the right operand's type, and the statement
pub record Augmented : Type 0 where
  pub notes : List Note
  pub typed : Option (List Stmt)

abbrev pub augmented_value : Place → ℕ → Operator → Typed → Operand → Augmented
augmented_value p i o a b = let v = agreed p o a b in record { notes = v.notes; typed = augmented_when p i o a v.typed }

abbrev pub augmented : Place → ℕ → Operator → Operand → Operand → Augmented
augmented p i o (a_value a) b = augmented_value p i o a b
augmented p i o (a_literal q l) b = record { notes = []; typed = None }
augmented p i o missing b = record { notes = []; typed = None }

-- a read of the variable, the right side, the operator
abbrev pub augment_variable : Scope → Place → ℕ → Operator → Ex → Done
augment_variable s p i o e =
    let a = operand_of p (read_status p i (slice_get s.locals i)) in
    let b = operand_of (place_of e) (judge s freely e) in
    let r = augmented p i o a.operand b.operand in
    done (fixed s.locals i None) (a.notes ++ (b.notes ++ (r.notes ++ note.Assign i ∷ []))) r.typed

abbrev pub augment_one : Scope → Ex → Option ℕ → Operator → Ex → Done
augment_one s t (Some i) o e = augment_variable s (place_of t) i o e
augment_one s t None o e = assign_bad s t e

-- ---- annotations

abbrev pub differs : Status → Option SourceType → Bool
differs status.Unseen t = false
differs (status.Fixed None) t = false
differs (status.Fixed (Some u)) None = false
differs (status.Fixed (Some u)) (Some t) = not (same_type u t)

-- P14 on an annotation of another type than the variable has
abbrev pub annotated_again : Status → Place → Option SourceType → List Note
annotated_again t p u = if differs t u then broken rule.P14 p ∷ [] else []

abbrev pub annotation_typed : List Note → Option SourceType → Option (List Stmt)
annotation_typed ns None = None
annotation_typed [] (Some t) = Some []
annotation_typed (n ∷ ns) (Some t) = None

abbrev pub only_when : Option (List Stmt) → Option (List Stmt) → Option (List Stmt)
only_when (Some a) b = b
only_when None b = None

abbrev pub annotated_value : Scope → Place → ℕ → Option (List Stmt) → Option Ex → Done
annotated_value s p i t None = done s.locals [] t
annotated_value s p i t (Some e) = let d = assign_variable s p i e in done d.locals d.notes (only_when t d.typed)

abbrev pub annotate_variable : Scope → Place → ℕ → TypeTree → Option Ex → Done
annotate_variable s p i a e =
    let w = of_value (written s.entries (local_names s.locals) a) in
    let ns = annotated_again (status_at s.locals i) w.place w.ty in
    behind_notes (broken_all w.faults ++ ns) (annotated_value (seeing s (fixed s.locals i w.ty)) p i (annotation_typed ns w.ty) e)

abbrev pub value_notes : Scope → Option Ex → List Note
value_notes s None = []
value_notes s (Some e) = (value hope.Unknown (place_of e) (judge s (context true hope.Unknown) e)).notes

-- P16 on an annotation of anything but a variable
abbrev pub annotate_bad : Scope → Ex → TypeTree → Option Ex → Done
annotate_bad s t a e =
    done s.locals ((judge s freely t).notes ++ (broken rule.P16 (place_of t) ∷ (broken_all (of_value (written s.entries (local_names s.locals) a)).faults ++ value_notes s e))) None

abbrev pub annotate_one : Scope → Ex → Option ℕ → TypeTree → Option Ex → Done
annotate_one s t (Some i) a e = annotate_variable s (place_of t) i a e
annotate_one s t None a e = annotate_bad s t a e

-- ---- the other statements of one line

abbrev pub returned_typed : Place → Option Typed → Option (List Stmt)
returned_typed p None = None
returned_typed p (Some t) = Some (stmt p (kind.Return (Some t.expr)))

abbrev pub nothing_returned : List Local → Place → Bool → Done
nothing_returned ls p true = done ls (note.Return ∷ []) (Some (stmt p (kind.Return None)))
nothing_returned ls p false = done ls (broken rule.P14 p ∷ note.Return ∷ []) None

-- P14 on a return without a value in a function that has a result, and on a value of another type
abbrev pub return_nothing : List Local → Option SourceType → Place → Done
return_nothing ls None p = done ls (note.Return ∷ []) None
return_nothing ls (Some t) p = nothing_returned ls p (is_nothing t)

abbrev pub return_value : Scope → Option SourceType → Place → Ex → Done
return_value s r p e =
    let v = required r (value (hoped r) (place_of e) (judge s (context true (hoped r)) e)) in
    done s.locals (v.notes ++ note.Return ∷ []) (returned_typed p v.typed)

-- P14 on the second part of `assert`, where it is no text literal
abbrev pub text_notes : Place → Operand → List Note
text_notes p (a_literal q (lit.Text b)) = []
text_notes p (a_literal q l) = broken rule.P14 q ∷ []
text_notes p (a_value t) = broken rule.P14 p ∷ []
text_notes p missing = []

abbrev pub message_notes : Scope → Option Ex → List Note
message_notes s None = []
message_notes s (Some e) = let o = operand_of (place_of e) (judge s freely e) in o.notes ++ text_notes (place_of e) o.operand

abbrev pub is_text : Meaning → Bool
is_text (meaning.Literal p (lit.Text b)) = true
is_text _ = false

abbrev pub message_is_text : Scope → Option Ex → Bool
message_is_text s None = true
message_is_text s (Some e) = is_text (judge s freely e).meaning

abbrev pub claimed : Place → Bool → Option Typed → Option (List Stmt)
claimed p true t = of_typed p t kind.Assert
claimed p false t = None

abbrev pub claim_that : Scope → Place → Ex → Option Ex → Done
claim_that s p e m =
    let c = condition (place_of e) (judge s freely e) in
    done s.locals (c.notes ++ message_notes s m) (claimed p (message_is_text s m) c.typed)

abbrev pub alone_literal : List Local → Place → Lit → Done
alone_literal ls p (lit.Text b) = done ls [] (Some [])
alone_literal ls p l = done ls (broken rule.P14 p ∷ []) None

-- a text literal alone does nothing; P14 on another literal, and on what is no value
abbrev pub alone_says : List Local → Place → Meaning → Done
alone_says ls p (meaning.Value t) = done ls [] (Some (stmt p (kind.Drop t.expr)))
alone_says ls p (meaning.Literal q l) = alone_literal ls q l
alone_says ls p (meaning.Thing t) = done ls (broken rule.P14 p ∷ []) None
alone_says ls p (meaning.Range r) = done ls (broken rule.P14 p ∷ []) None
alone_says ls p meaning.Unknown = done ls [] None

abbrev pub stand_alone : Scope → Ex → Done
stand_alone s e = let j = judge s freely e in behind_notes j.notes (alone_says s.locals (place_of e) j.meaning)

abbrev pub check_line : Scope → Option SourceType → Line → Done
check_line s r skip = done s.locals [] (Some [])
check_line s r (leave p) = done s.locals (note.Break p ∷ []) (Some (stmt p kind.Break))
check_line s r (again p) = done s.locals (note.Continue p ∷ []) (Some (stmt p kind.Continue))
check_line s r (give p None) = return_nothing s.locals r p
check_line s r (give p (Some e)) = return_value s r p e
check_line s r (claim p e m) = claim_that s p e m
check_line s r (delete p e) = done s.locals (bad_target (place_of e) (judge s freely e)) None
check_line s r (alone e) = stand_alone s e
check_line s r (assign t e) = assign_all s t (unpacked t) e
check_line s r (augment t o e) = augment_one s t (variable_of s (target_name t)) o e
check_line s r (annotate t a e) = annotate_one s t (variable_of s (target_name t)) a e

-- ---- compound statements

abbrev pub is_true_kind : ExprKind → Bool
is_true_kind k = elim (out-ExprKind k) as (λ _. Bool) [ ExprKind-F.Flag b ↦ b | _ ↦ false ]

abbrev pub is_true : Option Typed → Bool
is_true None = false
is_true (Some t) = is_true_kind t.expr.kind

abbrev pub behind_done : Done → Done → Done
behind_done d e = done e.locals (d.notes ++ e.notes) (elim d.typed [ None ↦ None | Some a ↦ elim e.typed [ None ↦ None | Some b ↦ Some (a ++ b) ] ])

-- the arms of an `if`
pub record Armed : Type 0 where
  pub locals : List Local
  pub arms : List NoteArm
  pub rest : List Note
  pub typed_arms : Option (List Arm)
  pub typed_rest : Option (List Stmt)

abbrev pub arm_typed : Option Typed → Option (List Stmt) → Option (List Arm) → Option (List Arm)
arm_typed (Some c) (Some b) (Some as_) = Some (roll-Arm (record { condition = c.expr; body = b }) ∷ as_)
arm_typed (Some c) (Some b) None = None
arm_typed (Some c) None as_ = None
arm_typed None b as_ = None

abbrev pub with_arm : Valued → Done → Armed → Armed
with_arm c d r =
    record { locals = r.locals; arms = (record { test = c.notes; always = is_true c.typed; body = d.notes }) ∷ r.arms; rest = r.rest; typed_arms = arm_typed c.typed d.typed r.typed_arms; typed_rest = r.typed_rest }

abbrev pub rest_of : Done → Armed
rest_of d = record { locals = d.locals; arms = []; rest = d.notes; typed_arms = Some []; typed_rest = d.typed }

abbrev pub if_typed : Place → Option (List Arm) → Option (List Stmt) → Option (List Stmt)
if_typed p (Some as_) (Some b) = Some (stmt p (kind.If as_ b))
if_typed p (Some as_) None = None
if_typed p None b = None

abbrev pub an_if : Place → Armed → Done
an_if p r = done r.locals (note.If r.arms r.rest ∷ []) (if_typed p r.typed_arms r.typed_rest)

abbrev pub while_typed : Place → Option Typed → Option (List Stmt) → Option (List Stmt)
while_typed p (Some c) (Some b) = Some (stmt p (kind.While c.expr b))
while_typed p (Some c) None = None
while_typed p None b = None

abbrev pub a_while : Place → Valued → Done → Done
a_while p c d = done d.locals (note.Loop c.notes (not (is_true c.typed)) d.notes ∷ []) (while_typed p c.typed d.typed)

-- what a `for` goes over: the type of its variable, and the statement over its body
pub record Over : Type 0 where
  pub notes : List Note
  pub ty : Option SourceType
  pub over : Option (ℕ → List Stmt → StmtKind)

abbrev pub over_nothing : List Note → Over
over_nothing ns = record { notes = ns; ty = None; over = None }

abbrev pub over_range : Range → Over
over_range r = record { notes = []; ty = Some (ty.Scalar scalar.UInt64); over = Some (λ i b. kind.Range i r.start r.stop r.step b) }

abbrev pub over_scalar : Typed → Option Scalar → Over
over_scalar t (Some scalar.Bytes) = record { notes = []; ty = Some (ty.Scalar scalar.Bytes); over = Some (λ i b. kind.Each i t.expr b) }
over_scalar t _ = over_nothing (broken rule.P14 t.expr.place ∷ [])

-- P14 on what can't be gone over: a literal has no type there
abbrev pub over_operand : Operand → Over
over_operand (a_value t) = over_scalar t (scalar_of t.ty)
over_operand (a_literal q l) = over_nothing (broken rule.P14 q ∷ [])
over_operand missing = over_nothing []

abbrev pub over_value : Place → Judged → Over
over_value p j = let o = operand_of p j in let r = over_operand o.operand in record { notes = o.notes ++ r.notes; ty = r.ty; over = r.over }

abbrev pub over : Place → Judged → Over
over p j = elim j.meaning [
  | meaning.Range r ↦ (let o = over_range r in record { notes = j.notes; ty = o.ty; over = o.over })
  | meaning.Value t ↦ over_value p j
  | meaning.Literal q l ↦ over_value p j
  | meaning.Thing t ↦ over_value p j
  | meaning.Unknown ↦ over_value p j
]

abbrev pub turn_differs : Status → Place → Option SourceType → List Note
turn_differs t p u = if differs t u then broken rule.P14 p ∷ [] else []

abbrev pub for_typed : Place → ℕ → List Note → Option (ℕ → List Stmt → StmtKind) → Option (List Stmt) → Option (List Stmt)
for_typed p i [] (Some k) (Some b) = Some (stmt p (k i b))
for_typed p i _ _ _ = None

-- each turn assigns the variable, which counts as unassigned behind the loop; P14 at it where it has another type
abbrev pub a_for : List Local → Place → Place → ℕ → Over → (List Local → Done) → Done
a_for ls p q i o body =
    let ns = turn_differs (status_at ls i) q o.ty in
    let d = body (fixed ls i o.ty) in
    done d.locals (o.notes ++ (ns ++ (note.Loop [] true (note.Assign i ∷ d.notes) ∷ note.Forget i ∷ []))) (for_typed p i ns o.over d.typed)

abbrev pub bad_for : Place → Over → Done → Done
bad_for q o d = done d.locals (broken rule.P16 q ∷ (o.notes ++ (note.Loop [] true d.notes ∷ []))) None

-- `self` is no variable: P16 at it
abbrev pub for_parts : List Local → Place → Word → Option ℕ → Over → (List Local → Done) → Done
for_parts ls p w (Some i) o body = a_for ls p w.place i o body
for_parts ls p w None o body = bad_for w.place o (body ls)

abbrev mutual
  pub check : Scope → Option SourceType → List Local → St → Done
  check s r ls (line l) = check_line (seeing s ls) r l
  check s r ls (if_else p bs) = an_if p (check_branches s r ls bs)
  check s r ls (while_do p e b) = a_while p (condition (place_of e) (judge (seeing s ls) freely e)) (checks s r ls b)
  check s r ls (for_in p w e b) = for_parts ls p w (local_of (seeing s ls) w.name) (over (place_of e) (judge (seeing s ls) freely e)) (λ ms. checks s r ms b)

  pub checks : Scope → Option SourceType → List Local → Sts → Done
  checks s r ls no_stmts = done ls [] (Some [])
  checks s r ls (a_stmt t ss) = let d = check s r ls t in behind_done d (checks s r d.locals ss)

  pub check_branches : Scope → Option SourceType → List Local → Branches → Armed
  check_branches s r ls (otherwise b) = rest_of (checks s r ls b)
  check_branches s r ls (a_branch e b bs) =
      let c = condition (place_of e) (judge (seeing s ls) freely e) in
      let d = checks s r ls b in
      with_arm c d (check_branches s r d.locals bs)
