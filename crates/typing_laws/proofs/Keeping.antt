-- The types of variables are types of values, as statements go on.
use Rattle.std.proofs.Common.{◌≡◌, ℕ, Bool, true, false, List, [], ◌∷◌, Option, Some, None, refl}
use Rattle.puya_base.specs.declared.source.Place.{Place}
use Rattle.py_grammar.specs.declared.word.Word.{Word}
use Rattle.py_grammar.specs.declared.type_tree.TypeTree.{TypeTree}
use Rattle.awst.specs.declared.statement.Stmt.{Stmt}
use Rattle.awst.specs.Sound.{Names}
use Rattle.algopy_library.specs.declared.scalar.Scalar.{Scalar}
use Rattle.algopy_library.specs.declared.scalar.Scalar.TheVariants as scalar
use Rattle.algopy_library.specs.declared.operator.Operator.{Operator}
use Rattle.path_rules.specs.declared.note.Note.{Note}
use Rattle.source_names.specs.declared.types.SourceType.{SourceType}
use Rattle.source_names.specs.declared.types.SourceType.TheVariants as ty
use Rattle.source_names.specs.Types.{is_nothing, tuple_parts, scalar_of}
use Rattle.source_names.specs.Annotations.{Written, written, of_value}
use Rattle.source_names.specs.Source.{Ex, Exs, place_of}
use Rattle.meaning_rules.specs.declared.meaning.Hope.TheVariants as hope
use Rattle.meaning_rules.specs.declared.meaning.Expect.TheVariants as expect
use Rattle.meaning_rules.specs.declared.meaning.Typed.{Typed}
use Rattle.meaning_rules.specs.declared.meaning.Lit.{Lit}
use Rattle.meaning_rules.specs.declared.meaning.Lit.TheVariants as lit
use Rattle.meaning_rules.specs.declared.meaning.Meaning.{Meaning}
use Rattle.meaning_rules.specs.declared.meaning.Meaning.TheVariants as meaning
use Rattle.meaning_rules.specs.declared.operand.Operand.{Operand}
use Rattle.meaning_rules.specs.declared.operand.Operand.TheVariants.{Value as a_value, Literal as a_literal, Missing as missing}
use Rattle.meaning_rules.specs.declared.scope.Scope.{Scope}
use Rattle.meaning_rules.specs.declared.scope.Local.{Local}
use Rattle.meaning_rules.specs.Meanings.{Judged, Valued, freely, value, context, operand_of}
use Rattle.meaning_rules.specs.Operations.{local_of}
use Rattle.expression_check.specs.Expressions.{judge}
use Rattle.expression_check.specs.Variables.{fixed, status_at, local_names}
use Rattle.statement_check.specs.Lines.{Line, skip, leave, again, give, claim, delete, alone, assign, augment, annotate, St, line, if_else, while_do, for_in, Sts, no_stmts, a_stmt, Branches, otherwise, a_branch}
use Rattle.statement_check.specs.Targets.{target_name, unpacked}
use Rattle.statement_check.specs.Statements.{Slots, check_line, check, checks, check_branches, seeing, nothing_returned, return_nothing, alone_literal, alone_says, slot_fixed, taken, none_taken, unpacked_parts, unpacked_value, unpack_slots, slots, slot_hopes, assign_variable, assign_all, assign_one, variable_of, status_hope, for_status, type_in, augment_one, annotated_value, annotate_one, annotation_typed, annotated_again, Over, over_scalar, over_operand, over, for_parts}
use Rattle.typing_laws.proofs.Good.{Always, EachKept, GoodNames, GoodScope, GoodOption, GoodValued, Settled, KeptLocals}
use Rattle.typing_laws.proofs.TypeLaws.{kept_scalar, kept_parts}
use Rattle.typing_laws.proofs.Fixing.{KeptOption, kept_none, kept_some, fixed_keeps}
use Rattle.typing_laws.proofs.Growing.{settled_before, fixed_later, line_later, checks_later, branches_later}
use Rattle.typing_laws.proofs.Annotated.{annotation_kept}
use Rattle.typing_laws.proofs.Anywhere.{anywhere, names_at, scope_now, judged_value, option_given, for_status_good, type_kept}

-- ---- unpackings

slot_keeps : (ls : List Local) (i : Option ℕ) (t : Option SourceType) → KeptLocals ls → KeptOption t → KeptLocals (slot_fixed ls i t)
slot_keeps ls None t k h = k
slot_keeps ls (Some i) t k h = fixed_keeps ls i t k h

none_keeps : (ls : List Local) (is : List (Option ℕ)) → KeptLocals ls → KeptLocals (none_taken ls is)
none_keeps ls [] k = k
none_keeps ls (i ∷ is) k = none_keeps (slot_fixed ls i None) is (slot_keeps ls i None k kept_none)

taken_keeps : (ls : List Local) (is : List (Option ℕ)) (ts : List SourceType) → KeptLocals ls → EachKept ts → KeptLocals (taken ls is ts).locals
taken_keeps ls [] [] k h = k
taken_keeps ls [] (t ∷ ts) k h = k
taken_keeps ls (i ∷ is) [] k h = taken_keeps (slot_fixed ls i None) is [] (slot_keeps ls i None k kept_none) tt
taken_keeps ls (i ∷ is) (t ∷ ts) k h = taken_keeps (slot_fixed ls i (Some t)) is ts (slot_keeps ls i (Some t) k (kept_some t h.0)) h.1

parts_keep : (names : Names) (ls : List Local) (p : Place) (is : List (Option ℕ)) (t : Typed) (ts : Option (List SourceType)) → KeptLocals ls → GoodOption (anywhere names) (Some t) → tuple_parts t.ty ≡ ts
    → KeptLocals (unpacked_parts ls p is t ts).locals
parts_keep names ls p is t None k g e = none_keeps ls is k
parts_keep names ls p is t (Some ts) k g e = taken_keeps ls is ts k (kept_parts t.ty ts e g.1)

unpacked_keeps : (names : Names) (ls : List Local) (p : Place) (is : List (Option ℕ)) (t : Option Typed) → KeptLocals ls → GoodOption (anywhere names) t → KeptLocals (unpacked_value ls p is t).locals
unpacked_keeps names ls p is None k g = none_keeps ls is k
unpacked_keeps names ls p is (Some t) k g = parts_keep names ls p is t (tuple_parts t.ty) k g refl

unpack_keeps : (names : Names) (s : Scope) (p : Place) (r : Slots) (e : Ex) → GoodScope names s → KeptLocals s.locals → KeptLocals (unpack_slots s p r e).locals
unpack_keeps names s p r e g k =
    let v : Valued = value hope.Free (place_of e) (judge s (record { expect = expect.Each (slot_hopes s.locals r.numbers); copying = true }) e) in
    unpacked_keeps names s.locals p r.numbers v.typed k (option_given names v (judged_value names s hope.Free (place_of e) (record { expect = expect.Each (slot_hopes s.locals r.numbers); copying = true }) e g))

-- ---- statements of one line

pub variable_keeps : (names : Names) (s : Scope) (p : Place) (i : ℕ) (e : Ex) → GoodScope names s → KeptLocals s.locals → KeptLocals (assign_variable s p i e).locals
variable_keeps names s p i e g k =
    let v : Valued = value (status_hope (status_at s.locals i)) (place_of e) (judge s (context true (status_hope (status_at s.locals i))) e) in
    let w : Valued = for_status (status_at s.locals i) v in
    let h : GoodValued (anywhere names) Always v = judged_value names s (status_hope (status_at s.locals i)) (place_of e) (context true (status_hope (status_at s.locals i))) e g in
    fixed_keeps s.locals i (type_in w.typed) k (type_kept (anywhere names) w.typed (option_given names w (for_status_good (anywhere names) (status_at s.locals i) v h)))

one_keeps : (names : Names) (s : Scope) (t e : Ex) (i : Option ℕ) → GoodScope names s → KeptLocals s.locals → KeptLocals (assign_one s t i e).locals
one_keeps names s t e None g k = k
one_keeps names s t e (Some i) g k = variable_keeps names s (place_of t) i e g k

all_keep : (names : Names) (s : Scope) (t e : Ex) (ts : Option Exs) → GoodScope names s → KeptLocals s.locals → KeptLocals (assign_all s t ts e).locals
all_keep names s t e None g k = one_keeps names s t e (variable_of s (target_name t)) g k
all_keep names s t e (Some ts) g k = unpack_keeps names s (place_of t) (slots s ts) e g k

augment_keeps : (s : Scope) (t : Ex) (i : Option ℕ) (o : Operator) (e : Ex) → KeptLocals s.locals → KeptLocals (augment_one s t i o e).locals
augment_keeps s t None o e k = k
augment_keeps s t (Some i) o e k = fixed_keeps s.locals i None k kept_none

annotated_keeps : (names : Names) (s : Scope) (p : Place) (i : ℕ) (t : Option (List Stmt)) (e : Option Ex) → GoodNames names s → KeptLocals s.locals → Settled names (annotated_value s p i t e).locals
    → KeptLocals (annotated_value s p i t e).locals
annotated_keeps names s p i t None g k h = k
annotated_keeps names s p i t (Some e) g k h =
    variable_keeps names s p i e (scope_now names s g k (settled_before names s.locals (assign_variable s p i e).locals (fixed_later s.locals i _) h)) k

annotate_keeps : (names : Names) (s : Scope) (t : Ex) (i : Option ℕ) (a : TypeTree) (e : Option Ex) → GoodNames names s → KeptLocals s.locals → Settled names (annotate_one s t i a e).locals
    → KeptLocals (annotate_one s t i a e).locals
annotate_keeps names s t None a e g k h = k
annotate_keeps names s t (Some i) a e g k h =
    let w : Written = of_value (written s.entries (local_names s.locals) a) in
    annotated_keeps names (seeing s (fixed s.locals i w.ty)) (place_of t) i (annotation_typed (annotated_again (status_at s.locals i) w.place w.ty) w.ty) e
    (names_at names s (fixed s.locals i w.ty) g) (fixed_keeps s.locals i w.ty k (λ u z. annotation_kept s.entries (local_names s.locals) a u z)) h

nothing_keeps : (ls : List Local) (p : Place) (b : Bool) → KeptLocals ls → KeptLocals (nothing_returned ls p b).locals
nothing_keeps ls p true k = k
nothing_keeps ls p false k = k

return_keeps : (ls : List Local) (r : Option SourceType) (p : Place) → KeptLocals ls → KeptLocals (return_nothing ls r p).locals
return_keeps ls None p k = k
return_keeps ls (Some t) p k = nothing_keeps ls p (is_nothing t) k

literal_keeps : (ls : List Local) (p : Place) (l : Lit) → KeptLocals ls → KeptLocals (alone_literal ls p l).locals
literal_keeps ls p (lit.Number n) k = k
literal_keeps ls p (lit.Text b) k = k
literal_keeps ls p (lit.Bytes b) k = k

alone_keeps : (ls : List Local) (p : Place) (m : Meaning) → KeptLocals ls → KeptLocals (alone_says ls p m).locals
alone_keeps ls p (meaning.Value t) k = k
alone_keeps ls p (meaning.Literal q l) k = literal_keeps ls q l k
alone_keeps ls p (meaning.Thing t) k = k
alone_keeps ls p (meaning.Range r) k = k
alone_keeps ls p meaning.Unknown k = k

pub line_keeps : (names : Names) (s : Scope) (r : Option SourceType) (l : Line) → GoodNames names s → KeptLocals s.locals → Settled names (check_line s r l).locals → KeptLocals (check_line s r l).locals
line_keeps names s r skip g k h = k
line_keeps names s r (leave p) g k h = k
line_keeps names s r (again p) g k h = k
line_keeps names s r (give p None) g k h = return_keeps s.locals r p k
line_keeps names s r (give p (Some e)) g k h = k
line_keeps names s r (claim p e m) g k h = k
line_keeps names s r (delete p e) g k h = k
line_keeps names s r (alone e) g k h = alone_keeps s.locals (place_of e) (judge s freely e).meaning k
line_keeps names s r (assign t e) g k h = all_keep names s t e (unpacked t) (scope_now names s g k (settled_before names s.locals (check_line s r (assign t e)).locals (line_later s r (assign t e)) h)) k
line_keeps names s r (augment t o e) g k h = augment_keeps s t (variable_of s (target_name t)) o e k
line_keeps names s r (annotate t a e) g k h = annotate_keeps names s t (variable_of s (target_name t)) a e g k h

-- ---- what a `for` goes over

scalar_over : (t : Typed) (s : Option Scalar) → KeptOption (over_scalar t s).ty
scalar_over t None = kept_none
scalar_over t (Some scalar.UInt64) = kept_none
scalar_over t (Some scalar.Bool) = kept_none
scalar_over t (Some scalar.Bytes) = kept_some (ty.Scalar scalar.Bytes) (kept_scalar scalar.Bytes)
scalar_over t (Some scalar.Text) = kept_none
scalar_over t (Some scalar.Account) = kept_none

operand_over : (o : Operand) → KeptOption (over_operand o).ty
operand_over (a_value t) = scalar_over t (scalar_of t.ty)
operand_over (a_literal q l) = kept_none
operand_over missing = kept_none

over_by : (p : Place) (ns : List Note) (m : Meaning) → KeptOption (over p (record { notes = ns; meaning = m })).ty
over_by p ns (meaning.Range r) = kept_some (ty.Scalar scalar.UInt64) (kept_scalar scalar.UInt64)
over_by p ns (meaning.Value t) = operand_over (operand_of p (record { notes = ns; meaning = meaning.Value t })).operand
over_by p ns (meaning.Literal q l) = operand_over (operand_of p (record { notes = ns; meaning = meaning.Literal q l })).operand
over_by p ns (meaning.Thing t) = operand_over (operand_of p (record { notes = ns; meaning = meaning.Thing t })).operand
over_by p ns meaning.Unknown = operand_over (operand_of p (record { notes = ns; meaning = meaning.Unknown })).operand

pub over_keeps : (p : Place) (j : Judged) → KeptOption (over p j).ty
over_keeps p j = over_by p j.notes j.meaning

-- ---- compound statements

for_keeps : (names : Names) (s : Scope) (r : Option SourceType) (ls : List Local) (p : Place) (w : Word) (i : Option ℕ) (o : Over) (b : Sts) → KeptOption o.ty
    → ((ms : List Local) → KeptLocals ms → Settled names (checks s r ms b).locals → KeptLocals (checks s r ms b).locals)
    → KeptLocals ls → Settled names (for_parts ls p w i o (λ ms. checks s r ms b)).locals → KeptLocals (for_parts ls p w i o (λ ms. checks s r ms b)).locals
for_keeps names s r ls p w None o b q f k h = f ls k h
for_keeps names s r ls p w (Some i) o b q f k h = f (fixed ls i o.ty) (fixed_keeps ls i o.ty k q) h

mutual
  pub check_keeps : (names : Names) (s : Scope) (r : Option SourceType) (ls : List Local) (t : St) → GoodNames names s → KeptLocals ls → Settled names (check s r ls t).locals → KeptLocals (check s r ls t).locals
  check_keeps names s r ls (line l) g k h = line_keeps names (seeing s ls) r l (names_at names s ls g) k h
  check_keeps names s r ls (if_else p bs) g k h = branches_keep names s r ls bs g k h
  check_keeps names s r ls (while_do p e b) g k h = checks_keep names s r ls b g k h
  check_keeps names s r ls (for_in p w e b) g k h =
      for_keeps names s r ls p w (local_of (seeing s ls) w.name) (over (place_of e) (judge (seeing s ls) freely e)) b (over_keeps (place_of e) (judge (seeing s ls) freely e))
      (λ ms. λ k. λ h. checks_keep names s r ms b g k h) k h

  pub checks_keep : (names : Names) (s : Scope) (r : Option SourceType) (ls : List Local) (b : Sts) → GoodNames names s → KeptLocals ls → Settled names (checks s r ls b).locals → KeptLocals (checks s r ls b).locals
  checks_keep names s r ls no_stmts g k h = k
  checks_keep names s r ls (a_stmt t ss) g k h =
      checks_keep names s r (check s r ls t).locals ss g
      (check_keeps names s r ls t g k (settled_before names (check s r ls t).locals (checks s r (check s r ls t).locals ss).locals (checks_later s r (check s r ls t).locals ss) h)) h

  pub branches_keep : (names : Names) (s : Scope) (r : Option SourceType) (ls : List Local) (b : Branches) → GoodNames names s → KeptLocals ls → Settled names (check_branches s r ls b).locals → KeptLocals (check_branches s r ls b).locals
  branches_keep names s r ls (otherwise b) g k h = checks_keep names s r ls b g k h
  branches_keep names s r ls (a_branch e b bs) g k h =
      branches_keep names s r (checks s r ls b).locals bs g
      (checks_keep names s r ls b g k (settled_before names (checks s r ls b).locals (check_branches s r (checks s r ls b).locals bs).locals (branches_later s r (checks s r ls b).locals bs) h)) h
