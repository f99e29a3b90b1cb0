-- A variable whose type is fixed keeps it as statements go on.
use Rattle.std.proofs.Common.{ℕ, Bool, true, false, List, [], ◌∷◌, Option, Some, None, refl, ap, ◌∙◌}
use Rattle.std.specs.Prelude.{slice_get}
use Rattle.puya_base.specs.declared.source.Place.{Place}
use Rattle.py_grammar.specs.declared.word.Word.{Word}
use Rattle.py_grammar.specs.declared.type_tree.TypeTree.{TypeTree}
use Rattle.awst.specs.declared.statement.Stmt.{Stmt}
use Rattle.source_names.specs.declared.types.SourceType.{SourceType}
use Rattle.source_names.specs.Types.{is_nothing, tuple_parts}
use Rattle.source_names.specs.Annotations.{Written, written, of_value}
use Rattle.source_names.specs.Source.{Ex, Exs, place_of}
use Rattle.meaning_rules.specs.declared.meaning.Hope.TheVariants as hope
use Rattle.meaning_rules.specs.declared.meaning.Expect.TheVariants as expect
use Rattle.meaning_rules.specs.declared.meaning.Typed.{Typed}
use Rattle.meaning_rules.specs.declared.meaning.Lit.{Lit}
use Rattle.meaning_rules.specs.declared.meaning.Lit.TheVariants as lit
use Rattle.meaning_rules.specs.declared.meaning.Meaning.{Meaning}
use Rattle.meaning_rules.specs.declared.meaning.Meaning.TheVariants as meaning
use Rattle.meaning_rules.specs.declared.scope.Scope.{Scope}
use Rattle.meaning_rules.specs.declared.scope.Local.{Local}
use Rattle.meaning_rules.specs.declared.scope.Status.TheVariants as status
use Rattle.meaning_rules.specs.Meanings.{freely, value}
use Rattle.meaning_rules.specs.Operations.{local_of}
use Rattle.algopy_library.specs.declared.operator.Operator.{Operator}
use Rattle.awst.specs.Sound.{Names}
use Rattle.expression_check.specs.Expressions.{judge}
use Rattle.expression_check.specs.Variables.{fixed, status_at, local_names}
use Rattle.statement_check.specs.Lines.{Line, skip, leave, again, give, claim, delete, alone, assign, augment, annotate, St, line, if_else, while_do, for_in, Sts, no_stmts, a_stmt, Branches, otherwise, a_branch}
use Rattle.statement_check.specs.Targets.{target_name, unpacked}
use Rattle.statement_check.specs.Statements.{Slots, check_line, check, checks, check_branches, seeing, nothing_returned, return_nothing, alone_literal, alone_says, slot_fixed, taken, none_taken, unpacked_parts, unpacked_value, unpack_slots, slots, slot_hopes, assign_all, assign_one, variable_of, augment_one, annotated_value, annotate_one, annotation_typed, annotated_again, Over, over, for_parts}
use Rattle.typing_laws.proofs.Good.{Later, Stays, Settled, SettledType, KeptLocals, Sees}
use Rattle.typing_laws.proofs.Fixing.{later_by}

pub later_itself : (ls : List Local) → Later ls ls
later_itself ls = record { same_length = refl; stays = λ i l t h e. record { local = l; at = h; status = e } }

pub later_then : (ls ms ns : List Local) → Later ls ms → Later ms ns → Later ls ns
later_then ls ms ns h k = record {
  same_length = k.same_length ∙ h.same_length;
  stays = λ i l t a e. let s : Stays ms i t = h.stays i l t a e in k.stays i s.local t s.at s.status;
}

pub fixed_later : (ls : List Local) (i : ℕ) (t : Option SourceType) → Later ls (fixed ls i t)
fixed_later ls i t = later_by ls i t (slice_get ls i) refl

-- ---- unpackings

slot_later : (ls : List Local) (i : Option ℕ) (t : Option SourceType) → Later ls (slot_fixed ls i t)
slot_later ls None t = later_itself ls
slot_later ls (Some i) t = fixed_later ls i t

pub taken_later : (ls : List Local) (is : List (Option ℕ)) (ts : List SourceType) → Later ls (taken ls is ts).locals
taken_later ls [] [] = later_itself ls
taken_later ls [] (t ∷ ts) = later_itself ls
taken_later ls (i ∷ is) [] = later_then ls (slot_fixed ls i None) (taken ls (i ∷ is) []).locals (slot_later ls i None) (taken_later (slot_fixed ls i None) is [])
taken_later ls (i ∷ is) (t ∷ ts) = later_then ls (slot_fixed ls i (Some t)) (taken ls (i ∷ is) (t ∷ ts)).locals (slot_later ls i (Some t)) (taken_later (slot_fixed ls i (Some t)) is ts)

none_later : (ls : List Local) (is : List (Option ℕ)) → Later ls (none_taken ls is)
none_later ls [] = later_itself ls
none_later ls (i ∷ is) = later_then ls (slot_fixed ls i None) (none_taken (slot_fixed ls i None) is) (slot_later ls i None) (none_later (slot_fixed ls i None) is)

parts_later : (ls : List Local) (p : Place) (is : List (Option ℕ)) (t : Typed) (ts : Option (List SourceType)) → Later ls (unpacked_parts ls p is t ts).locals
parts_later ls p is t None = none_later ls is
parts_later ls p is t (Some ts) = taken_later ls is ts

unpacked_later : (ls : List Local) (p : Place) (is : List (Option ℕ)) (t : Option Typed) → Later ls (unpacked_value ls p is t).locals
unpacked_later ls p is None = none_later ls is
unpacked_later ls p is (Some t) = parts_later ls p is t (tuple_parts t.ty)

unpack_later : (s : Scope) (p : Place) (r : Slots) (e : Ex) → Later s.locals (unpack_slots s p r e).locals
unpack_later s p r e = unpacked_later s.locals p r.numbers (value hope.Free (place_of e) (judge s (record { expect = expect.Each (slot_hopes s.locals r.numbers); copying = true }) e)).typed

-- ---- statements of one line

one_later : (s : Scope) (t e : Ex) (i : Option ℕ) → Later s.locals (assign_one s t i e).locals
one_later s t e None = later_itself s.locals
one_later s t e (Some i) = fixed_later s.locals i _

all_later : (s : Scope) (t e : Ex) (ts : Option Exs) → Later s.locals (assign_all s t ts e).locals
all_later s t e None = one_later s t e (variable_of s (target_name t))
all_later s t e (Some ts) = unpack_later s (place_of t) (slots s ts) e

augment_later : (s : Scope) (t : Ex) (i : Option ℕ) (o : Operator) (e : Ex) → Later s.locals (augment_one s t i o e).locals
augment_later s t None o e = later_itself s.locals
augment_later s t (Some i) o e = fixed_later s.locals i None

-- the variables behind an annotation, where its value is judged
pub value_later : (s : Scope) (p : Place) (i : ℕ) (t : Option (List Stmt)) (e : Option Ex) → Later s.locals (annotated_value s p i t e).locals
value_later s p i t None = later_itself s.locals
value_later s p i t (Some e) = fixed_later s.locals i _

variable_later : (s : Scope) (p : Place) (i : ℕ) (w : Written) (t : Option (List Stmt)) (e : Option Ex) → Later s.locals (annotated_value (seeing s (fixed s.locals i w.ty)) p i t e).locals
variable_later s p i w t e =
    later_then s.locals (fixed s.locals i w.ty) (annotated_value (seeing s (fixed s.locals i w.ty)) p i t e).locals (fixed_later s.locals i w.ty) (value_later (seeing s (fixed s.locals i w.ty)) p i t e)

annotate_later : (s : Scope) (t : Ex) (i : Option ℕ) (a : TypeTree) (e : Option Ex) → Later s.locals (annotate_one s t i a e).locals
annotate_later s t None a e = later_itself s.locals
annotate_later s t (Some i) a e =
    let w : Written = of_value (written s.entries (local_names s.locals) a) in
    variable_later s (place_of t) i w (annotation_typed (annotated_again (status_at s.locals i) w.place w.ty) w.ty) e

nothing_later : (ls : List Local) (p : Place) (b : Bool) → Later ls (nothing_returned ls p b).locals
nothing_later ls p true = later_itself ls
nothing_later ls p false = later_itself ls

return_later : (ls : List Local) (r : Option SourceType) (p : Place) → Later ls (return_nothing ls r p).locals
return_later ls None p = later_itself ls
return_later ls (Some t) p = nothing_later ls p (is_nothing t)

literal_later : (ls : List Local) (p : Place) (l : Lit) → Later ls (alone_literal ls p l).locals
literal_later ls p (lit.Number n) = later_itself ls
literal_later ls p (lit.Text b) = later_itself ls
literal_later ls p (lit.Bytes b) = later_itself ls

alone_later : (ls : List Local) (p : Place) (m : Meaning) → Later ls (alone_says ls p m).locals
alone_later ls p (meaning.Value t) = later_itself ls
alone_later ls p (meaning.Literal q l) = literal_later ls q l
alone_later ls p (meaning.Thing t) = later_itself ls
alone_later ls p (meaning.Range r) = later_itself ls
alone_later ls p meaning.Unknown = later_itself ls

pub line_later : (s : Scope) (r : Option SourceType) (l : Line) → Later s.locals (check_line s r l).locals
line_later s r skip = later_itself s.locals
line_later s r (leave p) = later_itself s.locals
line_later s r (again p) = later_itself s.locals
line_later s r (give p None) = return_later s.locals r p
line_later s r (give p (Some e)) = later_itself s.locals
line_later s r (claim p e m) = later_itself s.locals
line_later s r (delete p e) = later_itself s.locals
line_later s r (alone e) = alone_later s.locals (place_of e) (judge s freely e).meaning
line_later s r (assign t e) = all_later s t e (unpacked t)
line_later s r (augment t o e) = augment_later s t (variable_of s (target_name t)) o e
line_later s r (annotate t a e) = annotate_later s t (variable_of s (target_name t)) a e

-- ---- compound statements

for_later : (s : Scope) (r : Option SourceType) (ls : List Local) (p : Place) (w : Word) (i : Option ℕ) (o : Over) (b : Sts) → ((ms : List Local) → Later ms (checks s r ms b).locals)
    → Later ls (for_parts ls p w i o (λ ms. checks s r ms b)).locals
for_later s r ls p w None o b h = h ls
for_later s r ls p w (Some i) o b h = later_then ls (fixed ls i o.ty) (checks s r (fixed ls i o.ty) b).locals (fixed_later ls i o.ty) (h (fixed ls i o.ty))

mutual
  pub check_later : (s : Scope) (r : Option SourceType) (ls : List Local) (t : St) → Later ls (check s r ls t).locals
  check_later s r ls (line l) = line_later (seeing s ls) r l
  check_later s r ls (if_else p bs) = branches_later s r ls bs
  check_later s r ls (while_do p e b) = checks_later s r ls b
  check_later s r ls (for_in p w e b) = for_later s r ls p w (local_of (seeing s ls) w.name) (over (place_of e) (judge (seeing s ls) freely e)) b (λ ms. checks_later s r ms b)

  pub checks_later : (s : Scope) (r : Option SourceType) (ls : List Local) (b : Sts) → Later ls (checks s r ls b).locals
  checks_later s r ls no_stmts = later_itself ls
  checks_later s r ls (a_stmt t ss) = later_then ls (check s r ls t).locals (checks s r ls (a_stmt t ss)).locals (check_later s r ls t) (checks_later s r (check s r ls t).locals ss)

  pub branches_later : (s : Scope) (r : Option SourceType) (ls : List Local) (b : Branches) → Later ls (check_branches s r ls b).locals
  branches_later s r ls (otherwise b) = checks_later s r ls b
  branches_later s r ls (a_branch e b bs) = later_then ls (checks s r ls b).locals (check_branches s r ls (a_branch e b bs)).locals (checks_later s r ls b) (branches_later s r (checks s r ls b).locals bs)

-- what later variables are, earlier ones are
pub settled_before : (names : Names) (ls ms : List Local) → Later ls ms → Settled names ms → Settled names ls
settled_before names ls ms h k i l t a e = let s : Stays ms i t = h.stays i l t a e in k i s.local t s.at s.status

pub kept_settled : (names : Names) (ls : List Local) → Settled names ls → KeptLocals ls → Sees names ls
kept_settled names ls h k i l t a e =
    let s : SettledType names i t = h i l t a e in
    record { ty = s.ty; is = s.is; at = s.at; kept = k i l s.ty a (e ∙ ap status.Fixed s.is) }
