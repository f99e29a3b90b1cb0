-- Variables keep their names as statements go on.
use Rattle.std.proofs.Common.{◌≡◌, ℕ, zero, suc, Bool, true, false, List, [], ◌∷◌, Option, Some, None, refl, sym, ap, ◌∙◌, subst}
use Rattle.std.proofs.lemmas.Option.{same_Some}
use Rattle.std.specs.Prelude.{slice_get, slice_set, bytes_eq, if◌then◌else◌}
use Rattle.puya_base.specs.declared.source.Place.{Place}
use Rattle.py_grammar.specs.declared.word.Word.{Word}
use Rattle.py_grammar.specs.declared.type_tree.TypeTree.{TypeTree}
use Rattle.awst.specs.declared.statement.Stmt.{Stmt}
use Rattle.source_names.specs.declared.types.SourceType.{SourceType}
use Rattle.source_names.specs.Types.{is_nothing, tuple_parts}
use Rattle.source_names.specs.Annotations.{Written, written, of_value}
use Rattle.source_names.specs.Source.{Ex, Exs, place_of}
use Rattle.meaning_rules.specs.declared.meaning.Hope.TheVariants as hope
use Rattle.meaning_rules.specs.declared.meaning.Expect.TheVariants as expect
use Rattle.meaning_rules.specs.declared.meaning.Typed.{Typed}
use Rattle.meaning_rules.specs.declared.meaning.Lit.{Lit}
use Rattle.meaning_rules.specs.declared.meaning.Lit.TheVariants as lit
use Rattle.meaning_rules.specs.declared.meaning.Meaning.{Meaning}
use Rattle.meaning_rules.specs.declared.meaning.Meaning.TheVariants as meaning
use Rattle.meaning_rules.specs.declared.scope.Scope.{Scope}
use Rattle.meaning_rules.specs.declared.scope.Local.{Local}
use Rattle.meaning_rules.specs.declared.scope.Status.{Status}
use Rattle.meaning_rules.specs.declared.scope.Status.TheVariants as status
use Rattle.meaning_rules.specs.Meanings.{freely, value}
use Rattle.meaning_rules.specs.Operations.{local_from, local_of}
use Rattle.algopy_library.specs.declared.operator.Operator.{Operator}
use Rattle.expression_check.specs.Expressions.{judge}
use Rattle.expression_check.specs.Variables.{fixed, status_at, local_names}
use Rattle.statement_check.specs.Lines.{Line, skip, leave, again, give, claim, delete, alone, assign, augment, annotate, St, line, if_else, while_do, for_in, Sts, no_stmts, a_stmt, Branches, otherwise, a_branch}
use Rattle.statement_check.specs.Targets.{target_name, unpacked}
use Rattle.statement_check.specs.Statements.{Slots, check_line, check, checks, check_branches, seeing, nothing_returned, return_nothing, alone_literal, alone_says, slot_fixed, taken, none_taken, unpacked_parts, unpacked_value, unpack_slots, slots, slot_hopes, assign_all, assign_one, variable_of, augment_one, annotated_value, annotate_one, annotation_typed, annotated_again, Over, over, for_parts}
use Rattle.typing_laws.proofs.Fixing.{now_fixed, fixed_in, fixed_unseen, fixed_nowhere}

-- ---- a variable whose type is fixed keeps its name

abbrev pub SameNames : List Local → List Local → Type 0
SameNames ls ms = (k : ℕ) (n : List ℕ) → local_from k n ms ≡ local_from k n ls

pub same_itself : (ls : List Local) → SameNames ls ls
same_itself ls k n = refl

pub same_then : (ls ms ns : List Local) → SameNames ls ms → SameNames ms ns → SameNames ls ns
same_then ls ms ns h g k n = g k n ∙ h k n

set_same : (ls : List Local) (i : ℕ) (t : Option SourceType) (l : Local) → slice_get ls i ≡ Some l → SameNames ls (slice_set ls i (now_fixed l t))
set_same [] i t l e k n = refl
set_same (y ∷ ys) zero t l e k n = ap (λ (z : Local). if bytes_eq z.name n then Some k else local_from (suc k) n ys) (sym (same_Some y l e))
set_same (y ∷ ys) (suc i) t l e k n = ap (λ z. if bytes_eq y.name n then Some k else z) (set_same ys i t l e (suc k) n)

same_of : (ls ms : List Local) → ms ≡ ls → SameNames ls ms
same_of ls ms e k n = ap (λ z. local_from k n z) e

same_at : (ls : List Local) (i : ℕ) (t : Option SourceType) (l : Local) (s : Status) → slice_get ls i ≡ Some l → l.status ≡ s → SameNames ls (fixed ls i t)
same_at ls i t l status.Unseen e f = subst (λ z. SameNames ls z) (sym (fixed_unseen ls i t l e f)) (set_same ls i t l e)
same_at ls i t l (status.Fixed u) e f = same_of ls (fixed ls i t) (fixed_in ls i t l (status.Fixed u) e f)

same_by : (ls : List Local) (i : ℕ) (t : Option SourceType) (o : Option Local) → slice_get ls i ≡ o → SameNames ls (fixed ls i t)
same_by ls i t None e = same_of ls (fixed ls i t) (fixed_nowhere ls i t e)
same_by ls i t (Some l) e = same_at ls i t l l.status e refl

pub fixed_same : (ls : List Local) (i : ℕ) (t : Option SourceType) → SameNames ls (fixed ls i t)
fixed_same ls i t = same_by ls i t (slice_get ls i) refl

-- ---- unpackings

pub slot_same : (ls : List Local) (i : Option ℕ) (t : Option SourceType) → SameNames ls (slot_fixed ls i t)
slot_same ls None t = same_itself ls
slot_same ls (Some i) t = fixed_same ls i t

pub taken_same : (ls : List Local) (is : List (Option ℕ)) (ts : List SourceType) → SameNames ls (taken ls is ts).locals
taken_same ls [] [] = same_itself ls
taken_same ls [] (t ∷ ts) = same_itself ls
taken_same ls (i ∷ is) [] = same_then ls (slot_fixed ls i None) (taken ls (i ∷ is) []).locals (slot_same ls i None) (taken_same (slot_fixed ls i None) is [])
taken_same ls (i ∷ is) (t ∷ ts) = same_then ls (slot_fixed ls i (Some t)) (taken ls (i ∷ is) (t ∷ ts)).locals (slot_same ls i (Some t)) (taken_same (slot_fixed ls i (Some t)) is ts)

none_same : (ls : List Local) (is : List (Option ℕ)) → SameNames ls (none_taken ls is)
none_same ls [] = same_itself ls
none_same ls (i ∷ is) = same_then ls (slot_fixed ls i None) (none_taken (slot_fixed ls i None) is) (slot_same ls i None) (none_same (slot_fixed ls i None) is)

parts_same : (ls : List Local) (p : Place) (is : List (Option ℕ)) (t : Typed) (ts : Option (List SourceType)) → SameNames ls (unpacked_parts ls p is t ts).locals
parts_same ls p is t None = none_same ls is
parts_same ls p is t (Some ts) = taken_same ls is ts

unpacked_same : (ls : List Local) (p : Place) (is : List (Option ℕ)) (t : Option Typed) → SameNames ls (unpacked_value ls p is t).locals
unpacked_same ls p is None = none_same ls is
unpacked_same ls p is (Some t) = parts_same ls p is t (tuple_parts t.ty)

unpack_same : (s : Scope) (p : Place) (r : Slots) (e : Ex) → SameNames s.locals (unpack_slots s p r e).locals
unpack_same s p r e = unpacked_same s.locals p r.numbers (value hope.Free (place_of e) (judge s (record { expect = expect.Each (slot_hopes s.locals r.numbers); copying = true }) e)).typed

-- ---- statements of one line

one_same : (s : Scope) (t e : Ex) (i : Option ℕ) → SameNames s.locals (assign_one s t i e).locals
one_same s t e None = same_itself s.locals
one_same s t e (Some i) = fixed_same s.locals i _

all_same : (s : Scope) (t e : Ex) (ts : Option Exs) → SameNames s.locals (assign_all s t ts e).locals
all_same s t e None = one_same s t e (variable_of s (target_name t))
all_same s t e (Some ts) = unpack_same s (place_of t) (slots s ts) e

augment_same : (s : Scope) (t : Ex) (i : Option ℕ) (o : Operator) (e : Ex) → SameNames s.locals (augment_one s t i o e).locals
augment_same s t None o e = same_itself s.locals
augment_same s t (Some i) o e = fixed_same s.locals i None

value_same : (s : Scope) (p : Place) (i : ℕ) (t : Option (List Stmt)) (e : Option Ex) → SameNames s.locals (annotated_value s p i t e).locals
value_same s p i t None = same_itself s.locals
value_same s p i t (Some e) = fixed_same s.locals i _

variable_same : (s : Scope) (p : Place) (i : ℕ) (w : Written) (t : Option (List Stmt)) (e : Option Ex) → SameNames s.locals (annotated_value (seeing s (fixed s.locals i w.ty)) p i t e).locals
variable_same s p i w t e =
    same_then s.locals (fixed s.locals i w.ty) (annotated_value (seeing s (fixed s.locals i w.ty)) p i t e).locals (fixed_same s.locals i w.ty) (value_same (seeing s (fixed s.locals i w.ty)) p i t e)

annotate_same : (s : Scope) (t : Ex) (i : Option ℕ) (a : TypeTree) (e : Option Ex) → SameNames s.locals (annotate_one s t i a e).locals
annotate_same s t None a e = same_itself s.locals
annotate_same s t (Some i) a e =
    let w : Written = of_value (written s.entries (local_names s.locals) a) in
    variable_same s (place_of t) i w (annotation_typed (annotated_again (status_at s.locals i) w.place w.ty) w.ty) e

nothing_same : (ls : List Local) (p : Place) (b : Bool) → SameNames ls (nothing_returned ls p b).locals
nothing_same ls p true = same_itself ls
nothing_same ls p false = same_itself ls

return_same : (ls : List Local) (r : Option SourceType) (p : Place) → SameNames ls (return_nothing ls r p).locals
return_same ls None p = same_itself ls
return_same ls (Some t) p = nothing_same ls p (is_nothing t)

literal_same : (ls : List Local) (p : Place) (l : Lit) → SameNames ls (alone_literal ls p l).locals
literal_same ls p (lit.Number n) = same_itself ls
literal_same ls p (lit.Text b) = same_itself ls
literal_same ls p (lit.Bytes b) = same_itself ls

alone_same : (ls : List Local) (p : Place) (m : Meaning) → SameNames ls (alone_says ls p m).locals
alone_same ls p (meaning.Value t) = same_itself ls
alone_same ls p (meaning.Literal q l) = literal_same ls q l
alone_same ls p (meaning.Thing t) = same_itself ls
alone_same ls p (meaning.Range r) = same_itself ls
alone_same ls p meaning.Unknown = same_itself ls

pub line_same : (s : Scope) (r : Option SourceType) (l : Line) → SameNames s.locals (check_line s r l).locals
line_same s r skip = same_itself s.locals
line_same s r (leave p) = same_itself s.locals
line_same s r (again p) = same_itself s.locals
line_same s r (give p None) = return_same s.locals r p
line_same s r (give p (Some e)) = same_itself s.locals
line_same s r (claim p e m) = same_itself s.locals
line_same s r (delete p e) = same_itself s.locals
line_same s r (alone e) = alone_same s.locals (place_of e) (judge s freely e).meaning
line_same s r (assign t e) = all_same s t e (unpacked t)
line_same s r (augment t o e) = augment_same s t (variable_of s (target_name t)) o e
line_same s r (annotate t a e) = annotate_same s t (variable_of s (target_name t)) a e

-- ---- compound statements

for_same : (s : Scope) (r : Option SourceType) (ls : List Local) (p : Place) (w : Word) (i : Option ℕ) (o : Over) (b : Sts) → ((ms : List Local) → SameNames ms (checks s r ms b).locals)
    → SameNames ls (for_parts ls p w i o (λ ms. checks s r ms b)).locals
for_same s r ls p w None o b h = h ls
for_same s r ls p w (Some i) o b h = same_then ls (fixed ls i o.ty) (checks s r (fixed ls i o.ty) b).locals (fixed_same ls i o.ty) (h (fixed ls i o.ty))

mutual
  pub check_same : (s : Scope) (r : Option SourceType) (ls : List Local) (t : St) → SameNames ls (check s r ls t).locals
  check_same s r ls (line l) = line_same (seeing s ls) r l
  check_same s r ls (if_else p bs) = branches_same s r ls bs
  check_same s r ls (while_do p e b) = checks_same s r ls b
  check_same s r ls (for_in p w e b) = for_same s r ls p w (local_of (seeing s ls) w.name) (over (place_of e) (judge (seeing s ls) freely e)) b (λ ms. checks_same s r ms b)

  pub checks_same : (s : Scope) (r : Option SourceType) (ls : List Local) (b : Sts) → SameNames ls (checks s r ls b).locals
  checks_same s r ls no_stmts = same_itself ls
  checks_same s r ls (a_stmt t ss) = same_then ls (check s r ls t).locals (checks s r ls (a_stmt t ss)).locals (check_same s r ls t) (checks_same s r (check s r ls t).locals ss)

  pub branches_same : (s : Scope) (r : Option SourceType) (ls : List Local) (b : Branches) → SameNames ls (check_branches s r ls b).locals
  branches_same s r ls (otherwise b) = checks_same s r ls b
  branches_same s r ls (a_branch e b bs) = same_then ls (checks s r ls b).locals (check_branches s r ls (a_branch e b bs)).locals (checks_same s r ls b) (branches_same s r (checks s r ls b).locals bs)
