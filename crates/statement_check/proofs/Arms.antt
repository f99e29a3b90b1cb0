-- The arms of an `if`, one after another.
use Rattle.std.proofs.Common.{◌≡◌, ℕ, ◌+◌, ◌<◌, ◌≤◌, List, [], ◌∷◌, ◌++◌, Option, Some, None, length, drop, get_or, map, refl, sym, ap, ◌∙◌, append_assoc, append-nil}
use Rattle.std.specs.Prelude.{option_map}
use Rattle.std.proofs.lemmas.List.{at_drop_more, at_drop_all}
use Rattle.puya_base.specs.declared.source.Place.{Place}
use Rattle.awst.specs.declared.statement.Stmt.{Stmt as Typed_stmt}
use Rattle.awst.specs.declared.statement.Arm.{Arm}
use Rattle.path_rules.specs.declared.note.Note.{Note}
use Rattle.path_rules.specs.declared.note.Note.TheVariants as note
use Rattle.path_rules.specs.declared.note.NoteArm.{NoteArm}
use Rattle.py_grammar.specs.declared.expression.Tree.{Tree}
use Rattle.py_grammar.specs.declared.statement.Stmt.{Stmt}
use Rattle.py_grammar.specs.declared.statement.Stmt.TheVariants as a_stmt_form
use Rattle.py_grammar.specs.declared.statement.Branch.{Branch}
use Rattle.py_grammar.specs.declared.statement.Block.{Block}
use Rattle.source_names.specs.declared.types.SourceType.{SourceType}
use Rattle.source_names.specs.Source.{Ex, tree_of}
use Rattle.meaning_rules.specs.declared.meaning.Typed.{Typed}
use Rattle.meaning_rules.specs.declared.scope.Scope.{Scope}
use Rattle.meaning_rules.specs.declared.scope.Local.{Local}
use Rattle.statement_check.specs.Checking.{arm_of, arms_behind, locals_behind, note_of, notes_behind, test_of, typed_arm, with_typed}
use Rattle.statement_check.specs.Lines.{OneBranch, Sts, block_of, block_or_none, branch_of, branches_of, stmt_of}
use Rattle.statement_check.specs.Noting.{optional_block}
use Rattle.statement_check.specs.Statements.{arm_typed, check, check_branches, checks, if_typed}
use Rattle.statement_check.proofs.Blocks.{stmt-If}

module _ (s : Scope) (r : Option SourceType) (xs : List Branch) (i : ℕ) (x : Branch) (low : i < length xs) (is : x ≡ get_or xs i x) (ls : List Local) (e : Ex) (b : Sts) (form : branch_of x ≡ record { test = e; block = b }) where
  abbrev others : List OneBranch
  others = map branch_of (drop (i + 1) xs)

  abbrev this : OneBranch
  this = record { test = e; block = b }

  arm_step : map branch_of (drop i xs) ≡ this ∷ others
  arm_step =
      at_drop_more (λ (ys : List Branch). map branch_of ys) xs i x low
      ∙ ap (λ (y : Branch). branch_of y ∷ others) (sym is)
      ∙ ap (λ (a : OneBranch). a ∷ others) form

  pub next_arm_locals : (ms all : List Local) → ms ≡ (checks s r ls b).locals → locals_behind s r ls (map branch_of (drop i xs)) ≡ all → locals_behind s r ms others ≡ all
  next_arm_locals ms all f h = ap (λ ns. locals_behind s r ns others) f ∙ sym (ap (locals_behind s r ls) arm_step) ∙ h

  pub next_arm_notes : (ms : List Local) (notes more all : List NoteArm) → ms ≡ (checks s r ls b).locals → more ≡ notes ++ note_of s r ls e b ∷ []
      → notes ++ notes_behind s r ls (map branch_of (drop i xs)) ≡ all → more ++ notes_behind s r ms others ≡ all
  next_arm_notes ms notes more all f g h =
      ap (λ ns. more ++ notes_behind s r ns others) f
      ∙ ap (λ z. z ++ notes_behind s r (checks s r ls b).locals others) g
      ∙ append_assoc notes (note_of s r ls e b ∷ []) (notes_behind s r (checks s r ls b).locals others)
      ∙ ap (λ z. notes ++ z) (sym (ap (notes_behind s r ls) arm_step))
      ∙ h

  pub next_arm_typed : (ms : List Local) (so_far next all : Option (List Arm)) → ms ≡ (checks s r ls b).locals → next ≡ with_typed so_far (arm_of s r ls e b)
      → arms_behind s r ls so_far (map branch_of (drop i xs)) ≡ all → arms_behind s r ms next others ≡ all
  next_arm_typed ms so_far next all f g h =
      ap (λ ns. arms_behind s r ns next others) f
      ∙ ap (λ z. arms_behind s r (checks s r ls b).locals z others) g
      ∙ sym (ap (arms_behind s r ls so_far) arm_step)
      ∙ h

-- behind the last arm
pub all_arm_locals : (s : Scope) (r : Option SourceType) (xs : List Branch) (i : ℕ) (ls all : List Local) → length xs ≤ i
    → locals_behind s r ls (map branch_of (drop i xs)) ≡ all → ls ≡ all
all_arm_locals s r xs i ls all high h = sym (at_drop_all (λ (ys : List Branch). locals_behind s r ls (map branch_of ys)) xs i high) ∙ h

pub all_arm_notes : (s : Scope) (r : Option SourceType) (xs : List Branch) (i : ℕ) (ls : List Local) (notes all : List NoteArm) → length xs ≤ i
    → notes ++ notes_behind s r ls (map branch_of (drop i xs)) ≡ all → notes ≡ all
all_arm_notes s r xs i ls notes all high h =
    sym (append-nil notes) ∙ sym (at_drop_all (λ (ys : List Branch). notes ++ notes_behind s r ls (map branch_of ys)) xs i high) ∙ h

pub all_arm_typed : (s : Scope) (r : Option SourceType) (xs : List Branch) (i : ℕ) (ls : List Local) (so_far all : Option (List Arm)) → length xs ≤ i
    → arms_behind s r ls so_far (map branch_of (drop i xs)) ≡ all → so_far ≡ all
all_arm_typed s r xs i ls so_far all high h = sym (at_drop_all (λ (ys : List Branch). arms_behind s r ls so_far (map branch_of ys)) xs i high) ∙ h

-- ---- what is said of arms at once

abbrev arms_before : List Arm → Option (List Arm) → Option (List Arm)
arms_before ts None = None
arms_before ts (Some us) = Some (ts ++ us)

before_none : (o : Option (List Arm)) → arms_before [] o ≡ o
before_none None = refl
before_none (Some us) = refl

none_behind : (s : Scope) (r : Option SourceType) (ls : List Local) (as_ : List OneBranch) → arms_behind s r ls None as_ ≡ None
none_behind s r ls [] = refl
none_behind s r ls (a ∷ as_) = none_behind s r (checks s r ls a.block).locals as_

typed_by : (t : Option Typed) (d : Option (List Typed_stmt)) (ts : List Arm) (rest : Option (List Arm)) (behind : Option (List Arm) → Option (List Arm)) → behind None ≡ None
    → ((us : List Arm) → behind (Some us) ≡ arms_before us rest) → behind (with_typed (Some ts) (typed_arm t d)) ≡ arms_before ts (arm_typed t d rest)
typed_by None d ts rest behind h f = h
typed_by (Some t) None ts rest behind h f = h
typed_by (Some t) (Some d) ts None behind h f = f _
typed_by (Some t) (Some d) ts (Some us) behind h f = f _ ∙ ap Some (append_assoc ts _ us)

typed_are : (s : Scope) (r : Option SourceType) (ls : List Local) (ts : List Arm) (as_ : List OneBranch) (b : Sts)
    → arms_behind s r ls (Some ts) as_ ≡ arms_before ts (check_branches s r ls (branches_of as_ b)).typed_arms
typed_are s r ls ts [] b = ap Some (sym (append-nil ts))
typed_are s r ls ts (a ∷ as_) b =
    let ms = (checks s r ls a.block).locals in
    typed_by (test_of s ls a.test).typed (checks s r ls a.block).typed ts (check_branches s r ms (branches_of as_ b)).typed_arms (λ z. arms_behind s r ms z as_)
    (none_behind s r ms as_) (λ us. typed_are s r ms us as_ b)

locals_are : (s : Scope) (r : Option SourceType) (ls : List Local) (as_ : List OneBranch) (b : Sts)
    → (checks s r (locals_behind s r ls as_) b).locals ≡ (check_branches s r ls (branches_of as_ b)).locals
locals_are s r ls [] b = refl
locals_are s r ls (a ∷ as_) b = locals_are s r (checks s r ls a.block).locals as_ b

notes_are : (s : Scope) (r : Option SourceType) (ls : List Local) (as_ : List OneBranch) (b : Sts)
    → notes_behind s r ls as_ ≡ (check_branches s r ls (branches_of as_ b)).arms
notes_are s r ls [] b = refl
notes_are s r ls (a ∷ as_) b = ap (λ z. note_of s r ls a.test a.block ∷ z) (notes_are s r (checks s r ls a.block).locals as_ b)

rest_notes_are : (s : Scope) (r : Option SourceType) (ls : List Local) (as_ : List OneBranch) (b : Sts)
    → (checks s r (locals_behind s r ls as_) b).notes ≡ (check_branches s r ls (branches_of as_ b)).rest
rest_notes_are s r ls [] b = refl
rest_notes_are s r ls (a ∷ as_) b = rest_notes_are s r (checks s r ls a.block).locals as_ b

rest_typed_are : (s : Scope) (r : Option SourceType) (ls : List Local) (as_ : List OneBranch) (b : Sts)
    → (checks s r (locals_behind s r ls as_) b).typed ≡ (check_branches s r ls (branches_of as_ b)).typed_rest
rest_typed_are s r ls [] b = refl
rest_typed_are s r ls (a ∷ as_) b = rest_typed_are s r (checks s r ls a.block).locals as_ b

optional_is : (c : Option Block) → optional_block c ≡ block_or_none (option_map block_of c)
optional_is None = refl
optional_is (Some b) = refl

-- ---- an `if`

module _ (s : Scope) (r : Option SourceType) (ls : List Local) (p : Place) (e : Tree) (b : Block) (bs : List Branch) (c : Option Block) (t : Stmt) (is : t ≡ a_stmt_form.If p e b bs c) where
  abbrev first : OneBranch
  first = record { test = tree_of e; block = block_of b }

  abbrev whole : List OneBranch
  whole = first ∷ map branch_of bs

  abbrev last : Sts
  last = block_or_none (option_map block_of c)

  pub if_locals : (l m n : List Local) → l ≡ (checks s r ls (block_of b)).locals → m ≡ locals_behind s r l (map branch_of bs) → n ≡ (checks s r m (optional_block c)).locals
      → n ≡ (check s r ls (stmt_of t)).locals
  if_locals l m n f g h =
      h
      ∙ ap (λ (z : Sts). (checks s r m z).locals) (optional_is c)
      ∙ ap (λ (z : List Local). (checks s r z last).locals) (g ∙ ap (λ (z : List Local). locals_behind s r z (map branch_of bs)) f)
      ∙ locals_are s r ls whole last
      ∙ sym (ap (λ z. (check s r ls z).locals) (ap stmt_of is ∙ stmt-If p e b bs c))

  pub if_told : (l m : List Local) (into more : List Note) (start one all : List NoteArm) → l ≡ (checks s r ls (block_of b)).locals → m ≡ locals_behind s r l (map branch_of bs)
      → start ≡ [] → one ≡ start ++ note_of s r ls (tree_of e) (block_of b) ∷ [] → all ≡ one ++ notes_behind s r l (map branch_of bs)
      → more ≡ into ++ note.If all (checks s r m (optional_block c)).notes ∷ [] → more ≡ into ++ (check s r ls (stmt_of t)).notes
  if_told l m into more start one all f g h i j k =
      let l_is = g ∙ ap (λ (z : List Local). locals_behind s r z (map branch_of bs)) f in
      let one_is : one ≡ note_of s r ls (tree_of e) (block_of b) ∷ [] = i ∙ ap (λ z. z ++ note_of s r ls (tree_of e) (block_of b) ∷ []) h in
      let all_is : all ≡ notes_behind s r ls whole = j ∙ ap (λ z. z ++ notes_behind s r l (map branch_of bs)) one_is ∙ ap (λ (z : List Local). note_of s r ls (tree_of e) (block_of b) ∷ notes_behind s r z (map branch_of bs)) f in
      k
      ∙ ap (λ (z : Sts). into ++ note.If all (checks s r m z).notes ∷ []) (optional_is c)
      ∙ ap (λ (z : List Local). into ++ note.If all (checks s r z last).notes ∷ []) l_is
      ∙ ap (λ z. into ++ note.If all z ∷ []) (rest_notes_are s r ls whole last)
      ∙ ap (λ z. into ++ note.If z (check_branches s r ls (branches_of whole last)).rest ∷ []) (all_is ∙ notes_are s r ls whole last)
      ∙ sym (ap (λ z. into ++ (check s r ls z).notes) (ap stmt_of is ∙ stmt-If p e b bs c))

  pub if_done : (l m : List Local) (start one all : Option (List Arm)) (end : Option (List Typed_stmt)) → l ≡ (checks s r ls (block_of b)).locals → m ≡ locals_behind s r l (map branch_of bs)
      → start ≡ Some [] → one ≡ with_typed start (arm_of s r ls (tree_of e) (block_of b)) → all ≡ arms_behind s r l one (map branch_of bs)
      → end ≡ if_typed p all (checks s r m (optional_block c)).typed → end ≡ (check s r ls (stmt_of t)).typed
  if_done l m start one all end f g h i j k =
      let l_is = g ∙ ap (λ (z : List Local). locals_behind s r z (map branch_of bs)) f in
      let one_is : one ≡ with_typed (Some []) (arm_of s r ls (tree_of e) (block_of b)) = i ∙ ap (λ z. with_typed z (arm_of s r ls (tree_of e) (block_of b))) h in
      let all_is : all ≡ arms_behind s r ls (Some []) whole = j ∙ ap (λ z. arms_behind s r l z (map branch_of bs)) one_is ∙ ap (λ (z : List Local). arms_behind s r z (with_typed (Some []) (arm_of s r ls (tree_of e) (block_of b))) (map branch_of bs)) f in
      k
      ∙ ap (λ (z : Sts). if_typed p all (checks s r m z).typed) (optional_is c)
      ∙ ap (λ (z : List Local). if_typed p all (checks s r z last).typed) l_is
      ∙ ap (λ z. if_typed p all z) (rest_typed_are s r ls whole last)
      ∙ ap (λ z. if_typed p z (check_branches s r ls (branches_of whole last)).typed_rest) (all_is ∙ typed_are s r ls [] whole last ∙ before_none (check_branches s r ls (branches_of whole last)).typed_arms)
      ∙ sym (ap (λ z. (check s r ls z).typed) (ap stmt_of is ∙ stmt-If p e b bs c))
