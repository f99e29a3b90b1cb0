-- Targets of statements one after another, as they are added to the variables of a function.
use Rattle.std.proofs.Common.{◌≡◌, ℕ, ◌+◌, ◌-◌, ◌<◌, ◌≤◌, List, [], ◌∷◌, ◌++◌, Bool, Option, Some, None, length, take, drop, get_or, map, refl, sym, ap, ◌∙◌, append_assoc, append-nil}
use Rattle.std.specs.Prelude.{option_map, option_copied, MatchOption}
use Rattle.std.proofs.Common.{Bor}
use Rattle.std.proofs.lemmas.List.{at_drop_more, at_drop_all}
use Rattle.puya_base.specs.declared.source.Place.{Place}
use Rattle.puya_base.specs.declared.source.Refusal.{Refusal}
use Rattle.py_grammar.specs.declared.word.Word.{Word}
use Rattle.py_grammar.specs.declared.expression.Tree.{Tree}
use Rattle.py_grammar.specs.declared.statement.Stmt.{Stmt}
use Rattle.py_grammar.specs.declared.statement.Stmt.TheVariants as a_stmt_form
use Rattle.py_grammar.specs.declared.statement.Branch.{Branch}
use Rattle.py_grammar.specs.declared.statement.Block.{Block}
use Rattle.source_names.specs.declared.named.Entry.{Entry}
use Rattle.source_names.specs.Source.{exs_of, tree_of}
use Rattle.source_headers.specs.Headers.{all_clashes}
use Rattle.meaning_rules.specs.declared.scope.Local.{Local}
use Rattle.statement_check.specs.Lines.{OneBranch, Sts, block_of, block_or_none, branch_of, branches_of, stmt_of, stmts_of}
use Rattle.statement_check.specs.Noting.{arm_targets, noted, optional_block, target_local}
use Rattle.statement_check.specs.Targets.{all_targets, branch_targets, first_ones, names_in, one_name, target_name, targets}
use Rattle.statement_check.proofs.Behind.{first_and_behind}
use Rattle.statement_check.proofs.Blocks.{branch-is, stmt-If, stmt-For}
use Rattle.statement_check.proofs.Seeing.{locals_then, noted-append, told_then}

-- some targets, and those behind them
module _ (inside : Bool) (s t : List (List ℕ)) (xs ys zs : List Word) (both : zs ≡ xs ++ ys) (seen : t ≡ noted inside s xs) where
  pub next_told : (es : List Entry) (a b all : List Refusal) → b ≡ a ++ all_clashes es (first_ones inside s xs) → a ++ all_clashes es (first_ones inside s zs) ≡ all
      → b ++ all_clashes es (first_ones inside t ys) ≡ all
  next_told es a b all f h =
      ap (λ z. b ++ all_clashes es (first_ones inside z ys)) seen
      ∙ told_then inside es s xs ys a b _ f refl
      ∙ ap (λ z. a ++ all_clashes es (first_ones inside s z)) (sym both)
      ∙ h

  pub next_seen : (all : List (List ℕ)) → noted inside s zs ≡ all → noted inside t ys ≡ all
  next_seen all h = ap (λ z. noted inside z ys) seen ∙ sym (noted-append inside s xs ys) ∙ ap (noted inside s) (sym both) ∙ h

  pub next_locals : (a b all : List Local) → b ≡ a ++ map target_local (first_ones inside s xs) → a ++ map target_local (first_ones inside s zs) ≡ all
      → b ++ map target_local (first_ones inside t ys) ≡ all
  next_locals a b all f h =
      ap (λ z. b ++ map target_local (first_ones inside z ys)) seen
      ∙ locals_then inside s xs ys a b _ f refl
      ∙ ap (λ z. a ++ map target_local (first_ones inside s z)) (sym both)
      ∙ h

  pub both_told : (es : List Entry) (a b d : List Refusal) → b ≡ a ++ all_clashes es (first_ones inside s xs) → d ≡ b ++ all_clashes es (first_ones inside t ys)
      → d ≡ a ++ all_clashes es (first_ones inside s zs)
  both_told es a b d f h = h ∙ next_told es a b _ f refl

  pub both_seen : (d : List (List ℕ)) → d ≡ noted inside t ys → d ≡ noted inside s zs
  both_seen d h = h ∙ next_seen _ refl

  pub both_locals : (a b d : List Local) → b ≡ a ++ map target_local (first_ones inside s xs) → d ≡ b ++ map target_local (first_ones inside t ys)
      → d ≡ a ++ map target_local (first_ones inside s zs)
  both_locals a b d f h = h ∙ next_locals a b _ f refl

-- behind the last target
pub all_told : (inside : Bool) (s : List (List ℕ)) (zs : List Word) (es : List Entry) (a all : List Refusal) → zs ≡ [] → a ++ all_clashes es (first_ones inside s zs) ≡ all → a ≡ all
all_told inside s zs es a all e h = sym (append-nil a) ∙ ap (λ z. a ++ all_clashes es (first_ones inside s z)) (sym e) ∙ h

pub all_seen : (inside : Bool) (s : List (List ℕ)) (zs : List Word) (all : List (List ℕ)) → zs ≡ [] → noted inside s zs ≡ all → s ≡ all
all_seen inside s zs all e h = ap (noted inside s) (sym e) ∙ h

pub all_locals : (inside : Bool) (s : List (List ℕ)) (zs : List Word) (a all : List Local) → zs ≡ [] → a ++ map target_local (first_ones inside s zs) ≡ all → a ≡ all
all_locals inside s zs a all e h = sym (append-nil a) ∙ ap (λ z. a ++ map target_local (first_ones inside s z)) (sym e) ∙ h

-- which targets are next
pub names_split : (xs : List Tree) (x : Tree) → x ≡ get_or xs 0 x → 1 ≤ length xs
    → names_in (exs_of (map tree_of xs)) ≡ one_name (target_name (tree_of x)) ++ names_in (exs_of (map tree_of (take (length xs - 1) (drop 1 xs))))
names_split xs x is low = ap (λ ys. names_in (exs_of (map tree_of ys))) (first_and_behind xs x is low)

pub stmts_split : (xs : List Stmt) (i : ℕ) (x : Stmt) → i < length xs → x ≡ get_or xs i x → all_targets (stmts_of (drop i xs)) ≡ targets (stmt_of x) ++ all_targets (stmts_of (drop (i + 1) xs))
stmts_split xs i x low is =
    at_drop_more (λ (ys : List Stmt). all_targets (stmts_of ys)) xs i x low
    ∙ ap (λ (y : Stmt). targets (stmt_of y) ++ all_targets (stmts_of (drop (i + 1) xs))) (sym is)

pub branches_split : (xs : List Branch) (i : ℕ) (x : Branch) (b : Sts) → i < length xs → x ≡ get_or xs i x → (branch_of x).block ≡ b
    → arm_targets (map branch_of (drop i xs)) ≡ all_targets b ++ arm_targets (map branch_of (drop (i + 1) xs))
branches_split xs i x b low is form =
    at_drop_more (λ (ys : List Branch). arm_targets (map branch_of ys)) xs i x low
    ∙ ap (λ (y : Branch). all_targets (branch_of y).block ++ arm_targets (map branch_of (drop (i + 1) xs))) (sym is)
    ∙ ap (λ (z : Sts). all_targets z ++ arm_targets (map branch_of (drop (i + 1) xs))) form

pub no_stmts_left : (xs : List Stmt) (i : ℕ) → length xs ≤ i → all_targets (stmts_of (drop i xs)) ≡ []
no_stmts_left xs i high = at_drop_all (λ (ys : List Stmt). all_targets (stmts_of ys)) xs i high

pub no_branches_left : (xs : List Branch) (i : ℕ) → length xs ≤ i → arm_targets (map branch_of (drop i xs)) ≡ []
no_branches_left xs i high = at_drop_all (λ (ys : List Branch). arm_targets (map branch_of ys)) xs i high

branches_are : (as_ : List OneBranch) (b : Sts) → branch_targets (branches_of as_ b) ≡ arm_targets as_ ++ all_targets b
branches_are [] b = refl
branches_are (a ∷ as_) b = ap (λ z. all_targets a.block ++ z) (branches_are as_ b) ∙ sym (append_assoc (all_targets a.block) (arm_targets as_) (all_targets b))

optional_is : (c : Option Block) → block_or_none (option_map block_of c) ≡ optional_block c
optional_is None = refl
optional_is (Some b) = refl

pub if_targets : (p : Place) (e : Tree) (b : Block) (bs : List Branch) (c : Option Block)
    → targets (stmt_of (a_stmt_form.If p e b bs c)) ≡ (all_targets (block_of b) ++ arm_targets (map branch_of bs)) ++ all_targets (optional_block c)
if_targets p e b bs c =
    ap targets (stmt-If p e b bs c)
    ∙ ap (λ z. all_targets (block_of b) ++ z) (branches_are (map branch_of bs) (block_or_none (option_map block_of c)) ∙ ap (λ z. arm_targets (map branch_of bs) ++ all_targets z) (optional_is c))
    ∙ sym (append_assoc (all_targets (block_of b)) (arm_targets (map branch_of bs)) (all_targets (optional_block c)))

pub for_targets : (p : Place) (w : Word) (e : Tree) (b : Block) → targets (stmt_of (a_stmt_form.For p w e b)) ≡ (w ∷ []) ++ all_targets (block_of b)
for_targets p w e b = ap targets (stmt-For p w e b)

pub copied_is : {A : Type 0} (r : Option (Bor A)) (o : Option A) → MatchOption r (o ≡ None) (λ (w : Bor A). o ≡ Some w.now) → option_copied r ≡ o
copied_is None o h = sym h
copied_is (Some w) o h = sym h

pub branch_block : (b : Branch) → (branch_of b).block ≡ block_of b.block
branch_block b = ap (λ (a : OneBranch). a.block) (branch-is b)
