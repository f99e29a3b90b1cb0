-- Statements one after another, and the arms of an `if`.
use Rattle.std.proofs.Common.{◌≡◌, ℕ, ◌+◌, ◌<◌, ◌≤◌, List, [], ◌∷◌, ◌++◌, Option, Some, None, length, drop, get_or, refl, sym, ap, ◌∙◌, append_assoc, append-nil}
use Rattle.std.proofs.lemmas.List.{at_drop_more, at_drop_all}
use Rattle.awst.specs.declared.statement.Stmt.{Stmt as Typed}
use Rattle.path_rules.specs.declared.note.Note.{Note}
use Rattle.py_grammar.specs.declared.statement.Stmt.{Stmt}
use Rattle.source_names.specs.declared.types.SourceType.{SourceType}
use Rattle.meaning_rules.specs.declared.scope.Scope.{Scope}
use Rattle.meaning_rules.specs.declared.scope.Local.{Local}
use Rattle.statement_check.specs.Lines.{stmt_of, stmts_of}
use Rattle.statement_check.specs.Parting.{joined}
use Rattle.statement_check.specs.Statements.{Done, behind_done, check, checks}

typed_behind : (d e : Done) (a b : Option (List Typed)) → d.typed ≡ a → e.typed ≡ b → (behind_done d e).typed ≡ joined a b
typed_behind d e None b p q = rw p refl
typed_behind d e (Some a) None p q = rw (p, q) refl
typed_behind d e (Some a) (Some b) p q = rw (p, q) refl

joined-assoc : (a b c : Option (List Typed)) → joined (joined a b) c ≡ joined a (joined b c)
joined-assoc None b c = refl
joined-assoc (Some a) None c = refl
joined-assoc (Some a) (Some b) None = refl
joined-assoc (Some a) (Some b) (Some c) = ap Some (append_assoc a b c)

pub joined-none : (a : Option (List Typed)) → joined a (Some []) ≡ a
joined-none None = refl
joined-none (Some a) = ap Some (append-nil a)

pub nothing-joined : (a : Option (List Typed)) → joined (Some []) a ≡ a
nothing-joined None = refl
nothing-joined (Some a) = refl

module _ (s : Scope) (r : Option SourceType) (xs : List Stmt) (i : ℕ) (x : Stmt) (low : i < length xs) (is : x ≡ get_or xs i x) (ls : List Local) where
  abbrev first : Done
  first = check s r ls (stmt_of x)

  abbrev behind : List Local → Done
  behind ms = checks s r ms (stmts_of (drop (i + 1) xs))

  step : checks s r ls (stmts_of (drop i xs)) ≡ behind_done first (behind first.locals)
  step =
      at_drop_more (λ (ys : List Stmt). checks s r ls (stmts_of ys)) xs i x low
      ∙ ap (λ (y : Stmt). checks s r ls (stmts_of (y ∷ drop (i + 1) xs))) (sym is)

  pub next_locals : (ms all : List Local) → ms ≡ first.locals → (checks s r ls (stmts_of (drop i xs))).locals ≡ all → (behind ms).locals ≡ all
  next_locals ms all e h = ap (λ ns. (behind ns).locals) e ∙ sym (ap (λ (d : Done). d.locals) step) ∙ h

  pub next_told : (ms : List Local) (into more all : List Note) → ms ≡ first.locals → more ≡ into ++ first.notes
      → into ++ (checks s r ls (stmts_of (drop i xs))).notes ≡ all → more ++ (behind ms).notes ≡ all
  next_told ms into more all e f h =
      ap (λ ns. more ++ (behind ns).notes) e
      ∙ ap (λ z. z ++ (behind first.locals).notes) f
      ∙ append_assoc into first.notes (behind first.locals).notes
      ∙ ap (λ z. into ++ z) (sym (ap (λ (d : Done). d.notes) step))
      ∙ h

  pub next_typed : (ms : List Local) (so_far one next all : Option (List Typed)) → ms ≡ first.locals → one ≡ first.typed → next ≡ joined so_far one
      → joined so_far (checks s r ls (stmts_of (drop i xs))).typed ≡ all → joined next (behind ms).typed ≡ all
  next_typed ms so_far one next all e f g h =
      ap (λ ns. joined next (behind ns).typed) e
      ∙ ap (λ z. joined z (behind first.locals).typed) (g ∙ ap (joined so_far) f)
      ∙ joined-assoc so_far first.typed (behind first.locals).typed
      ∙ ap (joined so_far) (sym (ap (λ (d : Done). d.typed) step ∙ typed_behind first (behind first.locals) first.typed (behind first.locals).typed refl refl))
      ∙ h

-- behind the last statement
pub all_locals : (s : Scope) (r : Option SourceType) (xs : List Stmt) (i : ℕ) (ls all : List Local) → length xs ≤ i
    → (checks s r ls (stmts_of (drop i xs))).locals ≡ all → ls ≡ all
all_locals s r xs i ls all high h = sym (at_drop_all (λ (ys : List Stmt). (checks s r ls (stmts_of ys)).locals) xs i high) ∙ h

pub all_told : (s : Scope) (r : Option SourceType) (xs : List Stmt) (i : ℕ) (ls : List Local) (into all : List Note) → length xs ≤ i
    → into ++ (checks s r ls (stmts_of (drop i xs))).notes ≡ all → into ≡ all
all_told s r xs i ls into all high h = sym (append-nil into) ∙ sym (at_drop_all (λ (ys : List Stmt). into ++ (checks s r ls (stmts_of ys)).notes) xs i high) ∙ h

pub all_typed : (s : Scope) (r : Option SourceType) (xs : List Stmt) (i : ℕ) (ls : List Local) (so_far all : Option (List Typed)) → length xs ≤ i
    → joined so_far (checks s r ls (stmts_of (drop i xs))).typed ≡ all → so_far ≡ all
all_typed s r xs i ls so_far all high h = sym (joined-none so_far) ∙ sym (at_drop_all (λ (ys : List Stmt). joined so_far (checks s r ls (stmts_of ys)).typed) xs i high) ∙ h
