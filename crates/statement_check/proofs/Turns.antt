-- The turns of a `for`, over what it goes over.
use Rattle.std.proofs.Common.{◌≡◌, ℕ, List, [], ◌∷◌, ◌++◌, Bool, true, false, Option, Some, None, refl, ap, ◌∙◌, append_assoc}
use Rattle.puya_base.specs.declared.source.Place.{Place}
use Rattle.awst.specs.declared.statement.Stmt.{Stmt}
use Rattle.awst.specs.declared.statement.StmtKind.{StmtKind}
use Rattle.path_rules.specs.declared.note.Note.{Note}
use Rattle.path_rules.specs.declared.note.Note.TheVariants as note
use Rattle.source_names.specs.declared.types.SourceType.{SourceType}
use Rattle.meaning_rules.specs.declared.scope.Scope.{Scope}
use Rattle.meaning_rules.specs.declared.scope.Local.{Local}
use Rattle.expression_check.specs.Variables.{fixed, status_at}
use Rattle.statement_check.specs.declared.looping.Over.{Over as Written}
use Rattle.statement_check.specs.Annotating.{differs_notes}
use Rattle.statement_check.specs.Checking.{turns}
use Rattle.statement_check.specs.Lines.{Sts}
use Rattle.statement_check.specs.Looping.{IsOver, for_stmt, over_kind}
use Rattle.statement_check.specs.Statements.{Over, a_for, checks, differs, for_typed}

typed_is : (p q : Place) (i : ℕ) (df : Bool) (w : Written) (k : Option (ℕ → List Stmt → StmtKind)) (b : Option (List Stmt)) → over_kind w ≡ k
    → for_stmt p i df w b ≡ for_typed p i (differs_notes df q) k b
typed_is p q i true w k b e = refl
typed_is p q i false w None None e = refl
typed_is p q i false w (Some k) None e = refl
typed_is p q i false w None (Some b) e = rw e refl
typed_is p q i false w (Some k) (Some b) e = rw e refl

module _ (s : Scope) (r : Option SourceType) (ls : List Local) (p q : Place) (i : ℕ) (w : Written) (o : Over) (is : IsOver w o) (b : Sts) where
  pub turns_locals : (turns s r ls p q i w b).locals ≡ (a_for ls p q i o (λ ms. checks s r ms b)).locals
  turns_locals = ap (λ u. (checks s r (fixed ls i u) b).locals) is.ty

  pub turns_told : (into more all : List Note) → more ≡ into ++ o.notes → all ≡ more ++ (turns s r ls p q i w b).notes → all ≡ into ++ (a_for ls p q i o (λ ms. checks s r ms b)).notes
  turns_told into more all f h =
      h
      ∙ ap (λ z. z ++ (turns s r ls p q i w b).notes) f
      ∙ append_assoc into o.notes (turns s r ls p q i w b).notes
      ∙ ap (λ u. into ++ (o.notes ++ (differs_notes (differs (status_at ls i) u) q ++ (note.Loop [] true (note.Assign i ∷ (checks s r (fixed ls i u) b).notes) ∷ note.Forget i ∷ [])))) is.ty

  pub turns_typed : (turns s r ls p q i w b).typed ≡ (a_for ls p q i o (λ ms. checks s r ms b)).typed
  turns_typed =
      ap (λ u. for_stmt p i (differs (status_at ls i) u) w (checks s r (fixed ls i u) b).typed) is.ty
      ∙ typed_is p q i (differs (status_at ls i) o.ty) w o.over (checks s r (fixed ls i o.ty) b).typed is.over
