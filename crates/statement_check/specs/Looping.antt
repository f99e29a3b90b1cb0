-- What a `for` goes over, as a value of the program.
use Rattle.std.specs.Prelude.{ℕ, ◌≡◌, Bool, if◌then◌else◌, List, Option, Some, None}
use Rattle.puya_base.specs.declared.source.Place.{Place}
use Rattle.awst.specs.declared.statement.Stmt.{Stmt}
use Rattle.awst.specs.declared.statement.StmtKind.{StmtKind}
use Rattle.awst.specs.declared.statement.StmtKind.TheVariants as kind
use Rattle.algopy_library.specs.declared.scalar.Scalar.TheVariants as scalar
use Rattle.source_names.specs.declared.types.SourceType.{SourceType}
use Rattle.source_names.specs.declared.types.SourceType.TheVariants as ty
use Rattle.statement_check.specs.declared.looping.Over.{Over as Written}
use Rattle.statement_check.specs.declared.looping.Over.TheVariants as written
use Rattle.statement_check.specs.Statements.{Over, stmt}

abbrev pub turn_type : Written → Option SourceType
turn_type (written.Range r) = Some (ty.Scalar scalar.UInt64)
turn_type (written.Bytes e) = Some (ty.Scalar scalar.Bytes)
turn_type written.Nothing = None

abbrev pub over_kind : Written → Option (ℕ → List Stmt → StmtKind)
over_kind (written.Range r) = Some (λ i b. kind.Range i r.start r.stop r.step b)
over_kind (written.Bytes e) = Some (λ i b. kind.Each i e b)
over_kind written.Nothing = None

-- it is what the rules say
pub record IsOver (w : Written) (o : Over) : Type 0 where
  pub ty : turn_type w ≡ o.ty
  pub over : over_kind w ≡ o.over

abbrev pub stmt_when : Place → ℕ → Option (ℕ → List Stmt → StmtKind) → List Stmt → Option (List Stmt)
stmt_when p i None b = None
stmt_when p i (Some k) b = Some (stmt p (k i b))

abbrev pub over_stmt : Place → ℕ → Written → List Stmt → Option (List Stmt)
over_stmt p i w b = stmt_when p i (over_kind w) b

abbrev pub stmt_over : Place → ℕ → Written → Option (List Stmt) → Option (List Stmt)
stmt_over p i w None = None
stmt_over p i w (Some b) = over_stmt p i w b

abbrev pub for_stmt : Place → ℕ → Bool → Written → Option (List Stmt) → Option (List Stmt)
for_stmt p i d w b = if d then None else stmt_over p i w b
