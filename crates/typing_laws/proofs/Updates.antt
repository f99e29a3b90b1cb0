-- Operators of augmented assignments give the type of their operands, and what it is for statements to have such operators alone.
use Rattle.std.proofs.Common.{◌≡◌, Bool, true, false, [], ◌∷◌, Option, Some, None, refl, sym, subst}
use Rattle.std.specs.Prelude.{IsTrue}
use Rattle.awst.specs.Types.{ValueType}
use Rattle.awst.specs.Shapes.{Fits, shape_of}
use Rattle.algopy_library.specs.declared.scalar.Scalar.{Scalar}
use Rattle.algopy_library.specs.declared.scalar.Scalar.TheVariants as scalar
use Rattle.algopy_library.specs.declared.operator.Operator.{Operator}
use Rattle.algopy_library.specs.declared.operator.Operator.TheVariants as op
use Rattle.algopy_library.specs.declared.operator.Operation.{Operation}
use Rattle.algopy_library.specs.Operators.{between, arithmetic, joining, equality}
use Rattle.source_names.specs.declared.types.SourceType.{SourceType}
use Rattle.source_names.specs.Types.{scalar_of}
use Rattle.meaning_rules.specs.Operations.{operation_at}
use Rattle.statement_check.specs.Lines.{Line, augment, St, line, if_else, while_do, for_in, Sts, no_stmts, a_stmt, Branches, otherwise, a_branch}
use Rattle.typing_laws.proofs.Truths.{never}
use Rattle.typing_laws.proofs.Good.{value_type}
use Rattle.typing_laws.proofs.TypeLaws.{scalar_type, scalar_value_is}
use Rattle.typing_laws.proofs.Fitting.{FitsWhen, twice, between_fits}

-- ---- operators

abbrev pub is_update : Operator → Bool
is_update op.Less = false
is_update op.Greater = false
is_update op.AtMost = false
is_update op.AtLeast = false
is_update op.Equal = false
is_update op.NotEqual = false
is_update op.Add = true
is_update op.Sub = true
is_update op.Mul = true
is_update op.Div = true
is_update op.FloorDiv = true
is_update op.Mod = true
is_update op.Power = true
is_update op.ShiftLeft = true
is_update op.ShiftRight = true
is_update op.BitAnd = true
is_update op.BitOr = true
is_update op.BitXor = true

-- an operator between two values of a type that gives one of that type
abbrev pub FitsUpdate : Option Operation → ValueType → Type 0
FitsUpdate None t = Unit {0}
FitsUpdate (Some o) t = Fits (shape_of o.prim) (t ∷ t ∷ []) t

abbrev GivesSame : Scalar → Option Operation → Type 0
GivesSame s None = Unit {0}
GivesSame s (Some o) = o.result ≡ s

equality_same : (o : Operator) (s : Scalar) → IsTrue (is_update o) → GivesSame s (equality o)
equality_same op.Equal s h = never h
equality_same op.NotEqual s h = never h
equality_same _ s h = tt

joining_same : (o : Operator) (s : Scalar) → IsTrue (is_update o) → GivesSame s (joining o s)
joining_same op.Add s h = refl
joining_same op.Equal s h = never h
joining_same op.NotEqual s h = never h
joining_same _ s h = tt

arithmetic_same : (o : Operator) → IsTrue (is_update o) → GivesSame scalar.UInt64 (arithmetic o)
arithmetic_same op.Less h = never h
arithmetic_same op.Greater h = never h
arithmetic_same op.AtMost h = never h
arithmetic_same op.AtLeast h = never h
arithmetic_same op.Equal h = never h
arithmetic_same op.NotEqual h = never h
arithmetic_same op.Div h = tt
arithmetic_same _ h = refl

between_same : (o : Operator) (s : Scalar) → IsTrue (is_update o) → GivesSame s (between o s)
between_same o scalar.UInt64 h = arithmetic_same o h
between_same o scalar.Bytes h = joining_same o scalar.Bytes h
between_same o scalar.Text h = joining_same o scalar.Text h
between_same o scalar.Bool h = equality_same o scalar.Bool h
between_same o scalar.Account h = equality_same o scalar.Account h

same_fits : (s : Scalar) (o : Option Operation) → FitsWhen (twice s) o → GivesSame s o → FitsUpdate o (scalar_type s)
same_fits s None f e = tt
same_fits s (Some o) f e = subst (λ z. Fits (shape_of o.prim) (twice s) (scalar_type z)) e f

update_by : (o : Operator) (t : SourceType) (s : Option Scalar) → scalar_of t ≡ s → IsTrue (is_update o) → FitsUpdate (operation_at o s) (value_type t)
update_by o t None e h = tt
update_by o t (Some s) e h =
    subst (λ z. FitsUpdate (between o s) z) (sym (scalar_value_is t s e)) (same_fits s (between o s) (between_fits o s) (between_same o s h))

pub update_fits : (o : Operator) (t : SourceType) → IsTrue (is_update o) → FitsUpdate (operation_at o (scalar_of t)) (value_type t)
update_fits o t h = update_by o t (scalar_of t) refl h

-- ---- statements whose augmented assignments have such operators

abbrev pub LineUpdates : Line → Type 0
LineUpdates (augment t o e) = IsTrue (is_update o)
LineUpdates _ = Unit {0}

abbrev mutual
  pub Updates : St → Type 0
  Updates (line l) = LineUpdates l
  Updates (if_else p bs) = BranchesUpdate bs
  Updates (while_do p e b) = AllUpdate b
  Updates (for_in p w e b) = AllUpdate b

  -- each augmented assignment has an operator that the source can write
  pub AllUpdate : Sts → Type 0
  AllUpdate no_stmts = Unit {0}
  AllUpdate (a_stmt s ss) = Updates s × AllUpdate ss

  pub BranchesUpdate : Branches → Type 0
  BranchesUpdate (otherwise b) = AllUpdate b
  BranchesUpdate (a_branch e b bs) = AllUpdate b × BranchesUpdate bs
