-- The parts of a tuple as the code gathers them: whether each is known, and their types and trees apart.
use Rattle.std.specs.Prelude.{◌≡◌, Bool, true, false, List, [], ◌∷◌, ◌++◌, Option, Some, None}
use Rattle.awst.specs.declared.expression.Expr.{Expr}
use Rattle.source_names.specs.declared.types.SourceType.{SourceType}
use Rattle.meaning_rules.specs.declared.meaning.Typed.{Typed}
use Rattle.meaning_rules.specs.Operations.{types_in, exprs_in}
use Rattle.expression_check.specs.declared.tuples.Parts.{Parts}

-- the parts are these, or one of them is not known
abbrev pub Gathers : Parts → Option (List Typed) → Type 0
Gathers p None = p.known ≡ false
Gathers p (Some ts) = (p.known ≡ true) × (p.types ≡ types_in ts) × (p.exprs ≡ exprs_in ts)

abbrev pub known_with : Bool → Option Typed → Bool
known_with b None = false
known_with b (Some t) = b

abbrev pub types_with : List SourceType → Option Typed → List SourceType
types_with ts None = ts
types_with ts (Some t) = ts ++ t.ty ∷ []

abbrev pub exprs_with : List Expr → Option Typed → List Expr
exprs_with es None = es
exprs_with es (Some t) = es ++ t.expr ∷ []
