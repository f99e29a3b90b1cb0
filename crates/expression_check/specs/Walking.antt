-- What walks over lists have so far, before what is behind.
use Rattle.std.specs.Prelude.{Bool, true, false, List, ◌++◌, Option, Some, None}
use Rattle.awst.specs.declared.ty.Ty.{Ty}
use Rattle.awst.specs.declared.statement.Target.{Target}

abbrev pub targets_behind : List Target → Option (List Target) → Option (List Target)
targets_behind ts None = None
targets_behind ts (Some us) = Some (ts ++ us)

abbrev pub types_behind : List Ty → Option (List Ty) → Option (List Ty)
types_behind ts None = None
types_behind ts (Some us) = Some (ts ++ us)

-- ---- parts of a tuple and arguments of a call: those so far, where each is known, before those behind them

abbrev pub behind_when : {A B : Type 0} → (List A → List B) → Bool → List B → Option (List A) → Option (List B)
behind_when f false bs o = None
behind_when f true bs None = None
behind_when f true bs (Some xs) = Some (bs ++ f xs)

abbrev pub itself : {A : Type 0} → List A → List A
itself xs = xs

abbrev pub mapped : {A B : Type 0} → (List A → List B) → Option (List A) → Option (List B)
mapped f None = None
mapped f (Some xs) = Some (f xs)
