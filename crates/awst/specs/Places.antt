-- How many places a function's code may hold at level 0, and what it needs on the stack.
use Rattle.std.specs.Prelude.{ℕ, ◌+◌, ◌*◌, max, List, [], ◌∷◌, Option, Some, None}
use Rattle.awst.specs.Types.{ValueType, scalar_count, scalar_total, types_of}
use Rattle.awst.specs.Table.{places_of_for}
use Rattle.awst.specs.Tree.{Ex, ex, Form, constant, variable, strict, both, one_of, choose, call, Exs, no_exprs, an_expr, node_of}

abbrev pub scalars_of : Ex → ℕ
scalars_of e = scalar_count (node_of e).ty

-- the most places that wait while an expression is evaluated: its own with its value, its own with the values of its parts,
-- and for each part the values of those before it with what waits in it
abbrev mutual
  pub wait : Ex → ℕ
  wait (ex node form) = max (scalar_count node.ty + node.own.places) (form_wait node.own.places form)

  pub form_wait : ℕ → Form → ℕ
  form_wait own (constant v) = own
  form_wait own (variable x) = own
  form_wait own (strict operation es) = parts_wait own 0 es
  form_wait own (both a b) = max (wait a) (max (scalars_of a + wait b) (scalars_of a + scalars_of b + own))
  form_wait own (one_of a b) = max (wait a) (max (scalars_of a + wait b) (scalars_of a + scalars_of b + own))
  form_wait own (choose c a b) = max (wait c) (max (scalars_of c + wait a) (max (scalars_of c + scalars_of a + wait b) (scalars_of c + scalars_of a + scalars_of b + own)))
  form_wait own (call f es order) = parts_wait own 0 es

  -- behind parts whose values have so many scalars
  pub parts_wait : ℕ → ℕ → Exs → ℕ
  parts_wait own held no_exprs = held + own
  parts_wait own held (an_expr e es) = max (held + wait e) (parts_wait own (held + scalars_of e) es)

abbrev pub optional_wait : Option Ex → ℕ
optional_wait None = 0
optional_wait (Some e) = wait e

-- what the statements of a function ask for: the greatest wait of their expressions, the number of `for`,
-- and the greatest number of literals in one choice among literals
pub record Load : Type 0 where
  pub wait : ℕ
  pub fors : ℕ
  pub literals : ℕ

abbrev pub load_of_wait : ℕ → Load
load_of_wait n = record { wait = n; fors = 0; literals = 0 }

abbrev pub beside : Load → Load → Load
beside a b = record { wait = max a.wait b.wait; fors = a.fors + b.fors; literals = max a.literals b.literals }

abbrev pub all_loads : List Load → Load
all_loads [] = load_of_wait 0
all_loads (l ∷ ls) = beside l (all_loads ls)

-- a `for` over a body
abbrev pub with_for : Load → Load
with_for l = record l { fors = 1 + l.fors }

-- a choice among so many literals
abbrev pub with_literals : ℕ → Load → Load
with_literals n l = record l { literals = max n l.literals }

-- a place for each scalar of the variables, three for each `for`, and the most that wait or are returned
abbrev pub places_with : List ValueType → ValueType → Load → ℕ
places_with variables result load = scalar_total (types_of variables) + places_of_for * load.fors + max (scalar_count result) load.wait
