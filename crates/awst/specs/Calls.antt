-- The functions that a node calls, in order, each as often as it stands there.
use Rattle.std.specs.Prelude.{ℕ, ◌==◌, ◌||◌, Bool, false, List, [], ◌∷◌, ◌++◌, Option, Some, None}
use Rattle.awst.specs.Tree.{Ex, ex, Form, constant, variable, strict, both, one_of, choose, call, Exs, no_exprs, an_expr, St, st, Deed, assign, effect, assert, branch, loop, count, each, break, continue, give_back, reject, pick, Picks, no_picks, a_pick, Sts, no_stmts, a_stmt}

abbrev mutual
  pub ex_called : Ex → List ℕ
  ex_called (ex node form) = form_called form

  pub form_called : Form → List ℕ
  form_called (constant v) = []
  form_called (variable x) = []
  form_called (strict operation es) = exs_called es
  form_called (both a b) = ex_called a ++ ex_called b
  form_called (one_of a b) = ex_called a ++ ex_called b
  form_called (choose c a b) = ex_called c ++ ex_called a ++ ex_called b
  form_called (call f es order) = f ∷ exs_called es

  pub exs_called : Exs → List ℕ
  exs_called no_exprs = []
  exs_called (an_expr e es) = ex_called e ++ exs_called es

abbrev pub optional_called : Option Ex → List ℕ
optional_called None = []
optional_called (Some e) = ex_called e

abbrev mutual
  pub st_called : St → List ℕ
  st_called (st head deed) = deed_called deed

  pub deed_called : Deed → List ℕ
  deed_called (assign ds e) = ex_called e
  deed_called (effect e) = ex_called e
  deed_called (assert e) = ex_called e
  deed_called (branch c a b) = ex_called c ++ sts_called a ++ sts_called b
  deed_called (loop c body) = ex_called c ++ sts_called body
  deed_called (count x start stop step body) = optional_called start ++ ex_called stop ++ sts_called body
  deed_called (each x e body) = ex_called e ++ sts_called body
  deed_called break = []
  deed_called continue = []
  deed_called (give_back e) = optional_called e
  deed_called reject = []
  deed_called (pick e picks rest) = ex_called e ++ picks_called picks ++ sts_called rest

  pub picks_called : Picks → List ℕ
  picks_called no_picks = []
  picks_called (a_pick literal body picks) = sts_called body ++ picks_called picks

  pub sts_called : Sts → List ℕ
  sts_called no_stmts = []
  sts_called (a_stmt s ss) = st_called s ++ sts_called ss

-- a number is in a list
abbrev pub is_in : List ℕ → ℕ → Bool
is_in [] g = false
is_in (f ∷ fs) g = (f == g) || is_in fs g
