-- How many bytes the programs of a contract may have, by the table.
use Rattle.std.specs.Prelude.{ℕ, zero, suc, ◌+◌, ◌==◌, ◌&&◌, ◌||◌, Bool, false, if◌then◌else◌, List, [], ◌∷◌, length, Option, Some, None}
use Rattle.awst.specs.declared.contract.Contract.{Contract}
use Rattle.awst.specs.Table.{program_amount, entry_amount}
use Rattle.awst.specs.Tree.{Ex, ex, Form, constant, variable, strict, both, one_of, choose, call, Exs, no_exprs, an_expr, St, st, Deed, assign, effect, assert, branch, loop, count, each, break, continue, give_back, reject, pick, Picks, no_picks, a_pick, Sts, no_stmts, a_stmt}
use Rattle.awst.specs.Meaning.{Function}
use Rattle.awst.specs.Prescribed.{PlainContract, plain_contract, entry_price}

-- ---- the weight of a node with all that stands in it

abbrev mutual
  pub ex_weight : Ex → ℕ
  ex_weight (ex node form) = node.own.weight + form_weight form

  pub form_weight : Form → ℕ
  form_weight (constant v) = 0
  form_weight (variable x) = 0
  form_weight (strict operation es) = exs_weight es
  form_weight (both a b) = ex_weight a + ex_weight b
  form_weight (one_of a b) = ex_weight a + ex_weight b
  form_weight (choose c a b) = ex_weight c + ex_weight a + ex_weight b
  form_weight (call f es order) = exs_weight es

  pub exs_weight : Exs → ℕ
  exs_weight no_exprs = 0
  exs_weight (an_expr e es) = ex_weight e + exs_weight es

abbrev pub optional_weight : Option Ex → ℕ
optional_weight None = 0
optional_weight (Some e) = ex_weight e

abbrev mutual
  pub st_weight : St → ℕ
  st_weight (st head deed) = head.own.weight + deed_weight deed

  pub deed_weight : Deed → ℕ
  deed_weight (assign ds e) = ex_weight e
  deed_weight (effect e) = ex_weight e
  deed_weight (assert e) = ex_weight e
  deed_weight (branch c a b) = ex_weight c + sts_weight a + sts_weight b
  deed_weight (loop c body) = ex_weight c + sts_weight body
  deed_weight (count x start stop step body) = optional_weight start + ex_weight stop + sts_weight body
  deed_weight (each x e body) = ex_weight e + sts_weight body
  deed_weight break = 0
  deed_weight continue = 0
  deed_weight (give_back e) = optional_weight e
  deed_weight reject = 0
  deed_weight (pick e picks rest) = ex_weight e + picks_weight picks + sts_weight rest

  pub picks_weight : Picks → ℕ
  picks_weight no_picks = 0
  picks_weight (a_pick literal body picks) = sts_weight body + picks_weight picks

  pub sts_weight : Sts → ℕ
  sts_weight no_stmts = 0
  sts_weight (a_stmt s ss) = st_weight s + sts_weight ss

-- ---- which functions a node calls

abbrev mutual
  pub ex_calls : Ex → ℕ → Bool
  ex_calls (ex node form) g = form_calls form g

  pub form_calls : Form → ℕ → Bool
  form_calls (constant v) g = false
  form_calls (variable x) g = false
  form_calls (strict operation es) g = exs_calls es g
  form_calls (both a b) g = ex_calls a g || ex_calls b g
  form_calls (one_of a b) g = ex_calls a g || ex_calls b g
  form_calls (choose c a b) g = ex_calls c g || ex_calls a g || ex_calls b g
  form_calls (call f es order) g = (f == g) || exs_calls es g

  pub exs_calls : Exs → ℕ → Bool
  exs_calls no_exprs g = false
  exs_calls (an_expr e es) g = ex_calls e g || exs_calls es g

abbrev pub optional_calls : Option Ex → ℕ → Bool
optional_calls None g = false
optional_calls (Some e) g = ex_calls e g

abbrev mutual
  pub st_calls : St → ℕ → Bool
  st_calls (st head deed) g = deed_calls deed g

  pub deed_calls : Deed → ℕ → Bool
  deed_calls (assign ds e) g = ex_calls e g
  deed_calls (effect e) g = ex_calls e g
  deed_calls (assert e) g = ex_calls e g
  deed_calls (branch c a b) g = ex_calls c g || sts_calls a g || sts_calls b g
  deed_calls (loop c body) g = ex_calls c g || sts_calls body g
  deed_calls (count x start stop step body) g = optional_calls start g || ex_calls stop g || sts_calls body g
  deed_calls (each x e body) g = ex_calls e g || sts_calls body g
  deed_calls break g = false
  deed_calls continue g = false
  deed_calls (give_back e) g = optional_calls e g
  deed_calls reject g = false
  deed_calls (pick e picks rest) g = ex_calls e g || picks_calls picks g || sts_calls rest g

  pub picks_calls : Picks → ℕ → Bool
  picks_calls no_picks g = false
  picks_calls (a_pick literal body picks) g = sts_calls body g || picks_calls picks g

  pub sts_calls : Sts → ℕ → Bool
  sts_calls no_stmts g = false
  sts_calls (a_stmt s ss) g = st_calls s g || sts_calls ss g

-- ---- which functions a program reaches

-- some marked function calls g; a mark stands for each function
abbrev pub is_called : List Bool → List Function → ℕ → Bool
is_called (mark ∷ marks) (function ∷ functions) g = (mark && sts_calls function.body g) || is_called marks functions g
is_called _ _ g = false

-- the marks from function g on, with those that are called besides
abbrev pub spread_from : ℕ → List Bool → List Bool → List Function → List Bool
spread_from g [] all functions = []
spread_from g (mark ∷ marks) all functions = (mark || is_called all functions g) ∷ spread_from (g + 1) marks all functions

abbrev pub spread : ℕ → List Function → List Bool → List Bool
spread zero functions marks = marks
spread (suc n) functions marks = spread n functions (spread_from 0 marks marks functions)

abbrev pub is_root : List (Option ℕ) → ℕ → Bool
is_root [] g = false
is_root (None ∷ roots) g = is_root roots g
is_root (Some f ∷ roots) g = (f == g) || is_root roots g

abbrev pub roots_from : ℕ → List (Option ℕ) → List Function → List Bool
roots_from g roots [] = []
roots_from g roots (function ∷ functions) = is_root roots g ∷ roots_from (g + 1) roots functions

-- the functions that are reached from some, over as many calls as there are functions
abbrev pub reached : List (Option ℕ) → List Function → List Bool
reached roots functions = spread (length functions) functions (roots_from 0 roots functions)

-- a function with its body; its own weight is its price
abbrev pub function_weight : Function → ℕ
function_weight function = function.price + sts_weight function.body

abbrev pub marked_weight : List Bool → List Function → ℕ
marked_weight (mark ∷ marks) (function ∷ functions) = (if mark then function_weight function else 0) + marked_weight marks functions
marked_weight _ _ = 0

-- a program: itself, its entry, and the functions that it reaches
abbrev pub program_weight : ℕ → List (Option ℕ) → List Function → ℕ
program_weight entry roots functions = program_amount + entry + marked_weight (reached roots functions) functions

-- the clear state program that only approves has no entry
abbrev pub clear_weight : Option ℕ → List Function → ℕ
clear_weight None functions = program_amount
clear_weight (Some f) functions = program_weight entry_amount (Some f ∷ []) functions

-- the approval program and the clear state program together
abbrev pub plain_weight : PlainContract → ℕ
plain_weight contract = program_weight (entry_price contract.init) (contract.init ∷ contract.approval ∷ []) contract.functions + clear_weight contract.clear contract.functions

abbrev pub weight_of : Contract → ℕ
weight_of contract = plain_weight (plain_contract contract)
