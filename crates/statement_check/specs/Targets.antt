-- The variables of a function (Python reference 4.2.1): the names that are targets, in reading order.
use Rattle.std.specs.Prelude.{ℕ, Bool, ◌&&◌, if◌then◌else◌, List, [], ◌∷◌, ◌++◌, Option, Some, None}
use Rattle.py_grammar.specs.declared.word.Word.{Word}
use Rattle.source_names.specs.Things.{is_myself}
use Rattle.source_names.specs.Lookups.{is_seen}
use Rattle.source_names.specs.Source.{Ex, name, number, text, bytes, flag, paren, tuple, display, member, index, slice, call, unary, binary, choose, Exs, no_exprs, an_expr}
use Rattle.statement_check.specs.Lines.{Line, skip, leave, again, give, claim, delete, alone, assign, augment, annotate, St, line, if_else, while_do, for_in, Sts, no_stmts, a_stmt, Branches, otherwise, a_branch}

-- the name that a target is, if it is one; parentheses change nothing
abbrev pub target_name : Ex → Option Word
target_name (name w) = Some w
target_name (paren p e) = target_name e
target_name (number l) = None
target_name (text p ls) = None
target_name (bytes p ls) = None
target_name (flag p b) = None
target_name (tuple p es) = None
target_name (display p es) = None
target_name (member p e w) = None
target_name (index p e i) = None
target_name (slice p e a b) = None
target_name (call p f as_) = None
target_name (unary p o e) = None
target_name (binary p o a b) = None
target_name (choose p a c b) = None

-- the targets of an unpacking, if it is one
abbrev pub unpacked : Ex → Option Exs
unpacked (tuple p es) = Some es
unpacked (paren p e) = unpacked e
unpacked (name w) = None
unpacked (number l) = None
unpacked (text p ls) = None
unpacked (bytes p ls) = None
unpacked (flag p b) = None
unpacked (display p es) = None
unpacked (member p e w) = None
unpacked (index p e i) = None
unpacked (slice p e a b) = None
unpacked (call p f as_) = None
unpacked (unary p o e) = None
unpacked (binary p o a b) = None
unpacked (choose p a c b) = None

abbrev pub one_name : Option Word → List Word
one_name None = []
one_name (Some w) = w ∷ []

abbrev pub names_in : Exs → List Word
names_in no_exprs = []
names_in (an_expr e es) = one_name (target_name e) ++ names_in es

abbrev pub unpacked_names : Ex → Option Exs → List Word
unpacked_names e None = one_name (target_name e)
unpacked_names e (Some es) = names_in es

abbrev pub line_targets : Line → List Word
line_targets (assign t e) = unpacked_names t (unpacked t)
line_targets (augment t o e) = one_name (target_name t)
line_targets (annotate t a e) = one_name (target_name t)
line_targets skip = []
line_targets (leave p) = []
line_targets (again p) = []
line_targets (give p e) = []
line_targets (claim p e m) = []
line_targets (delete p e) = []
line_targets (alone e) = []

abbrev mutual
  pub targets : St → List Word
  targets (line l) = line_targets l
  targets (if_else p bs) = branch_targets bs
  targets (while_do p e b) = all_targets b
  targets (for_in p w e b) = w ∷ all_targets b

  pub all_targets : Sts → List Word
  all_targets no_stmts = []
  all_targets (a_stmt s ss) = targets s ++ all_targets ss

  pub branch_targets : Branches → List Word
  branch_targets (otherwise b) = all_targets b
  branch_targets (a_branch e b bs) = all_targets b ++ branch_targets bs

-- of names that stand several times the first; `self` is no variable in a member
abbrev pub first_ones : Bool → List (List ℕ) → List Word → List Word
first_ones inside seen [] = []
first_ones inside seen (w ∷ ws) =
    if is_seen w.name seen then first_ones inside seen ws
    else if inside && is_myself w.name then first_ones inside seen ws
    else w ∷ first_ones inside (w.name ∷ seen) ws
