-- A node calls the functions of its list of calls.
use Rattle.std.proofs.Common.{◌≡◌, ℕ, ◌∙◌, Bool, true, false, ◌||◌, eqb, List, [], ◌∷◌, ◌++◌, Option, Some, None, refl, sym, ap, append_assoc}
use Rattle.std.proofs.lemmas.List.{append-nil}
use Rattle.std.specs.Prelude.{Result, Ok, Err, OnOk}
use Rattle.puya_base.specs.declared.source.Place.{Place}
use Rattle.puya_base.specs.declared.memory.Memory.{Memory}
use Rattle.awst.specs.Plain.{Scope, Statement, PlainArm, all_plain, if_plain, otherwise}
use Rattle.awst.specs.Arms.{arms_called}
use Rattle.awst.specs.Tree.{Ex, ex, Form, constant, variable, strict, both, one_of, choose, call, Exs, no_exprs, an_expr, St, st, Deed, assign, effect, assert, branch, loop, count, each, break, continue, give_back, reject, pick, Picks, no_picks, a_pick, Sts, no_stmts, a_stmt}
use Rattle.awst.specs.Calls.{ex_called, form_called, exs_called, optional_called, st_called, deed_called, picks_called, sts_called, is_in}
use Rattle.awst.specs.Weight.{ex_calls, form_calls, exs_calls, optional_calls, st_calls, deed_calls, picks_calls, sts_calls}

or_assoc : (a b c : Bool) → (a || (b || c)) ≡ ((a || b) || c)
or_assoc true b c = refl
or_assoc false b c = refl

pub is_in_append : (xs ys : List ℕ) (g : ℕ) → is_in (xs ++ ys) g ≡ (is_in xs g || is_in ys g)
is_in_append [] ys g = refl
is_in_append (x ∷ xs) ys g = ap (λ b. eqb x g || b) (is_in_append xs ys g) ∙ or_assoc (eqb x g) (is_in xs g) (is_in ys g)

joined : (xs ys : List ℕ) (g : ℕ) (p q : Bool) → is_in xs g ≡ p → is_in ys g ≡ q → is_in (xs ++ ys) g ≡ (p || q)
joined xs ys g p q ep eq = is_in_append xs ys g ∙ ap (λ b. b || is_in ys g) ep ∙ ap (λ b. p || b) eq

mutual
  pub ex_same : (e : Ex) (g : ℕ) → is_in (ex_called e) g ≡ ex_calls e g
  ex_same (ex node form) g = form_same form g

  form_same : (form : Form) (g : ℕ) → is_in (form_called form) g ≡ form_calls form g
  form_same (constant v) g = refl
  form_same (variable x) g = refl
  form_same (strict operation es) g = exs_same es g
  form_same (both a b) g = joined (ex_called a) (ex_called b) g _ _ (ex_same a g) (ex_same b g)
  form_same (one_of a b) g = joined (ex_called a) (ex_called b) g _ _ (ex_same a g) (ex_same b g)
  form_same (choose c a b) g = joined (ex_called c ++ ex_called a) (ex_called b) g _ _ (joined (ex_called c) (ex_called a) g _ _ (ex_same c g) (ex_same a g)) (ex_same b g)
  form_same (call f es order) g = ap (λ b. eqb f g || b) (exs_same es g)

  exs_same : (es : Exs) (g : ℕ) → is_in (exs_called es) g ≡ exs_calls es g
  exs_same no_exprs g = refl
  exs_same (an_expr e es) g = joined (ex_called e) (exs_called es) g _ _ (ex_same e g) (exs_same es g)

optional_same : (e : Option Ex) (g : ℕ) → is_in (optional_called e) g ≡ optional_calls e g
optional_same None g = refl
optional_same (Some e) g = ex_same e g

mutual
  st_same : (s : St) (g : ℕ) → is_in (st_called s) g ≡ st_calls s g
  st_same (st head deed) g = deed_same deed g

  deed_same : (deed : Deed) (g : ℕ) → is_in (deed_called deed) g ≡ deed_calls deed g
  deed_same (assign ds e) g = ex_same e g
  deed_same (effect e) g = ex_same e g
  deed_same (assert e) g = ex_same e g
  deed_same (branch c a b) g = joined (ex_called c ++ sts_called a) (sts_called b) g _ _ (joined (ex_called c) (sts_called a) g _ _ (ex_same c g) (sts_same a g)) (sts_same b g)
  deed_same (loop c body) g = joined (ex_called c) (sts_called body) g _ _ (ex_same c g) (sts_same body g)
  deed_same (count x start stop step body) g =
      joined (optional_called start ++ ex_called stop) (sts_called body) g _ _ (joined (optional_called start) (ex_called stop) g _ _ (optional_same start g) (ex_same stop g)) (sts_same body g)
  deed_same (each x e body) g = joined (ex_called e) (sts_called body) g _ _ (ex_same e g) (sts_same body g)
  deed_same break g = refl
  deed_same continue g = refl
  deed_same (give_back e) g = optional_same e g
  deed_same reject g = refl
  deed_same (pick e picks rest) g =
      joined (ex_called e ++ picks_called picks) (sts_called rest) g _ _ (joined (ex_called e) (picks_called picks) g _ _ (ex_same e g) (picks_same picks g)) (sts_same rest g)

  picks_same : (picks : Picks) (g : ℕ) → is_in (picks_called picks) g ≡ picks_calls picks g
  picks_same no_picks g = refl
  picks_same (a_pick literal body picks) g = joined (sts_called body) (picks_called picks) g _ _ (sts_same body g) (picks_same picks g)

  pub sts_same : (ss : Sts) (g : ℕ) → is_in (sts_called ss) g ≡ sts_calls ss g
  sts_same no_stmts g = refl
  sts_same (a_stmt s ss) g = joined (st_called s) (sts_called ss) g _ _ (st_same s g) (sts_same ss g)

-- ---- calls that are added to a list

-- those of one part after those of others; the last part's may be said otherwise
pub calls_then : (r : Result (Unit {0}) Memory) (old mid new a b b' whole : List ℕ) → mid ≡ old ++ a → b' ≡ b → whole ≡ a ++ b → OnOk r (new ≡ mid ++ b') → OnOk r (new ≡ old ++ whole)
calls_then (Ok d) old mid new a b b' whole m e w h = h ∙ ap (λ l. l ++ b') m ∙ ap (λ l. (old ++ a) ++ l) e ∙ append_assoc old a b ∙ ap (λ l. old ++ l) (sym w)
calls_then (Err x) old mid new a b b' whole m e w h = tt

pub calls_alone : (r : Result (Unit {0}) Memory) (old new b' whole : List ℕ) → whole ≡ b' → OnOk r (new ≡ old ++ b') → OnOk r (new ≡ old ++ whole)
calls_alone (Ok d) old new b' whole w h = h ∙ ap (λ l. old ++ l) (sym w)
calls_alone (Err x) old new b' whole w h = tt

pub two_calls : (old mid new a b : List ℕ) → mid ≡ old ++ a → new ≡ mid ++ b → new ≡ old ++ (a ++ b)
two_calls old mid new a b m e = e ∙ ap (λ l. l ++ b) m ∙ append_assoc old a b

otherwise_called : (p : Place) (scope : Scope) (a : ℕ) (arms : List PlainArm) (rest : List Statement) → sts_called (otherwise p scope a arms rest) ≡ arms_called scope a arms ++ sts_called (all_plain scope a rest)
otherwise_called p scope a [] rest = refl
otherwise_called p scope a (arm ∷ arms) rest =
    let here = ex_called arm.condition ++ sts_called (all_plain scope a arm.body) in
    append-nil (here ++ sts_called (otherwise p scope a arms rest)) ∙ ap (λ l. here ++ l) (otherwise_called p scope a arms rest) ∙ sym (append_assoc here (arms_called scope a arms) (sts_called (all_plain scope a rest)))

-- an `if` calls what its arms and the rest call
pub if_called : (p : Place) (scope : Scope) (a : ℕ) (arms : List PlainArm) (rest : List Statement) → st_called (if_plain p scope a arms rest) ≡ arms_called scope a arms ++ sts_called (all_plain scope a rest)
if_called p scope a [] rest = append-nil (sts_called (all_plain scope a rest))
if_called p scope a (arm ∷ arms) rest =
    let here = ex_called arm.condition ++ sts_called (all_plain scope a arm.body) in
    ap (λ l. here ++ l) (otherwise_called p scope a arms rest) ∙ sym (append_assoc here (arms_called scope a arms) (sts_called (all_plain scope a rest)))
