-- Parts of tuples, items of lists and arguments of calls, one after another.
use Rattle.std.proofs.Common.{◌≡◌, ℕ, suc, ◌+◌, ◌<◌, ◌≤◌, List, [], ◌∷◌, ◌++◌, Bool, true, false, Option, Some, None, length, drop, get_or, map, refl, sym, ap, ◌∙◌, arith, append_assoc, append-nil}
use Rattle.std.proofs.lemmas.List.{at_drop_more, at_drop_all}
use Rattle.awst.specs.declared.expression.Expr.{Expr}
use Rattle.path_rules.specs.declared.note.Note.{Note}
use Rattle.py_grammar.specs.declared.expression.Tree.{Tree}
use Rattle.py_grammar.specs.declared.expression.Arg.{Arg}
use Rattle.source_names.specs.declared.types.SourceType.{SourceType}
use Rattle.source_names.specs.Source.{tree_of, exs_of, arg_of, args_of}
use Rattle.meaning_rules.specs.declared.meaning.Context.{Context}
use Rattle.meaning_rules.specs.declared.meaning.Typed.{Typed}
use Rattle.meaning_rules.specs.declared.scope.Scope.{Scope}
use Rattle.meaning_rules.specs.Operations.{Parts as Seen, both, types_in, exprs_in}
use Rattle.call_rules.specs.declared.arguments.Known.{Known}
use Rattle.call_rules.specs.declared.slots.Used.{Used}
use Rattle.call_rules.specs.Calls as calls
use Rattle.expression_check.specs.declared.tuples.Parts.{Parts}
use Rattle.expression_check.specs.Bindings.{complete_with, known_with as arguments_with, given_at, part_of, used_at}
use Rattle.expression_check.specs.Expressions.{arguments, parts}
use Rattle.expression_check.specs.Gathered.{Gathers, exprs_with, known_with, types_with}
use Rattle.expression_check.specs.Walking.{behind_when, itself, mapped}

up : (i : ℕ) → suc i ≡ i + 1
up i = omega arith

-- ---- parts of a tuple

types_more : (b : Bool) (us : List SourceType) (t : Option Typed) (o : Option (List Typed))
    → behind_when types_in (known_with b t) (types_with us t) o ≡ behind_when types_in b us (both t o)
types_more false us None o = refl
types_more true us None o = refl
types_more false us (Some t) o = refl
types_more true us (Some t) None = refl
types_more true us (Some t) (Some ts) = ap Some (append_assoc us (t.ty ∷ []) (types_in ts))

exprs_more : (b : Bool) (us : List Expr) (t : Option Typed) (o : Option (List Typed))
    → behind_when exprs_in (known_with b t) (exprs_with us t) o ≡ behind_when exprs_in b us (both t o)
exprs_more false us None o = refl
exprs_more true us None o = refl
exprs_more false us (Some t) o = refl
exprs_more true us (Some t) None = refl
exprs_more true us (Some t) (Some ts) = ap Some (append_assoc us (t.expr ∷ []) (exprs_in ts))

module _ (s : Scope) (c : Context) (xs : List Tree) (i n : ℕ) (x : Tree) (low : n < length xs) (is : x ≡ get_or xs n x) where
  abbrev behind : ℕ → Seen
  behind j = parts s c j (exs_of (map tree_of (drop (n + 1) xs)))

  abbrev at_once : Seen
  at_once = parts s c i (exs_of (map tree_of (drop n xs)))

  abbrev one : Seen
  one = parts s c i (exs_of (map tree_of (x ∷ drop (n + 1) xs)))

  part_step : at_once ≡ one
  part_step =
      at_drop_more (λ (ys : List Tree). parts s c i (exs_of (map tree_of ys))) xs n x low
      ∙ ap (λ (y : Tree). parts s c i (exs_of (map tree_of (y ∷ drop (n + 1) xs)))) (sym is)

  pub next_part_told : (into more all : List Note) → more ≡ into ++ (part_of s c i (tree_of x)).notes → into ++ at_once.notes ≡ all → more ++ (behind (i + 1)).notes ≡ all
  next_part_told into more all e h =
      ap (λ z. z ++ (behind (i + 1)).notes) e
      ∙ append_assoc into (part_of s c i (tree_of x)).notes (behind (i + 1)).notes
      ∙ ap (λ j. into ++ ((part_of s c i (tree_of x)).notes ++ (behind j).notes)) (sym (up i))
      ∙ ap (λ z. into ++ z) (sym (ap (λ (p : Seen). p.notes) part_step))
      ∙ h

  pub next_part_types : (b d : Bool) (us vs : List SourceType) (t : Option Typed) (all : Option (List SourceType)) → t ≡ (part_of s c i (tree_of x)).typed
      → d ≡ known_with b t → vs ≡ types_with us t → behind_when types_in b us at_once.typed ≡ all → behind_when types_in d vs (behind (i + 1)).typed ≡ all
  next_part_types b d us vs t all e f g h =
      ap (λ z. behind_when types_in z vs (behind (i + 1)).typed) f
      ∙ ap (λ z. behind_when types_in (known_with b t) z (behind (i + 1)).typed) g
      ∙ types_more b us t (behind (i + 1)).typed
      ∙ ap (λ j. behind_when types_in b us (both t (behind j).typed)) (sym (up i))
      ∙ ap (λ z. behind_when types_in b us (both z (behind (suc i)).typed)) e
      ∙ ap (behind_when types_in b us) (sym (ap (λ (p : Seen). p.typed) part_step))
      ∙ h

  pub next_part_exprs : (b d : Bool) (us vs : List Expr) (t : Option Typed) (all : Option (List Expr)) → t ≡ (part_of s c i (tree_of x)).typed
      → d ≡ known_with b t → vs ≡ exprs_with us t → behind_when exprs_in b us at_once.typed ≡ all → behind_when exprs_in d vs (behind (i + 1)).typed ≡ all
  next_part_exprs b d us vs t all e f g h =
      ap (λ z. behind_when exprs_in z vs (behind (i + 1)).typed) f
      ∙ ap (λ z. behind_when exprs_in (known_with b t) z (behind (i + 1)).typed) g
      ∙ exprs_more b us t (behind (i + 1)).typed
      ∙ ap (λ j. behind_when exprs_in b us (both t (behind j).typed)) (sym (up i))
      ∙ ap (λ z. behind_when exprs_in b us (both z (behind (suc i)).typed)) e
      ∙ ap (behind_when exprs_in b us) (sym (ap (λ (p : Seen). p.typed) part_step))
      ∙ h

-- behind the last part
gathers_by : (p : Parts) (o : Option (List Typed)) (b : Bool) → p.known ≡ b → behind_when types_in b p.types (Some []) ≡ mapped types_in o
    → behind_when exprs_in b p.exprs (Some []) ≡ mapped exprs_in o → Gathers p o
gathers_by p None true e f g = cc
gathers_by p None false e f g = e
gathers_by p (Some ts) true e f g = (e, (let a : p.types ++ [] ≡ types_in ts = cc in sym (append-nil p.types) ∙ a), (let b : p.exprs ++ [] ≡ exprs_in ts = cc in sym (append-nil p.exprs) ∙ b))
gathers_by p (Some ts) false e f g = cc

pub all_gathered : (s : Scope) (c : Context) (xs : List Tree) (i n : ℕ) (p : Parts) (o : Option (List Typed)) → length xs ≤ n
    → behind_when types_in p.known p.types (parts s c i (exs_of (map tree_of (drop n xs)))).typed ≡ mapped types_in o
    → behind_when exprs_in p.known p.exprs (parts s c i (exs_of (map tree_of (drop n xs)))).typed ≡ mapped exprs_in o → Gathers p o
all_gathered s c xs i n p o high f g =
    gathers_by p o p.known refl
    (sym (at_drop_all (λ (ys : List Tree). behind_when types_in p.known p.types (parts s c i (exs_of (map tree_of ys))).typed) xs n high) ∙ f)
    (sym (at_drop_all (λ (ys : List Tree). behind_when exprs_in p.known p.exprs (parts s c i (exs_of (map tree_of ys))).typed) xs n high) ∙ g)

pub all_parts_told : (s : Scope) (c : Context) (xs : List Tree) (i n : ℕ) (into all : List Note) → length xs ≤ n
    → into ++ (parts s c i (exs_of (map tree_of (drop n xs)))).notes ≡ all → into ≡ all
all_parts_told s c xs i n into all high h =
    sym (append-nil into) ∙ sym (at_drop_all (λ (ys : List Tree). into ++ (parts s c i (exs_of (map tree_of ys))).notes) xs n high) ∙ h

-- ---- arguments of a call

known_more : (b : Bool) (ks : List Known) (k : Option Known) (o : Option (List Known))
    → behind_when itself (complete_with b k) (arguments_with ks k) o ≡ behind_when itself b ks (calls.both_known k o)
known_more false ks None o = refl
known_more true ks None o = refl
known_more false ks (Some k) o = refl
known_more true ks (Some k) None = refl
known_more true ks (Some k) (Some ls) = ap Some (append_assoc ks (k ∷ []) ls)

module _ (s : Scope) (c : calls.Callee) (xs : List Arg) (i n : ℕ) (u : Used) (x : Arg) (low : n < length xs) (is : x ≡ get_or xs n x) where
  abbrev others : ℕ → Used → calls.Bound
  others j v = arguments s c j v (args_of (map arg_of (drop (n + 1) xs)))

  abbrev so_far : calls.Bound
  so_far = arguments s c i u (args_of (map arg_of (drop n xs)))

  abbrev this : calls.Given
  this = given_at s c i u (arg_of x)

  argument_step : so_far ≡ arguments s c i u (args_of (map arg_of (x ∷ drop (n + 1) xs)))
  argument_step =
      at_drop_more (λ (ys : List Arg). arguments s c i u (args_of (map arg_of ys))) xs n x low
      ∙ ap (λ (y : Arg). arguments s c i u (args_of (map arg_of (y ∷ drop (n + 1) xs)))) (sym is)

  pub next_argument_told : (v : Used) (into more all : List Note) → v ≡ used_at c i u (arg_of x) → more ≡ into ++ this.notes → into ++ so_far.notes ≡ all
      → more ++ (others (i + 1) v).notes ≡ all
  next_argument_told v into more all d e h =
      ap (λ w. more ++ (others (i + 1) w).notes) d
      ∙ ap (λ z. z ++ (others (i + 1) (used_at c i u (arg_of x))).notes) e
      ∙ append_assoc into this.notes (others (i + 1) (used_at c i u (arg_of x))).notes
      ∙ ap (λ j. into ++ (this.notes ++ (others j (used_at c i u (arg_of x))).notes)) (sym (up i))
      ∙ ap (λ z. into ++ z) (sym (ap (λ (b : calls.Bound). b.notes) argument_step))
      ∙ h

  pub next_argument_known : (v : Used) (b d : Bool) (ks ls : List Known) (all : Option (List Known)) → v ≡ used_at c i u (arg_of x)
      → d ≡ complete_with b this.known → ls ≡ arguments_with ks this.known → behind_when itself b ks so_far.known ≡ all
      → behind_when itself d ls (others (i + 1) v).known ≡ all
  next_argument_known v b d ks ls all e f g h =
      ap (λ w. behind_when itself d ls (others (i + 1) w).known) e
      ∙ ap (λ z. behind_when itself z ls (others (i + 1) (used_at c i u (arg_of x))).known) f
      ∙ ap (λ z. behind_when itself (complete_with b this.known) z (others (i + 1) (used_at c i u (arg_of x))).known) g
      ∙ known_more b ks this.known (others (i + 1) (used_at c i u (arg_of x))).known
      ∙ ap (λ j. behind_when itself b ks (calls.both_known this.known (others j (used_at c i u (arg_of x))).known)) (sym (up i))
      ∙ ap (behind_when itself b ks) (sym (ap (λ (q : calls.Bound). q.known) argument_step))
      ∙ h
