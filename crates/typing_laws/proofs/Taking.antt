-- Variables take the values that are assigned to them: they exist, and have the type that is fixed of them.
use Rattle.std.proofs.Common.{◌≡◌, ℕ, suc, ◌+◌, ◌<◌, Bool, true, false, List, [], ◌∷◌, map, Option, Some, None, refl, sym, ap, ◌∙◌, subst, arith}
use Rattle.std.specs.Prelude.{slice_get, if◌then◌else◌, bytes_eq, get_or}
use Rattle.std.proofs.lemmas.Option.{slice_get_within, slice_get-get_or, none-some, same_Some}
use Rattle.py_grammar.specs.declared.word.Word.{Word}
use Rattle.awst.specs.declared.statement.Target.{Target}
use Rattle.awst.specs.Types.{types_of}
use Rattle.awst.specs.Plain.{destination}
use Rattle.awst.specs.Sound.{Names, TakeEach}
use Rattle.source_names.specs.declared.types.SourceType.{SourceType}
use Rattle.source_names.specs.Source.{Exs, no_exprs, an_expr}
use Rattle.meaning_rules.specs.declared.scope.Scope.{Scope}
use Rattle.meaning_rules.specs.declared.scope.Local.{Local}
use Rattle.meaning_rules.specs.declared.scope.Status.{Status}
use Rattle.meaning_rules.specs.declared.scope.Status.TheVariants as status
use Rattle.meaning_rules.specs.Operations.{local_from, local_of}
use Rattle.expression_check.specs.Variables.{fixed, status_at}
use Rattle.statement_check.specs.Targets.{target_name}
use Rattle.statement_check.specs.Statements.{variable_of, slots, taken, status_takes, both_targets, slot_targets}
use Rattle.typing_laws.proofs.Truths.{never}
use Rattle.typing_laws.proofs.Good.{value_type, Settled, SettledType, Later}
use Rattle.typing_laws.proofs.TypeLaws.{same_value}
use Rattle.typing_laws.proofs.Fixing.{FixedNow, fixed_now}
use Rattle.typing_laws.proofs.Growing.{settled_before, taken_later, fixed_later}

-- ---- a variable's number

pub record Exists (ls : List Local) (i : ℕ) : Type 0 where
  pub local : Local
  pub at : slice_get ls i ≡ Some local

-- of a list behind so many others
record Behind (k : ℕ) (ls : List Local) (i : ℕ) : Type 0 where
  number : ℕ
  is : i ≡ k + number
  local : Local
  at : slice_get ls number ≡ Some local

one_further : (k m i : ℕ) → i ≡ suc k + m → i ≡ k + suc m
one_further k m i h = omega (arith, h)

here_is : (k i : ℕ) → k ≡ i → i ≡ k + 0
here_is k i h = omega (arith, h)

further : (k : ℕ) (l : Local) (ls : List Local) (i : ℕ) → Behind (suc k) ls i → Behind k (l ∷ ls) i
further k l ls i b = record { number = suc b.number; is = one_further k b.number i b.is; local = b.local; at = b.at }

found_by : (k : ℕ) (n : List ℕ) (l : Local) (ls : List Local) (i : ℕ) (b : Bool) → (if b then Some k else local_from (suc k) n ls) ≡ Some i → ((h : local_from (suc k) n ls ≡ Some i) → Behind (suc k) ls i) → Behind k (l ∷ ls) i
found_by k n l ls i true h f = record { number = 0; is = here_is k i (same_Some k i h); local = l; at = refl }
found_by k n l ls i false h f = further k l ls i (f h)

found_from : (k : ℕ) (n : List ℕ) (ls : List Local) (i : ℕ) → local_from k n ls ≡ Some i → Behind k ls i
found_from k n [] i h = absurd (none-some i h)
found_from k n (l ∷ ls) i h = found_by k n l ls i (bytes_eq l.name n) h (λ g. found_from (suc k) n ls i g)

no_further : (m i : ℕ) → i ≡ 0 + m → m ≡ i
no_further m i h = omega (arith, h)

pub local_exists : (s : Scope) (n : List ℕ) (i : ℕ) → local_of s n ≡ Some i → Exists s.locals i
local_exists s n i h =
    let b : Behind 0 s.locals i = found_from 0 n s.locals i h in
    record { local = b.local; at = subst (λ z. slice_get s.locals z ≡ Some b.local) (no_further b.number i b.is) b.at }

pub variable_exists : (s : Scope) (w : Option Word) (i : ℕ) → variable_of s w ≡ Some i → Exists s.locals i
variable_exists s None i h = absurd (none-some i h)
variable_exists s (Some w) i h = local_exists s w.name i h

pub exists_later : (ls ms : List Local) (i : ℕ) → Later ls ms → Exists ls i → Exists ms i
exists_later ls ms i h e = record { local = get_or ms i e.local; at = slice_get-get_or ms i e.local (subst (λ n. i < n) (sym h.same_length) (slice_get_within ls i e.local e.at)) }

-- ---- a type that is fixed

type_by : (names : Names) (ls : List Local) (i : ℕ) (t : SourceType) (s : Status) → FixedNow ls i (Some t) s → Settled names (fixed ls i (Some t)) → ((u : SourceType) → s ≡ status.Fixed (Some u) → value_type u ≡ value_type t)
    → slice_get names.variables i ≡ Some (value_type t)
type_by names ls i t status.Unseen n h f =
    let k : SettledType names i n.ty = h i n.stays.local n.ty n.stays.at n.stays.status in
    k.at ∙ ap (λ (u : SourceType). Some (value_type u)) (same_Some k.ty t (sym k.is ∙ n.is refl))
type_by names ls i t (status.Fixed u) n h f =
    let k : SettledType names i n.ty = h i n.stays.local n.ty n.stays.at n.stays.status in
    k.at ∙ ap Some (f k.ty (ap status.Fixed (sym (n.was u refl) ∙ k.is)))

-- a variable that takes a type has it
pub type_fixed : (names : Names) (ls : List Local) (i : ℕ) (t : SourceType) → Exists ls i → Settled names (fixed ls i (Some t)) → ((u : SourceType) → status_at ls i ≡ status.Fixed (Some u) → value_type u ≡ value_type t)
    → slice_get names.variables i ≡ Some (value_type t)
type_fixed names ls i t e h f = type_by names ls i t (status_at ls i) (fixed_now ls i (Some t) e.local e.at) h f

takes_by : (s : Status) (t u : SourceType) → status_takes s t ≡ true → s ≡ status.Fixed (Some u) → value_type u ≡ value_type t
takes_by s t u h e = same_value u t (ap (λ (z : Status). status_takes z t) (sym e) ∙ h)

-- ---- the targets of an unpacking

abbrev pub EachExists : List Local → List (Option ℕ) → Type 0
EachExists ls [] = Unit {0}
EachExists ls (None ∷ is) = EachExists ls is
EachExists ls (Some i ∷ is) = Exists ls i × EachExists ls is

each_later : (ls ms : List Local) (is : List (Option ℕ)) → Later ls ms → EachExists ls is → EachExists ms is
each_later ls ms [] h e = tt
each_later ls ms (None ∷ is) h e = each_later ls ms is h e
each_later ls ms (Some i ∷ is) h e = (exists_later ls ms i h e.0, each_later ls ms is h e.1)

slots_by : (s : Scope) (w : Option Word) (is : List (Option ℕ)) (i : Option ℕ) → variable_of s w ≡ i → EachExists s.locals is → EachExists s.locals (i ∷ is)
slots_by s w is None h e = e
slots_by s w is (Some i) h e = (variable_exists s w i h, e)

pub slots_exist : (s : Scope) (ts : Exs) → EachExists s.locals (slots s ts).numbers
slots_exist s no_exprs = tt
slots_exist s (an_expr e es) = slots_by s (target_name e) (slots s es).numbers (variable_of s (target_name e)) refl (slots_exist s es)

-- each variable has the type of its part
abbrev pub EachTakes : Names → List (Option ℕ) → List SourceType → Type 0
EachTakes names [] [] = Unit {0}
EachTakes names [] (t ∷ ts) = ⊥
EachTakes names (i ∷ is) [] = ⊥
EachTakes names (None ∷ is) (t ∷ ts) = EachTakes names is ts
EachTakes names (Some i ∷ is) (t ∷ ts) = (slice_get names.variables i ≡ Some (value_type t)) × EachTakes names is ts

first_part : (b c : Bool) → (if b then c else false) ≡ true → b ≡ true
first_part true c h = refl
first_part false c h = never h

second_part : (b c : Bool) → (if b then c else false) ≡ true → c ≡ true
second_part true c h = h
second_part false c h = never h

pub all_take : (names : Names) (ls : List Local) (is : List (Option ℕ)) (ts : List SourceType) → (taken ls is ts).all ≡ true → EachExists ls is → Settled names (taken ls is ts).locals → EachTakes names is ts
all_take names ls [] [] h e k = tt
all_take names ls [] (t ∷ ts) h e k = never h
all_take names ls (i ∷ is) [] h e k = never h
all_take names ls (None ∷ is) (t ∷ ts) h e k = all_take names ls is ts h e k
all_take names ls (Some i ∷ is) (t ∷ ts) h e k = (
  type_fixed names ls i t e.0 (settled_before names (fixed ls i (Some t)) (taken (fixed ls i (Some t)) is ts).locals (taken_later (fixed ls i (Some t)) is ts) k)
      (λ u z. takes_by (status_at ls i) t u (first_part (status_takes (status_at ls i) t) (taken (fixed ls i (Some t)) is ts).all h) z),
  all_take names (fixed ls i (Some t)) is ts (second_part (status_takes (status_at ls i) t) (taken (fixed ls i (Some t)) is ts).all h) (each_later ls (fixed ls i (Some t)) is (fixed_later ls i (Some t)) e.1) k,
)

-- the targets take the parts
abbrev TakenBy : Names → Option (List Target) → List SourceType → Type 0
TakenBy names None ts = Unit {0}
TakenBy names (Some as_) ts = TakeEach names (map destination as_) (types_of (map value_type ts))

taken_more : (names : Names) (i : ℕ) (o : Option (List Target)) (t : SourceType) (ts : List SourceType) → slice_get names.variables i ≡ Some (value_type t) → TakenBy names o ts → TakenBy names (both_targets (Some i) o) (t ∷ ts)
taken_more names i None t ts h k = tt
taken_more names i (Some as_) t ts h k = (h, k)

targets_take : (names : Names) (is : List (Option ℕ)) (ts : List SourceType) → EachTakes names is ts → TakenBy names (slot_targets is) ts
targets_take names [] [] h = tt
targets_take names [] (t ∷ ts) h = absurd h
targets_take names (i ∷ is) [] h = absurd h
targets_take names (None ∷ is) (t ∷ ts) h = tt
targets_take names (Some i ∷ is) (t ∷ ts) h = taken_more names i (slot_targets is) t ts h.0 (targets_take names is ts h.1)

pub take_each : (names : Names) (is : List (Option ℕ)) (ts : List SourceType) (as_ : List Target) → slot_targets is ≡ Some as_ → EachTakes names is ts → TakeEach names (map destination as_) (types_of (map value_type ts))
take_each names is ts as_ e h = subst (λ (o : Option (List Target)). TakenBy names o ts) e (targets_take names is ts h)
