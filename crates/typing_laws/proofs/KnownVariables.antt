-- Variables whose types are known, and variables that have a type.
use Rattle.std.proofs.Common.{◌≡◌, ℕ, zero, suc, List, [], ◌∷◌, ◌++◌, ◌⊎◌, inl, inr, Option, Some, None, refl, sym, ap, ◌∙◌, subst, arith}
use Rattle.std.proofs.lemmas.Option.{none-some, same_Some}
use Rattle.std.specs.Prelude.{slice_get, slice_set}
use Rattle.std.specs.List.{Contains}
use Rattle.std.proofs.lemmas.List.Elements.{Contains-append_cases, Contains-push_cases}
use Rattle.py_grammar.specs.declared.word.Word.{Word}
use Rattle.source_names.specs.declared.types.SourceType.{SourceType}
use Rattle.source_names.specs.declared.named.Thing.{Thing}
use Rattle.source_names.specs.declared.named.Thing.TheVariants as thing
use Rattle.meaning_rules.specs.declared.scope.Scope.{Scope}
use Rattle.meaning_rules.specs.declared.scope.Local.{Local}
use Rattle.meaning_rules.specs.declared.scope.Status.{Status}
use Rattle.meaning_rules.specs.declared.scope.Status.TheVariants as status
use Rattle.meaning_rules.specs.Operations.{local_from}
use Rattle.expression_check.specs.Variables.{fixed, status_at, local_status}
use Rattle.statement_check.specs.Statements.{seeing, variable_of}
use Rattle.statement_check.specs.Targets.{one_name}
use Rattle.typing_laws.proofs.Good.{Later, Stays}
use Rattle.typing_laws.proofs.Fixing.{now_fixed, same_fixed, fixed_in, fixed_unseen, fixed_nowhere, unseen_fixed, fixed_now}
use Rattle.typing_laws.proofs.Taking.{Exists, local_exists}
use Rattle.typing_laws.proofs.Lasting.{SameNames}
use Rattle.typing_laws.proofs.Known.{IsKnownType, KnownNames, KnownLocals, KnownScope, KnownThing}

-- ---- scopes

thing_at : (s : Scope) (ls : List Local) (t : Thing) → KnownThing s t → KnownThing (seeing s ls) t
thing_at s ls (thing.Library r) h = h
thing_at s ls (thing.Member m) h = h
thing_at s ls (thing.Constant i) h = h
thing_at s ls (thing.Function i) h = h
thing_at s ls (thing.Class i) h = h
thing_at s ls (thing.Method i) h = h
thing_at s ls thing.Myself h = h
thing_at s ls thing.Variable h = h
thing_at s ls thing.Unknown h = h

pub names_known : (s : Scope) (ls : List Local) → KnownNames s → KnownNames (seeing s ls)
names_known s ls k = record { entries = λ i e h. thing_at s ls e.thing (k.entries i e h); constants = k.constants; functions = k.functions; methods = k.methods }

pub scope_known : (s : Scope) (ls : List Local) → KnownNames s → KnownLocals ls → KnownScope (seeing s ls)
scope_known s ls k l = record { known = names_known s ls k; locals = l }

-- ---- types that are known

not_known : {A : Type 0} (t : Option SourceType) → IsKnownType t → t ≡ None → A
not_known t h e = absurd (subst (λ (z : Option SourceType). IsKnownType z) e h)

set_cases : (ls : List Local) (i j : ℕ) (x k : Local) → slice_get (slice_set ls i x) j ≡ Some k → (x ≡ k) ⊎ (slice_get ls j ≡ Some k)
set_cases [] i j x k h = absurd (none-some k h)
set_cases (y ∷ ys) zero zero x k h = inl (same_Some x k h)
set_cases (y ∷ ys) zero (suc j) x k h = inr h
set_cases (y ∷ ys) (suc i) zero x k h = inr h
set_cases (y ∷ ys) (suc i) (suc j) x k h = set_cases ys i j x k h

set_known : (ls : List Local) (i : ℕ) (t : Option SourceType) (l : Local) → KnownLocals ls → IsKnownType t → KnownLocals (slice_set ls i (now_fixed l t))
set_known ls i t l k h j m e f = elim (set_cases ls i j (now_fixed l t) m e) [
  | inl z ↦ not_known t h (same_fixed t None (ap (λ (n : Local). n.status) z ∙ f))
  | inr g ↦ k j m g f
]

known_at : (ls : List Local) (i : ℕ) (t : Option SourceType) (l : Local) (s : Status) → slice_get ls i ≡ Some l → l.status ≡ s → KnownLocals ls → IsKnownType t → KnownLocals (fixed ls i t)
known_at ls i t l status.Unseen e f k h = subst (λ z. KnownLocals z) (sym (fixed_unseen ls i t l e f)) (set_known ls i t l k h)
known_at ls i t l (status.Fixed u) e f k h = subst (λ z. KnownLocals z) (sym (fixed_in ls i t l (status.Fixed u) e f)) k

known_by : (ls : List Local) (i : ℕ) (t : Option SourceType) (o : Option Local) → slice_get ls i ≡ o → KnownLocals ls → IsKnownType t → KnownLocals (fixed ls i t)
known_by ls i t None e k h = subst (λ z. KnownLocals z) (sym (fixed_nowhere ls i t e)) k
known_by ls i t (Some l) e k h = known_at ls i t l l.status e refl k h

pub fixed_known : (ls : List Local) (i : ℕ) (t : Option SourceType) → KnownLocals ls → IsKnownType t → KnownLocals (fixed ls i t)
fixed_known ls i t k h = known_by ls i t (slice_get ls i) refl k h

status_by : (ls : List Local) (i : ℕ) (o : Option Local) → slice_get ls i ≡ o → KnownLocals ls → local_status o ≡ status.Fixed None → ⊥
status_by ls i None e k h = unseen_fixed None h
status_by ls i (Some l) e k h = k i l e h

pub status_known : (ls : List Local) (i : ℕ) → KnownLocals ls → status_at ls i ≡ status.Fixed None → ⊥
status_known ls i k h = status_by ls i (slice_get ls i) refl k h

-- ---- variables that have a type

abbrev pub IsSeen : List Local → ℕ → Type 0
IsSeen ls i = (status_at ls i ≡ status.Unseen) → ⊥

pub record Settles (ls : List Local) (i : ℕ) : Type 0 where
  pub ty : Option SourceType
  pub stays : Stays ls i ty

stays_seen : (ls : List Local) (i : ℕ) (t : Option SourceType) → Stays ls i t → IsSeen ls i
stays_seen ls i t s h = unseen_fixed t (sym h ∙ ap local_status s.at ∙ s.status)

settles_at : (ls : List Local) (i : ℕ) (l : Local) (s : Status) → slice_get ls i ≡ Some l → l.status ≡ s → (s ≡ status.Unseen → ⊥) → Settles ls i
settles_at ls i l status.Unseen e f n = absurd (n refl)
settles_at ls i l (status.Fixed t) e f n = record { ty = t; stays = record { local = l; at = e; status = f } }

settles_by : (ls : List Local) (i : ℕ) (o : Option Local) → slice_get ls i ≡ o → (local_status o ≡ status.Unseen → ⊥) → Settles ls i
settles_by ls i None e n = absurd (n refl)
settles_by ls i (Some l) e n = settles_at ls i l l.status e refl n

pub seen_settles : (ls : List Local) (i : ℕ) → IsSeen ls i → Settles ls i
seen_settles ls i n = settles_by ls i (slice_get ls i) refl n

pub seen_later : (ls ms : List Local) (i : ℕ) → Later ls ms → IsSeen ls i → IsSeen ms i
seen_later ls ms i h n = let s : Settles ls i = seen_settles ls i n in stays_seen ms i s.ty (h.stays i s.stays.local s.ty s.stays.at s.stays.status)

pub fixed_seen : (ls : List Local) (i : ℕ) (t : Option SourceType) → Exists ls i → IsSeen (fixed ls i t) i
fixed_seen ls i t e = let n = fixed_now ls i t e.local e.at in stays_seen (fixed ls i t) i n.ty n.stays

-- nothing changes of such a variable
pub seen_same : (ls : List Local) (i : ℕ) (t : Option SourceType) → IsSeen ls i → fixed ls i t ≡ ls
seen_same ls i t n = let s : Settles ls i = seen_settles ls i n in fixed_in ls i t s.stays.local (status.Fixed s.ty) s.stays.at s.stays.status

-- ---- each variable of these names has a type behind

abbrev pub OneSeen : List Local → List Local → Word → Type 0
OneSeen before after w = (i : ℕ) → local_from 0 w.name before ≡ Some i → IsSeen after i

abbrev pub AllSeen : List Local → List Local → List Word → Type 0
AllSeen before after [] = Unit {0}
AllSeen before after (w ∷ ws) = OneSeen before after w × AllSeen before after ws

pub all_append : (ls ms : List Local) (as_ bs : List Word) → AllSeen ls ms as_ → AllSeen ls ms bs → AllSeen ls ms (as_ ++ bs)
all_append ls ms [] bs h k = k
all_append ls ms (w ∷ ws) bs h k = (h.0, all_append ls ms ws bs h.1 k)

pub all_later : (ls ms ns : List Local) (ws : List Word) → Later ms ns → AllSeen ls ms ws → AllSeen ls ns ws
all_later ls ms ns [] l h = tt
all_later ls ms ns (w ∷ ws) l h = (λ i e. seen_later ms ns i l (h.0 i e), all_later ls ms ns ws l h.1)

pub all_before : (ls ms ns : List Local) (ws : List Word) → SameNames ls ms → AllSeen ms ns ws → AllSeen ls ns ws
all_before ls ms ns [] s h = tt
all_before ls ms ns (w ∷ ws) s h = (λ i e. h.0 i (s 0 w.name ∙ e), all_before ls ms ns ws s h.1)

none_in : (v : Word) → Contains [] v → ⊥
none_in v h = let lt = h.1 in omega arith

pub seen_in : (ls ms : List Local) (ws : List Word) (w : Word) → AllSeen ls ms ws → Contains ws w → OneSeen ls ms w
seen_in ls ms [] v h c = absurd (none_in v c)
seen_in ls ms (w ∷ ws) v h c = elim (Contains-append_cases (w ∷ []) ws v c) [
  | inl a ↦ elim (Contains-push_cases [] w v a) [ inl z ↦ absurd (none_in v z) | inr e ↦ subst (λ z. OneSeen ls ms z) e h.0 ]
  | inr b ↦ seen_in ls ms ws v h.1 b
]

-- a variable is there where its name is found
pub found_exists : (s : Scope) (ls : List Local) (n : List ℕ) (i : ℕ) → local_from 0 n ls ≡ Some i → Exists ls i
found_exists s ls n i h = local_exists (seeing s ls) n i h

-- the variable of a target has a type where it is fixed
one_by : (s : Scope) (ls : List Local) (w : Option Word) (i : ℕ) (t : Option SourceType) → variable_of (seeing s ls) w ≡ Some i → AllSeen ls (fixed ls i t) (one_name w)
one_by s ls None i t h = tt
one_by s ls (Some w) i t h = (λ j e. subst (λ z. IsSeen (fixed ls i t) z) (same_Some i j (sym h ∙ e)) (fixed_seen ls i t (found_exists s ls w.name i h)), tt)

pub one_seen : (s : Scope) (w : Option Word) (i : ℕ) (t : Option SourceType) → variable_of s w ≡ Some i → AllSeen s.locals (fixed s.locals i t) (one_name w)
one_seen s w i t h = one_by s s.locals w i t h
