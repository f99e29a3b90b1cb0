-- What is fixed of a variable: a variable that has no type yet gets one, and nothing else changes.
use Rattle.std.proofs.Common.{◌≡◌, ℕ, zero, suc, List, [], ◌∷◌, ◌⊎◌, inl, inr, Option, Some, None, length-set, refl, sym, ap, ◌∙◌, subst}
use Rattle.std.specs.Prelude.{slice_get, slice_set}
use Rattle.std.proofs.lemmas.Option.{none-some, same_Some}
use Rattle.source_names.specs.declared.types.SourceType.{SourceType}
use Rattle.meaning_rules.specs.declared.scope.Local.{Local}
use Rattle.meaning_rules.specs.declared.scope.Status.{Status}
use Rattle.meaning_rules.specs.declared.scope.Status.TheVariants as status
use Rattle.expression_check.specs.Variables.{fixed, fixed_when, with_status, local_status, status_at}
use Rattle.typing_laws.proofs.Good.{IsKeptType, KeptLocals, Later, Stays}

-- ---- an item of a list that is set

abbrev pub now_fixed : Local → Option SourceType → Local
now_fixed l t = record { name = l.name; status = status.Fixed t }

pub set_at : (ls : List Local) (i : ℕ) (x l : Local) → slice_get ls i ≡ Some l → slice_get (slice_set ls i x) i ≡ Some x
set_at [] i x l h = absurd (none-some l h)
set_at (y ∷ ys) zero x l h = refl
set_at (y ∷ ys) (suc i) x l h = set_at ys i x l h

set_other : (ls : List Local) (i j : ℕ) (x l k : Local) → slice_get ls i ≡ Some l → slice_get ls j ≡ Some k → (l ≡ k → ⊥) → slice_get (slice_set ls i x) j ≡ Some k
set_other [] i j x l k a b n = absurd (none-some l a)
set_other (y ∷ ys) zero zero x l k a b n = absurd (n (same_Some l k (sym a ∙ b)))
set_other (y ∷ ys) zero (suc j) x l k a b n = b
set_other (y ∷ ys) (suc i) zero x l k a b n = b
set_other (y ∷ ys) (suc i) (suc j) x l k a b n = set_other ys i j x l k a b n

set_cases : (ls : List Local) (i j : ℕ) (x k : Local) → slice_get (slice_set ls i x) j ≡ Some k → (x ≡ k) ⊎ (slice_get ls j ≡ Some k)
set_cases [] i j x k h = absurd (none-some k h)
set_cases (y ∷ ys) zero zero x k h = inl (same_Some x k h)
set_cases (y ∷ ys) zero (suc j) x k h = inr h
set_cases (y ∷ ys) (suc i) zero x k h = inr h
set_cases (y ∷ ys) (suc i) (suc j) x k h = set_cases ys i j x k h

-- ---- what `fixed` is

pub fixed_in : (ls : List Local) (i : ℕ) (t : Option SourceType) (l : Local) (s : Status) → slice_get ls i ≡ Some l → l.status ≡ s → fixed ls i t ≡ fixed_when s ls i t
fixed_in ls i t l s e f = ap (λ (u : Status). fixed_when u ls i t) (ap local_status e ∙ f)

pub fixed_unseen : (ls : List Local) (i : ℕ) (t : Option SourceType) (l : Local) → slice_get ls i ≡ Some l → l.status ≡ status.Unseen → fixed ls i t ≡ slice_set ls i (now_fixed l t)
fixed_unseen ls i t l e f = fixed_in ls i t l status.Unseen e f ∙ ap (λ (o : Option Local). with_status t o ls i) e

pub fixed_nowhere : (ls : List Local) (i : ℕ) (t : Option SourceType) → slice_get ls i ≡ None → fixed ls i t ≡ ls
fixed_nowhere ls i t e = ap (λ (u : Status). fixed_when u ls i t) (ap local_status e) ∙ ap (λ (o : Option Local). with_status t o ls i) e

-- ---- types stay

pub unseen_fixed : {A : Type 0} (t : Option SourceType) → ◌≡◌ {A = Status} status.Unseen (status.Fixed t) → A
unseen_fixed t e = absurd (cc)

pub later_itself_of : (ls ms : List Local) → ms ≡ ls → Later ls ms
later_itself_of ls ms e = subst (λ z. Later ls z) (sym e) (record { same_length = refl; stays = λ i l t h f. record { local = l; at = h; status = f } })

set_later : (ls : List Local) (i : ℕ) (t : Option SourceType) (l : Local) → slice_get ls i ≡ Some l → l.status ≡ status.Unseen → Later ls (slice_set ls i (now_fixed l t))
set_later ls i t l e f = record {
  same_length = length-set ls i (now_fixed l t);
  stays = λ j k u h g. record { local = k; at = set_other ls i j (now_fixed l t) l k e h (λ z. unseen_fixed u (sym f ∙ ap (λ (m : Local). m.status) z ∙ g)); status = g };
}

later_at : (ls : List Local) (i : ℕ) (t : Option SourceType) (l : Local) (s : Status) → slice_get ls i ≡ Some l → l.status ≡ s → Later ls (fixed ls i t)
later_at ls i t l status.Unseen e f = subst (λ z. Later ls z) (sym (fixed_unseen ls i t l e f)) (set_later ls i t l e f)
later_at ls i t l (status.Fixed u) e f = later_itself_of ls (fixed ls i t) (fixed_in ls i t l (status.Fixed u) e f)

pub later_by : (ls : List Local) (i : ℕ) (t : Option SourceType) (o : Option Local) → slice_get ls i ≡ o → Later ls (fixed ls i t)
later_by ls i t None e = later_itself_of ls (fixed ls i t) (fixed_nowhere ls i t e)
later_by ls i t (Some l) e = later_at ls i t l l.status e refl

-- ---- types of values

abbrev pub KeptOption : Option SourceType → Type 0
KeptOption t = (u : SourceType) → t ≡ Some u → IsKeptType u

pub kept_none : KeptOption None
kept_none u e = absurd (none-some u e)

pub kept_some : (t : SourceType) → IsKeptType t → KeptOption (Some t)
kept_some t k u e = subst (λ (z : SourceType). IsKeptType z) (same_Some t u e) k

status_type : Status → Option SourceType
status_type status.Unseen = None
status_type (status.Fixed t) = t

pub same_fixed : (t u : Option SourceType) → ◌≡◌ {A = Status} (status.Fixed t) (status.Fixed u) → t ≡ u
unfolding status_type
same_fixed t u e = ap status_type e

set_keeps : (ls : List Local) (i : ℕ) (t : Option SourceType) (l : Local) → KeptLocals ls → KeptOption t → KeptLocals (slice_set ls i (now_fixed l t))
set_keeps ls i t l k h j m u e f = elim (set_cases ls i j (now_fixed l t) m e) [
  | inl z ↦ h u (same_fixed t (Some u) (ap (λ (n : Local). n.status) z ∙ f))
  | inr g ↦ k j m u g f
]

keeps_at : (ls : List Local) (i : ℕ) (t : Option SourceType) (l : Local) (s : Status) → slice_get ls i ≡ Some l → l.status ≡ s → KeptLocals ls → KeptOption t → KeptLocals (fixed ls i t)
keeps_at ls i t l status.Unseen e f k h = subst (λ z. KeptLocals z) (sym (fixed_unseen ls i t l e f)) (set_keeps ls i t l k h)
keeps_at ls i t l (status.Fixed u) e f k h = subst (λ z. KeptLocals z) (sym (fixed_in ls i t l (status.Fixed u) e f)) k

keeps_by : (ls : List Local) (i : ℕ) (t : Option SourceType) (o : Option Local) → slice_get ls i ≡ o → KeptLocals ls → KeptOption t → KeptLocals (fixed ls i t)
keeps_by ls i t None e k h = subst (λ z. KeptLocals z) (sym (fixed_nowhere ls i t e)) k
keeps_by ls i t (Some l) e k h = keeps_at ls i t l l.status e refl k h

pub fixed_keeps : (ls : List Local) (i : ℕ) (t : Option SourceType) → KeptLocals ls → KeptOption t → KeptLocals (fixed ls i t)
fixed_keeps ls i t k h = keeps_by ls i t (slice_get ls i) refl k h

-- ---- the type behind: what was fixed before, or what is fixed now

pub record FixedNow (ls : List Local) (i : ℕ) (t : Option SourceType) (s : Status) : Type 0 where
  pub ty : Option SourceType
  pub stays : Stays (fixed ls i t) i ty
  pub is : s ≡ status.Unseen → ty ≡ t
  pub was : (u : Option SourceType) → s ≡ status.Fixed u → ty ≡ u

now_at : (ls : List Local) (i : ℕ) (t : Option SourceType) (l : Local) (s : Status) → slice_get ls i ≡ Some l → l.status ≡ s → FixedNow ls i t s
now_at ls i t l status.Unseen e f = record {
  ty = t;
  stays = subst (λ z. Stays z i t) (sym (fixed_unseen ls i t l e f)) (record { local = now_fixed l t; at = set_at ls i (now_fixed l t) l e; status = refl });
  is = λ z. refl;
  was = λ u z. unseen_fixed u z;
}
now_at ls i t l (status.Fixed u) e f = record {
  ty = u;
  stays = subst (λ z. Stays z i u) (sym (fixed_in ls i t l (status.Fixed u) e f)) (record { local = l; at = e; status = f });
  is = λ z. unseen_fixed u (sym z);
  was = λ v z. same_fixed u v z;
}

pub fixed_now : (ls : List Local) (i : ℕ) (t : Option SourceType) (l : Local) → slice_get ls i ≡ Some l → FixedNow ls i t (status_at ls i)
fixed_now ls i t l e = now_at ls i t l (status_at ls i) e (sym (ap local_status e))
