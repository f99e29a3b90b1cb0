-- The numbers and names of variables, as they are added and as their types are fixed.
use Rattle.std.proofs.Common.{◌≡◌, ℕ, suc, ◌+◌, ◌<◌, List, [], ◌∷◌, ◌++◌, Bool, true, false, Option, Some, None, length, take, get_or, refl, sym, ap, ◌∙◌, arith}
use Rattle.std.specs.Prelude.{if◌then◌else◌, bytes_eq, slice_get, slice_set}
use Rattle.std.proofs.Math.Seq.{map-set_same}
use Rattle.std.proofs.lemmas.Option.{get_or_from_slice_get, slice_get_read}
use Rattle.std.proofs.lemmas.Slice.Eq.{bytes_eq-Decides}
use Rattle.std.proofs.Math.Seq.{take-suc}
use Rattle.std.proofs.lemmas.List.{length-take-le}
use Rattle.source_names.specs.declared.types.SourceType.{SourceType}
use Rattle.source_names.specs.Lookups.{first_of, is_seen, value_at, with_name}
use Rattle.source_names.specs.Things.{names_variable}
use Rattle.meaning_rules.specs.declared.scope.Local.{Local}
use Rattle.meaning_rules.specs.declared.scope.Status.{Status}
use Rattle.meaning_rules.specs.declared.scope.Status.TheVariants as status
use Rattle.meaning_rules.specs.Operations.{local_from}
use Rattle.expression_check.specs.Sights.{is_unseen}
use Rattle.expression_check.specs.Variables.{fixed, fixed_when, local_names, local_status, with_status}

-- ---- the names alone

abbrev name_from : ℕ → List ℕ → List (List ℕ) → Option ℕ
name_from i n [] = None
name_from i n (m ∷ ms) = if bytes_eq m n then Some i else name_from (suc i) n ms

number_by : (i : ℕ) (n : List ℕ) (l : Local) (ls : List Local) (b : Bool) → bytes_eq l.name n ≡ b → local_from (suc i) n ls ≡ name_from (suc i) n (local_names ls)
    → local_from i n (l ∷ ls) ≡ name_from i n (l.name ∷ local_names ls)
number_by i n l ls true e rest = rw e refl
number_by i n l ls false e rest = rw e rest

by_names : (i : ℕ) (n : List ℕ) (ls : List Local) → local_from i n ls ≡ name_from i n (local_names ls)
by_names i n [] = refl
by_names i n (l ∷ ls) = number_by i n l ls (bytes_eq l.name n) refl (by_names (suc i) n ls)

status_seen : (ls : List Local) (i : ℕ) (t : Option SourceType) (o : Option Local) (s : Status) → slice_get ls i ≡ o → local_status o ≡ s → local_names (fixed ls i t) ≡ local_names (fixed_when s ls i t)
status_seen ls i t o s e f = ap (λ (u : Status). local_names (fixed_when u ls i t)) (ap local_status e ∙ f)

fixed_at : (ls : List Local) (i : ℕ) (t : Option SourceType) (l : Local) (s : Status) → slice_get ls i ≡ Some l → l.status ≡ s → local_names (fixed ls i t) ≡ local_names ls
fixed_at ls i t l status.Unseen e f =
    status_seen ls i t (Some l) status.Unseen e f
    ∙ ap (λ (o : Option Local). local_names (with_status t o ls i)) e
    ∙ map-set_same (λ (x : Local). x.name) ls i (record { name = l.name; status = status.Fixed t }) l (sym (ap (λ (x : Local). x.name) (get_or_from_slice_get ls i l l e)))
fixed_at ls i t l (status.Fixed u) e f = status_seen ls i t (Some l) (status.Fixed u) e f

fixed_by : (ls : List Local) (i : ℕ) (t : Option SourceType) (o : Option Local) → slice_get ls i ≡ o → local_names (fixed ls i t) ≡ local_names ls
fixed_by ls i t None e = status_seen ls i t None status.Unseen e refl ∙ ap (λ (o : Option Local). local_names (with_status t o ls i)) e
fixed_by ls i t (Some l) e = fixed_at ls i t l l.status e refl

names_fixed : (ls : List Local) (i : ℕ) (t : Option SourceType) → local_names (fixed ls i t) ≡ local_names ls
names_fixed ls i t = fixed_by ls i t (slice_get ls i) refl

pub number_kept : (ls : List Local) (i : ℕ) (t : Option SourceType) (n : List ℕ) → local_from 0 n (fixed ls i t) ≡ local_from 0 n ls
number_kept ls i t n = by_names 0 n (fixed ls i t) ∙ ap (name_from 0 n) (names_fixed ls i t) ∙ sym (by_names 0 n ls)

pub names_kept : (ls : List Local) (i : ℕ) (t : Option SourceType) (n : List ℕ) → names_variable (local_names (fixed ls i t)) n ≡ names_variable (local_names ls) n
names_kept ls i t n = ap (λ ns. names_variable ns n) (names_fixed ls i t)

up_one : (i : ℕ) → suc i ≡ i + 1
up_one i = omega arith

-- ---- one variable more

same_sum : (k m : ℕ) → suc k + m ≡ k + suc m
same_sum k m = omega arith

plus_none : (k : ℕ) → k ≡ k + 0
plus_none k = omega arith

more_by : (k : ℕ) (n : List ℕ) (x : Local) (ls : List Local) (l : Local) (b : Bool) → bytes_eq x.name n ≡ b
    → local_from (suc k) n (ls ++ l ∷ []) ≡ first_of (local_from (suc k) n ls) (value_at l.name (k + suc (length ls)) n)
    → local_from k n ((x ∷ ls) ++ l ∷ []) ≡ first_of (local_from k n (x ∷ ls)) (value_at l.name (k + suc (length ls)) n)
unfolding first_of
more_by k n x ls l true e rest = rw e refl
more_by k n x ls l false e rest = rw e rest

pub number_more : (k : ℕ) (n : List ℕ) (ls : List Local) (l : Local) → local_from k n (ls ++ l ∷ []) ≡ first_of (local_from k n ls) (value_at l.name (k + length ls) n)
unfolding first_of value_at
number_more k n [] l = ap (λ j. if bytes_eq l.name n then Some j else None) (plus_none k)
number_more k n (x ∷ ls) l =
    more_by k n x ls l (bytes_eq x.name n) refl
    (number_more (suc k) n ls l ∙ ap (λ j. first_of (local_from (suc k) n ls) (value_at l.name j n)) (same_sum k (length ls)))

-- ---- a variable whose type is fixed now, or was

status_in : (ls : List Local) (i : ℕ) (t : Option SourceType) (l : Local) (s : Status) → slice_get ls i ≡ Some l → l.status ≡ s → fixed ls i t ≡ fixed_when s ls i t
status_in ls i t l s e f = ap (λ (u : Status). fixed_when u ls i t) (ap local_status e ∙ f)

set_by : (ls : List Local) (i : ℕ) (t : Option SourceType) (l : Local) (s : Status) → slice_get ls i ≡ Some l → l.status ≡ s → is_unseen s ≡ true
    → slice_set ls i (record { name = l.name; status = status.Fixed t }) ≡ fixed ls i t
set_by ls i t l status.Unseen e f h = sym (status_in ls i t l status.Unseen e f ∙ ap (λ (o : Option Local). with_status t o ls i) e)
set_by ls i t l (status.Fixed u) e f h = cc

name_in : Option Local → List ℕ
name_in None = []
name_in (Some l) = l.name

pub set_is_fixed : (ls : List Local) (i : ℕ) (t : Option SourceType) (l k : Local) → i < length ls → l ≡ get_or ls i l → k ≡ get_or ls i k → is_unseen k.status ≡ true
    → slice_set ls i (record { name = l.name; status = status.Fixed t }) ≡ fixed ls i t
unfolding name_in
set_is_fixed ls i t l k low is at h =
    ap (λ (n : List ℕ). slice_set ls i (record { name = n; status = status.Fixed t }))
    (ap name_in (sym (slice_get_read ls (length ls) i l refl low is) ∙ slice_get_read ls (length ls) i k refl low at))
    ∙ set_by ls i t k k.status (slice_get_read ls (length ls) i k refl low at) refl h

kept_by : (ls : List Local) (i : ℕ) (t : Option SourceType) (l : Local) (s : Status) → slice_get ls i ≡ Some l → l.status ≡ s → is_unseen s ≡ false → ls ≡ fixed ls i t
kept_by ls i t l status.Unseen e f h = cc
kept_by ls i t l (status.Fixed u) e f h = sym (status_in ls i t l (status.Fixed u) e f)

pub stays_fixed : (ls : List Local) (i : ℕ) (t : Option SourceType) (l : Local) → i < length ls → l ≡ get_or ls i l → is_unseen l.status ≡ false → ls ≡ fixed ls i t
stays_fixed ls i t l low is h = kept_by ls i t l l.status (slice_get_read ls (length ls) i l refl low is) refl h

-- ---- names that are looked up

abbrev either : Bool → Bool → Bool
either a b = if a then true else b

either_false : (a : Bool) → a ≡ either a false
either_false true = refl
either_false false = refl

variable_more : (v : List ℕ) (vs : List (List ℕ)) (m n : List ℕ) (b : Bool) → bytes_eq v n ≡ b → names_variable (vs ++ m ∷ []) n ≡ either (names_variable vs n) (bytes_eq m n)
    → names_variable ((v ∷ vs) ++ m ∷ []) n ≡ either (names_variable (v ∷ vs) n) (bytes_eq m n)
variable_more v vs m n true e rest = rw e refl
variable_more v vs m n false e rest = rw e rest

found_alone : (b : Bool) → (if b then true else false) ≡ b
found_alone true = refl
found_alone false = refl

one_variable_more : (vs : List (List ℕ)) (m n : List ℕ) → names_variable (vs ++ m ∷ []) n ≡ either (names_variable vs n) (bytes_eq m n)
one_variable_more [] m n = found_alone (bytes_eq m n)
one_variable_more (v ∷ vs) m n = variable_more v vs m n (bytes_eq v n) refl (one_variable_more vs m n)

seen_variable : (m : List ℕ) (vs : List (List ℕ)) → is_seen m vs ≡ names_variable vs m
seen_variable m [] = refl
seen_variable m (v ∷ vs) = ap (λ b. if bytes_eq v m then true else b) (seen_variable m vs)

seen_before : (vs : List (List ℕ)) (m n : List ℕ) (b : Bool) → bytes_eq m n ≡ b → names_variable vs m ≡ true → names_variable vs n ≡ either (names_variable vs n) b
seen_before vs m n true e h = rw (ap (names_variable vs) (sym ((bytes_eq-Decides m n).0 e)) ∙ h) refl
seen_before vs m n false e h = either_false (names_variable vs n)

with_by : (vs : List (List ℕ)) (m n : List ℕ) (b : Bool) → is_seen m vs ≡ b → names_variable (with_name vs m) n ≡ either (names_variable vs n) (bytes_eq m n)
unfolding with_name
with_by vs m n true e = ap (λ (c : Bool). names_variable (if c then vs else vs ++ m ∷ []) n) e ∙ seen_before vs m n (bytes_eq m n) refl (sym (seen_variable m vs) ∙ e)
with_by vs m n false e = ap (λ (c : Bool). names_variable (if c then vs else vs ++ m ∷ []) n) e ∙ one_variable_more vs m n

one_taken : (ls : List Local) (i : ℕ) (l : Local) → l ≡ get_or ls i l → i < length ls → take (i + 1) ls ≡ take i ls ++ l ∷ []
one_taken ls i l is low = ap (λ j. take j ls) (sym (up_one i)) ∙ take-suc ls i l low ∙ ap (λ x. take i ls ++ x ∷ []) (sym is)

names_split : (ls : List Local) (l : Local) → local_names (ls ++ l ∷ []) ≡ local_names ls ++ l.name ∷ []
names_split [] l = refl
names_split (x ∷ ls) l = ap (λ ns. x.name ∷ ns) (names_split ls l)

length_taken : (ls : List Local) (i : ℕ) → i < length ls → length (take i ls) ≡ i
length_taken ls i low = length-take-le i ls (omega (arith, low))

-- the names once one variable more is noted
pub names_next : (ls : List Local) (i : ℕ) (l : Local) (was : List (List ℕ)) (n : List ℕ) → l ≡ get_or ls i l → i < length ls
    → ((m : List ℕ) → names_variable was m ≡ names_variable (local_names (take i ls)) m) → names_variable (with_name was l.name) n ≡ names_variable (local_names (take (i + 1) ls)) n
names_next ls i l was n is low h =
    with_by was l.name n (is_seen l.name was) refl
    ∙ ap (λ b. either b (bytes_eq l.name n)) (h n)
    ∙ sym (one_variable_more (local_names (take i ls)) l.name n)
    ∙ ap (λ ns. names_variable ns n) (sym (names_split (take i ls) l))
    ∙ ap (λ xs. names_variable (local_names xs) n) (sym (one_taken ls i l is low))

plus_taken : (ls : List Local) (i : ℕ) → i < length ls → i ≡ 0 + length (take i ls)
plus_taken ls i low = omega (arith, length_taken ls i low)

-- the numbers once one variable more is noted
pub number_next : (ls : List Local) (i : ℕ) (l : Local) (n : List ℕ) (was now : Option ℕ) → l ≡ get_or ls i l → i < length ls
    → was ≡ local_from 0 n (take i ls) → now ≡ first_of was (value_at l.name i n) → now ≡ local_from 0 n (take (i + 1) ls)
number_next ls i l n was now is low w h =
    h
    ∙ ap (λ o. first_of o (value_at l.name i n)) w
    ∙ ap (λ k. first_of (local_from 0 n (take i ls)) (value_at l.name k n)) (plus_taken ls i low)
    ∙ sym (number_more 0 n (take i ls) l)
    ∙ ap (local_from 0 n) (sym (one_taken ls i l is low))
