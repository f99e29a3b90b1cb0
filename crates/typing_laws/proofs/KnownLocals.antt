-- The variables of a function: its parameters first, whose types are known, and then its targets, where each name is found at its own number.
use Rattle.std.proofs.Common.{◌≡◌, ℕ, zero, suc, ◌+◌, arith, Bool, true, false, List, [], ◌∷◌, ◌++◌, map, length, Option, Some, None, refl, sym, ◌∙◌, ap, subst}
use Rattle.std.specs.Prelude.{if◌then◌else◌, ◌&&◌, bytes_eq, slice_get}
use Rattle.std.specs.List.{Contains}
use Rattle.std.proofs.lemmas.Option.{none-some, same_Some}
use Rattle.std.proofs.lemmas.Slice.Eq.{bytes_eq-Decides}
use Rattle.py_grammar.specs.declared.word.Word.{Word}
use Rattle.awst.specs.declared.ty.Ty.{Ty}
use Rattle.source_names.specs.declared.types.SourceType.{SourceType}
use Rattle.source_names.specs.declared.signature.Parameter.{Parameter}
use Rattle.source_names.specs.Things.{is_myself}
use Rattle.source_names.specs.Lookups.{is_seen}
use Rattle.meaning_rules.specs.declared.scope.Local.{Local}
use Rattle.meaning_rules.specs.declared.scope.Status.{Status}
use Rattle.meaning_rules.specs.declared.scope.Status.TheVariants as status
use Rattle.meaning_rules.specs.Operations.{local_from}
use Rattle.statement_check.specs.Noting.{target_local}
use Rattle.statement_check.specs.Targets.{first_ones}
use Rattle.type_check.specs.Functions.{param_local, parameter_names, both_types, status_type, local_types}
use Rattle.typing_laws.proofs.Known.{IsKnownType, KnownTyped, KnownParams, KnownLocals}

-- ---- each variable has a type

abbrev IsTyped : Status → Type 0
IsTyped s = (t : SourceType) × (s ≡ status.Fixed (Some t))

-- neither unseen nor of an unknown type
pub typed_status : (s : Status) → (s ≡ status.Unseen → ⊥) → (s ≡ status.Fixed None → ⊥) → IsTyped s
typed_status status.Unseen h k = absurd (h refl)
typed_status (status.Fixed None) h k = absurd (k refl)
typed_status (status.Fixed (Some t)) h k = (t, refl)

both_known : (t : SourceType) (o : Option (List Ty)) → KnownTyped o → KnownTyped (both_types (status_type (status.Fixed (Some t))) o)
both_known t None k = absurd k
both_known t (Some us) k = tt

pub types_known : (ls : List Local) → ((i : ℕ) (l : Local) → slice_get ls i ≡ Some l → IsTyped l.status) → KnownTyped (local_types ls)
types_known [] h = tt
types_known (l ∷ ls) h =
    let r : IsTyped l.status = h zero l refl in
    subst (λ z. KnownTyped (both_types (status_type z) (local_types ls))) (sym r.1) (both_known r.0 (local_types ls) (types_known ls (λ i m e. h (suc i) m e)))

-- ---- which variable stands at a number

pub data FirstLocal (ps : List Parameter) (ws : List Word) (i : ℕ) (l : Local) : Type 0 where
  of_param : (p : Parameter) → slice_get ps i ≡ Some p → l ≡ param_local p → FirstLocal ps ws i l
  of_target : (w : Word) (j : ℕ) → slice_get ws j ≡ Some w → i ≡ length ps + j → l ≡ target_local w → FirstLocal ps ws i l

abbrev locals_of : List Parameter → List Word → List Local
locals_of ps ws = map param_local ps ++ map target_local ws

target_at : (ws : List Word) (i : ℕ) (l : Local) → slice_get (map target_local ws) i ≡ Some l → (w : Word) × (slice_get ws i ≡ Some w) × (l ≡ target_local w)
target_at [] i l e = absurd (none-some l e)
target_at (w ∷ ws) zero l e = (w, refl, sym (same_Some (target_local w) l e))
target_at (w ∷ ws) (suc i) l e = target_at ws i l e

first_behind : (q : Parameter) (ps : List Parameter) (ws : List Word) (i : ℕ) (l : Local) → FirstLocal ps ws i l → FirstLocal (q ∷ ps) ws (suc i) l
first_behind q ps ws i l (of_param p a b) = of_param p a b
first_behind q ps ws i l (of_target w j a e b) = of_target w j a (omega (arith, e)) b

pub first_local : (ps : List Parameter) (ws : List Word) (i : ℕ) (l : Local) → slice_get (locals_of ps ws) i ≡ Some l → FirstLocal ps ws i l
first_local [] ws i l e = let r = target_at ws i l e in of_target r.0 i r.1 (omega arith) r.2
first_local (p ∷ ps) ws zero l e = of_param p refl (sym (same_Some (param_local p) l e))
first_local (p ∷ ps) ws (suc i) l e = first_behind p ps ws i l (first_local ps ws i l e)

param_known : (ps : List Parameter) → KnownParams ps → (i : ℕ) (p : Parameter) → slice_get ps i ≡ Some p → IsKnownType p.ty
param_known [] k i p e = absurd (none-some p e)
param_known (q ∷ ps) k zero p e = subst (λ (z : Parameter). IsKnownType z.ty) (same_Some q p e) k.0
param_known (q ∷ ps) k (suc i) p e = param_known ps k.1 i p e

fixed_known : (o : Option SourceType) → IsKnownType o → status.Fixed o ≡ status.Fixed None → ⊥
fixed_known None k e = k
fixed_known (Some t) k e = cc

unseen_known : status.Unseen ≡ status.Fixed None → ⊥
unseen_known e = cc

known_by : (ps : List Parameter) (ws : List Word) → KnownParams ps → (i : ℕ) (l : Local) → FirstLocal ps ws i l → l.status ≡ status.Fixed None → ⊥
known_by ps ws k i l (of_param p a b) e = fixed_known p.ty (param_known ps k i p a) (ap (λ (m : Local). m.status) (sym b) ∙ e)
known_by ps ws k i l (of_target w j a n b) e = unseen_known (ap (λ (m : Local). m.status) (sym b) ∙ e)

-- at first no variable has an unknown type
pub first_known : (ps : List Parameter) (ws : List Word) → KnownParams ps → KnownLocals (locals_of ps ws)
first_known ps ws k i l e h = known_by ps ws k i l (first_local ps ws i l e) h

-- ---- the names of targets

-- the word of that number among the first ones: it was not seen, it is a target, and its name is found at its number
pub record FirstAt (seen : List (List ℕ)) (xs ys : List Word) (w : Word) (j : ℕ) : Type 0 where
  pub fresh : is_seen w.name seen ≡ false
  pub among : Contains xs w
  pub found : (n : ℕ) → local_from n w.name (map target_local ys) ≡ Some (n + j)

contains_behind : (x : Word) (xs : List Word) (w : Word) → Contains xs w → Contains (x ∷ xs) w
contains_behind x xs w h = (suc h.0, omega (arith, h.1), h.2)

later_word : (seen : List (List ℕ)) (x : Word) (xs ys : List Word) (w : Word) (j : ℕ) → FirstAt seen xs ys w j → FirstAt seen (x ∷ xs) ys w j
later_word seen x xs ys w j r = record { fresh = r.fresh; among = contains_behind x xs w r.among; found = r.found }

not_first : (a b : Bool) → (if a then true else b) ≡ false → a ≡ false
not_first true b h = h
not_first false b h = refl

not_second : (a b : Bool) → (if a then true else b) ≡ false → b ≡ false
not_second true b h = cc
not_second false b h = h

own_number : (x : Word) (ls : List Local) (n : ℕ) → local_from n x.name (target_local x ∷ ls) ≡ Some (n + 0)
own_number x ls n = let same : n ≡ n + 0 = omega arith in rw ((bytes_eq-Decides x.name x.name).1 refl) (ap Some same)

first_word : (seen : List (List ℕ)) (x : Word) (xs ys : List Word) → is_seen x.name seen ≡ false → FirstAt seen (x ∷ xs) (x ∷ ys) x zero
first_word seen x xs ys h = record { fresh = h; among = (0, omega arith, refl); found = λ n. own_number x (map target_local ys) n }

next_number : (x w : Word) (ls : List Local) (n j : ℕ) → bytes_eq x.name w.name ≡ false → local_from (suc n) w.name ls ≡ Some (suc n + j) → local_from n w.name (target_local x ∷ ls) ≡ Some (n + suc j)
next_number x w ls n j h e = let same : suc n + j ≡ n + suc j = omega arith in rw h (e ∙ ap Some same)

next_word : (seen : List (List ℕ)) (x : Word) (xs ys : List Word) (w : Word) (j : ℕ) → FirstAt (x.name ∷ seen) xs ys w j → FirstAt seen (x ∷ xs) (x ∷ ys) w (suc j)
next_word seen x xs ys w j r = record {
  fresh = not_second (bytes_eq x.name w.name) (is_seen w.name seen) r.fresh;
  among = contains_behind x xs w r.among;
  found = λ n. next_number x w (map target_local ys) n j (not_first (bytes_eq x.name w.name) (is_seen w.name seen) r.fresh) (r.found (suc n));
}

first_by : (inside : Bool) (seen : List (List ℕ)) (x : Word) (xs : List Word) (w : Word) (j : ℕ) (b c : Bool) → is_seen x.name seen ≡ b
    → slice_get (if b then first_ones inside seen xs else if c then first_ones inside seen xs else x ∷ first_ones inside (x.name ∷ seen) xs) j ≡ Some w
    → (slice_get (first_ones inside seen xs) j ≡ Some w → FirstAt seen xs (first_ones inside seen xs) w j)
    → ((i : ℕ) → slice_get (first_ones inside (x.name ∷ seen) xs) i ≡ Some w → FirstAt (x.name ∷ seen) xs (first_ones inside (x.name ∷ seen) xs) w i)
    → FirstAt seen (x ∷ xs) (if b then first_ones inside seen xs else if c then first_ones inside seen xs else x ∷ first_ones inside (x.name ∷ seen) xs) w j
first_by inside seen x xs w j true c k e f g = later_word seen x xs (first_ones inside seen xs) w j (f e)
first_by inside seen x xs w j false true k e f g = later_word seen x xs (first_ones inside seen xs) w j (f e)
first_by inside seen x xs w zero false false k e f g =
    subst (λ z. FirstAt seen (x ∷ xs) (x ∷ first_ones inside (x.name ∷ seen) xs) z zero) (same_Some x w e) (first_word seen x xs (first_ones inside (x.name ∷ seen) xs) k)
first_by inside seen x xs w (suc i) false false k e f g = next_word seen x xs (first_ones inside (x.name ∷ seen) xs) w i (g i e)

pub first_at : (inside : Bool) (seen : List (List ℕ)) (xs : List Word) (w : Word) (j : ℕ) → slice_get (first_ones inside seen xs) j ≡ Some w → FirstAt seen xs (first_ones inside seen xs) w j
first_at inside seen [] w j e = absurd (none-some w e)
first_at inside seen (x ∷ xs) w j e =
    first_by inside seen x xs w j (is_seen x.name seen) (inside && is_myself x.name) refl e (λ h. first_at inside seen xs w j h) (λ i h. first_at inside (x.name ∷ seen) xs w i h)

-- no parameter has the name
pub behind_params : (ps : List Parameter) (ls : List Local) (name : List ℕ) (n j : ℕ) → is_seen name (parameter_names ps) ≡ false → ((m : ℕ) → local_from m name ls ≡ Some (m + j))
    → local_from n name (map param_local ps ++ ls) ≡ Some (n + (length ps + j))
behind_params [] ls name n j h k = let same : n + j ≡ n + (0 + j) = omega arith in k n ∙ ap Some same
behind_params (p ∷ ps) ls name n j h k =
    let same : suc n + (length ps + j) ≡ n + (suc (length ps) + j) = omega arith in
    rw (not_first (bytes_eq p.name name) (is_seen name (parameter_names ps)) h) (behind_params ps ls name (suc n) j (not_second (bytes_eq p.name name) (is_seen name (parameter_names ps)) h) k ∙ ap Some same)
