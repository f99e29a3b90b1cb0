-- Functions with what they see: what holds of each of them, their typed functions, and their signatures.
use Rattle.std.proofs.Common.{◌≡◌, ℕ, zero, suc, false, List, [], ◌∷◌, ◌++◌, map, get_or, Option, Some, None, refl, sym, ◌∙◌, ap, subst}
use Rattle.std.specs.Prelude.{slice_get, option_map}
use Rattle.std.specs.List.{All}
use Rattle.std.proofs.lemmas.Option.{none-some, same_Some, slice_get-map, slice_get-get_or}
use Rattle.awst.specs.declared.contract.Func.{Func as TypedFunc}
use Rattle.awst.specs.Sound.{Signature, signature_of, IsSoundFunction}
use Rattle.puya_base.specs.declared.source.Refusal.{Refusal}
use Rattle.source_names.specs.declared.signature.Signature.{Signature as SourceSignature}
use Rattle.type_check.specs.Functions.{typed_function}
use Rattle.type_check.specs.Whole.{Placed, BreaksOnPaths, both_functions, typed_functions}
use Rattle.typing_laws.proofs.Good.{KnowsFunction, KnowsFunctions}
use Rattle.typing_laws.proofs.Functions.{GoodSignature, GoodSight, function_sound, function_known}

-- ---- what holds of each

abbrev pub EachOf : (Placed → Type 0) → List Placed → Type 0
EachOf P [] = Unit {0}
EachOf P (p ∷ ps) = P p × EachOf P ps

pub each_of_append : (P : Placed → Type 0) (ps qs : List Placed) → EachOf P ps → EachOf P qs → EachOf P (ps ++ qs)
each_of_append P [] qs h k = k
each_of_append P (p ∷ ps) qs h k = (h.0, each_of_append P ps qs h.1 k)

pub each_of_front : (P : Placed → Type 0) (ps qs : List Placed) → EachOf P (ps ++ qs) → EachOf P ps
each_of_front P [] qs h = tt
each_of_front P (p ∷ ps) qs h = (h.0, each_of_front P ps qs h.1)

pub each_of_behind : (P : Placed → Type 0) (ps qs : List Placed) → EachOf P (ps ++ qs) → EachOf P qs
each_of_behind P [] qs h = h
each_of_behind P (p ∷ ps) qs h = each_of_behind P ps qs h.1

pub each_of_at : (P : Placed → Type 0) (ps : List Placed) → EachOf P ps → (i : ℕ) (p : Placed) → slice_get ps i ≡ Some p → P p
each_of_at P [] h i p e = absurd (none-some p e)
each_of_at P (q ∷ ps) h zero p e = subst P (same_Some q p e) h.0
each_of_at P (q ∷ ps) h (suc i) p e = each_of_at P ps h.1 i p e

pub each_of_from : (P : Placed → Type 0) (ps : List Placed) → ((i : ℕ) (p : Placed) → slice_get ps i ≡ Some p → P p) → EachOf P ps
each_of_from P [] h = tt
each_of_from P (p ∷ ps) h = (h zero p refl, each_of_from P ps (λ i q e. h (suc i) q e))

-- ---- typed functions

abbrev pub typed_placed : Placed → Option TypedFunc
typed_placed p = typed_function p.scope p.inside p.signature p.function

record FirstTyped (p : Placed) (ps : List Placed) (fs : List TypedFunc) : Type 0 where
  function : TypedFunc
  is : typed_placed p ≡ Some function
  others : List TypedFunc
  known : typed_functions ps ≡ Some others
  are : fs ≡ function ∷ others

first_by : (p : Placed) (ps : List Placed) (fs : List TypedFunc) (f : Option TypedFunc) (o : Option (List TypedFunc)) → typed_placed p ≡ f → typed_functions ps ≡ o → both_functions f o ≡ Some fs → FirstTyped p ps fs
first_by p ps fs None o a b h = absurd (none-some fs h)
first_by p ps fs (Some f) None a b h = absurd (none-some fs h)
first_by p ps fs (Some f) (Some gs) a b h = record { function = f; is = a; others = gs; known = b; are = sym (same_Some (f ∷ gs) fs h) }

first_typed : (p : Placed) (ps : List Placed) (fs : List TypedFunc) → typed_functions (p ∷ ps) ≡ Some fs → FirstTyped p ps fs
first_typed p ps fs h = first_by p ps fs (typed_placed p) (typed_functions ps) refl refl h

-- the typed function of that number
pub record TypedAt (fs : List TypedFunc) (i : ℕ) (p : Placed) : Type 0 where
  pub function : TypedFunc
  pub at : slice_get fs i ≡ Some function
  pub is : typed_placed p ≡ Some function

pub function_at : (ps : List Placed) (fs : List TypedFunc) → typed_functions ps ≡ Some fs → (i : ℕ) (p : Placed) → slice_get ps i ≡ Some p → TypedAt fs i p
function_at [] fs h i p e = absurd (none-some p e)
function_at (q ∷ ps) fs h zero p e =
    let f = first_typed q ps fs h in
    subst (TypedAt fs zero) (same_Some q p e) (record { function = f.function; at = ap (λ z. slice_get z zero) f.are; is = f.is })
function_at (q ∷ ps) fs h (suc i) p e =
    let f = first_typed q ps fs h in
    let r = function_at ps f.others f.known i p e in
    record { function = r.function; at = ap (λ z. slice_get z (suc i)) f.are ∙ r.at; is = r.is }

-- and the function that it is made of
pub record PlacedAt (ps : List Placed) (i : ℕ) (f : TypedFunc) : Type 0 where
  pub placed : Placed
  pub at : slice_get ps i ≡ Some placed
  pub is : typed_placed placed ≡ Some f

pub placed_at : (ps : List Placed) (fs : List TypedFunc) → typed_functions ps ≡ Some fs → (i : ℕ) (f : TypedFunc) → slice_get fs i ≡ Some f → PlacedAt ps i f
placed_at [] fs h i f e = absurd (none-some f (ap (λ z. slice_get z i) (same_Some [] fs h) ∙ e))
placed_at (p ∷ ps) fs h zero f e =
    let r = first_typed p ps fs h in
    record { placed = p; at = refl; is = r.is ∙ sym (ap (λ z. slice_get z zero) r.are) ∙ e }
placed_at (p ∷ ps) fs h (suc i) f e =
    let r = first_typed p ps fs h in
    let s = placed_at ps r.others r.known i f (sym (ap (λ z. slice_get z (suc i)) r.are) ∙ e) in
    record { placed = s.placed; at = s.at; is = s.is }

-- ---- signatures

abbrev pub headers : List Placed → List SourceSignature
headers ps = map (λ (p : Placed). p.signature) ps

record HeaderAt (ps : List Placed) (i : ℕ) (g : SourceSignature) : Type 0 where
  placed : Placed
  at : slice_get ps i ≡ Some placed
  is : placed.signature ≡ g

header_at : (ps : List Placed) (i : ℕ) (g : SourceSignature) → slice_get (headers ps) i ≡ Some g → HeaderAt ps i g
header_at [] i g e = absurd (none-some g e)
header_at (p ∷ ps) zero g e = record { placed = p; at = refl; is = same_Some p.signature g e }
header_at (p ∷ ps) (suc i) g e = let r = header_at ps i g e in record { placed = r.placed; at = r.at; is = r.is }

abbrev pub HasGoodHeader : Placed → Type 0
HasGoodHeader p = GoodSignature p.signature

-- typed functions are what their signatures say
pub headers_known : (ps : List Placed) (fs : List TypedFunc) → typed_functions ps ≡ Some fs → EachOf HasGoodHeader ps → KnowsFunctions (map signature_of fs) (headers ps)
headers_known ps fs h k n g e =
    let r = header_at ps n g e in
    let f = function_at ps fs h n r.placed r.at in
    subst (λ z. KnowsFunction (map signature_of fs) n z) r.is
    (function_known (map signature_of fs) n r.placed.scope r.placed.inside r.placed.signature r.placed.function f.function f.is
    (each_of_at HasGoodHeader ps k n r.placed r.at) (slice_get-map signature_of fs n ∙ ap (option_map signature_of) f.at))

-- ---- they are sound

abbrev pub IsQuiet : Placed → Type 0
IsQuiet p = (r : Refusal) → BreaksOnPaths p r → ⊥

abbrev pub SeesGood : List Signature → Placed → Type 0
SeesGood functions p = GoodSight functions p.scope

pub functions_sound : (functions : List Signature) (ps : List Placed) (fs : List TypedFunc) → typed_functions ps ≡ Some fs
    → EachOf HasGoodHeader ps → EachOf (SeesGood functions) ps → EachOf IsQuiet ps → All (IsSoundFunction functions false) fs
functions_sound functions ps fs h k s q n d low =
    let f = get_or fs n d in
    let r = placed_at ps fs h n f (slice_get-get_or fs n d low) in
    function_sound functions r.placed.scope r.placed.inside r.placed.signature r.placed.function f r.is
    (each_of_at (SeesGood functions) ps s n r.placed r.at) (each_of_at HasGoodHeader ps k n r.placed r.at) (each_of_at IsQuiet ps q n r.placed r.at)
