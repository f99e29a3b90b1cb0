-- The variables of a typed function: each has a type, and the parameters have theirs.
use Rattle.std.proofs.Common.{◌≡◌, ℕ, zero, suc, length, map, List, [], ◌∷◌, ◌++◌, Option, Some, None, refl, sym, ◌∙◌, ap, subst}
use Rattle.std.specs.Prelude.{slice_get, option_map, IsTrue}
use Rattle.std.specs.List.{All}
use Rattle.std.proofs.lemmas.List.Elements.{All-nil, All-cons}
use Rattle.std.proofs.lemmas.Option.{none-some, same_Some, slice_get-map}
use Rattle.awst.specs.declared.ty.Ty.{Ty}
use Rattle.awst.specs.Types.{type_of, is_kept}
use Rattle.awst.specs.Sound.{Signature}
use Rattle.py_grammar.specs.declared.word.Word.{Word}
use Rattle.source_names.specs.declared.types.SourceType.{SourceType}
use Rattle.source_names.specs.declared.signature.Parameter.{Parameter}
use Rattle.source_names.specs.Types.{typed}
use Rattle.meaning_rules.specs.declared.scope.Local.{Local}
use Rattle.meaning_rules.specs.declared.scope.Status.{Status}
use Rattle.meaning_rules.specs.declared.scope.Status.TheVariants as status
use Rattle.statement_check.specs.Noting.{target_local}
use Rattle.type_check.specs.Functions.{param_local, both_types, status_type, local_types}
use Rattle.typing_laws.proofs.Good.{value_type, IsKeptType, Settled, KeptLocals}

-- ---- each variable has a type

-- a variable with its type, before others
pub record FirstTyped (l : Local) (ls : List Local) (ts : List Ty) : Type 0 where
  pub ty : SourceType
  pub status : l.status ≡ status.Fixed (Some ty)
  pub others : List Ty
  pub known : local_types ls ≡ Some others
  pub are : ts ≡ typed ty ∷ others

first_by : (l : Local) (ls : List Local) (ts : List Ty) (s : Status) (o : Option (List Ty)) → l.status ≡ s → local_types ls ≡ o → both_types (status_type s) o ≡ Some ts → FirstTyped l ls ts
first_by l ls ts status.Unseen o e k h = absurd (none-some ts h)
first_by l ls ts (status.Fixed None) o e k h = absurd (none-some ts h)
first_by l ls ts (status.Fixed (Some t)) None e k h = absurd (none-some ts h)
first_by l ls ts (status.Fixed (Some t)) (Some us) e k h = record { ty = t; status = e; others = us; known = k; are = sym (same_Some (typed t ∷ us) ts h) }

first_typed : (l : Local) (ls : List Local) (ts : List Ty) → local_types (l ∷ ls) ≡ Some ts → FirstTyped l ls ts
first_typed l ls ts h = first_by l ls ts l.status (local_types ls) refl refl h

pub types_length : (ls : List Local) (ts : List Ty) → local_types ls ≡ Some ts → length ts ≡ length ls
types_length [] ts h = ap length (sym (same_Some [] ts h))
types_length (l ∷ ls) ts h = let f = first_typed l ls ts h in ap length f.are ∙ ap suc (types_length ls f.others f.known)

-- the variable of that number
pub record TypedAt (ts : List Ty) (i : ℕ) (l : Local) : Type 0 where
  pub ty : SourceType
  pub status : l.status ≡ status.Fixed (Some ty)
  pub at : slice_get ts i ≡ Some (typed ty)

pub typed_at : (ls : List Local) (ts : List Ty) → local_types ls ≡ Some ts → (i : ℕ) (l : Local) → slice_get ls i ≡ Some l → TypedAt ts i l
typed_at [] ts h i l e = absurd (none-some l e)
typed_at (m ∷ ls) ts h zero l e =
    let f = first_typed m ls ts h in
    subst (TypedAt ts zero) (same_Some m l e) (record { ty = f.ty; status = f.status; at = ap (λ z. slice_get z zero) f.are })
typed_at (m ∷ ls) ts h (suc i) l e =
    let f = first_typed m ls ts h in
    let r = typed_at ls f.others f.known i l e in
    record { ty = r.ty; status = r.status; at = ap (λ z. slice_get z (suc i)) f.are ∙ r.at }

pub same_Fixed : (t u : Option SourceType) → status.Fixed t ≡ status.Fixed u → t ≡ u
same_Fixed t u h = cc

pub all_settled : (functions : List Signature) (ls : List Local) (ts : List Ty) → local_types ls ≡ Some ts → Settled (record { functions = functions; variables = map type_of ts }) ls
all_settled functions ls ts h i l t e k =
    let r = typed_at ls ts h i l e in
    record { ty = r.ty; is = same_Fixed t (Some r.ty) (sym k ∙ r.status); at = slice_get-map type_of ts i ∙ ap (option_map type_of) r.at }

pub all_kept : (ls : List Local) (ts : List Ty) → local_types ls ≡ Some ts → KeptLocals ls → All (λ t. IsTrue (is_kept t)) (map type_of ts)
all_kept [] ts h k = subst (λ z. All (λ t. IsTrue (is_kept t)) (map type_of z)) (same_Some [] ts h) (All-nil (λ t. IsTrue (is_kept t)))
all_kept (l ∷ ls) ts h k =
    let f = first_typed l ls ts h in
    subst (λ z. All (λ t. IsTrue (is_kept t)) (map type_of z)) (sym f.are)
    (All-cons (λ t. IsTrue (is_kept t)) (value_type f.ty) (map type_of f.others) (k zero l f.ty refl f.status) (all_kept ls f.others f.known (λ i m t a b. k (suc i) m t a b)))

-- ---- the first variables: parameters with types of values, and targets that were not assigned yet

abbrev pub KeptParams : List Parameter → Type 0
KeptParams ps = (i : ℕ) (p : Parameter) (t : SourceType) → slice_get ps i ≡ Some p → p.ty ≡ Some t → IsKeptType t

unseen_only : (t : SourceType) → status.Unseen ≡ status.Fixed (Some t) → ⊥
unseen_only t h = cc

targets_kept : (ws : List Word) → KeptLocals (map target_local ws)
targets_kept [] i l t e k = absurd (none-some l e)
targets_kept (w ∷ ws) zero l t e k = absurd (unseen_only t (ap (λ (m : Local). m.status) (same_Some (target_local w) l e) ∙ k))
targets_kept (w ∷ ws) (suc i) l t e k = targets_kept ws i l t e k

pub first_kept : (ps : List Parameter) (ws : List Word) → KeptParams ps → KeptLocals (map param_local ps ++ map target_local ws)
first_kept [] ws h i l t e k = targets_kept ws i l t e k
first_kept (p ∷ ps) ws h zero l t e k = h zero p t refl (same_Fixed p.ty (Some t) (ap (λ (m : Local). m.status) (same_Some (param_local p) l e) ∙ k))
first_kept (p ∷ ps) ws h (suc i) l t e k = first_kept ps ws (λ j q u a b. h (suc j) q u a b) i l t e k

pub param_at : (ps : List Parameter) (ls : List Local) (i : ℕ) (p : Parameter) → slice_get ps i ≡ Some p → slice_get (map param_local ps ++ ls) i ≡ Some (param_local p)
param_at [] ls i p e = absurd (none-some p e)
param_at (q ∷ ps) ls zero p e = ap (λ z. Some (param_local z)) (same_Some q p e)
param_at (q ∷ ps) ls (suc i) p e = param_at ps ls i p e
