-- Typed functions are sound, and have the types of their signatures.
use Rattle.std.proofs.Common.{◌≡◌, ◌⊎◌, inl, inr, true, take-append-drop, ℕ, zero, suc, ◌<◌, ◌≤◌, arith, length-append, length-take-le, length, [], ◌∷◌, take, drop, map, Bool, false, List, ◌++◌, Option, Some, None, refl, sym, ◌∙◌, ap, subst}
use Rattle.std.specs.Prelude.{slice_get, option_map, nat_lt, IsTrue}
use Rattle.std.specs.List.{All}
use Rattle.std.proofs.lemmas.Option.{none-some, same_Some, slice_get-map, slice_get_within}
use Rattle.std.proofs.lemmas.List.{length-map}
use Rattle.puya_base.specs.declared.source.Place.{Place}
use Rattle.puya_base.specs.declared.source.Refusal.{Refusal}
use Rattle.puya_base.specs.declared.source.Rule.TheVariants.{P17, P18}
use Rattle.awst.specs.declared.ty.Ty.{Ty}
use Rattle.awst.specs.declared.statement.Stmt.{Stmt}
use Rattle.awst.specs.declared.contract.Func.{Func as TypedFunc}
use Rattle.awst.specs.Types.{ValueType, nothing, type_of, is_kept}
use Rattle.awst.specs.Plain.{all_plain, statement_of}
use Rattle.awst.specs.Paths.{sts_moves, ReadsAssigned, NeverEnds}
use Rattle.awst.specs.Paths as Paths
use Rattle.awst.specs.Sound.{Names, Within, Signature, signature_of, AreSoundStatements, IsSoundFunction}
use Rattle.py_grammar.specs.declared.module.Func.{Func}
use Rattle.path_rules.specs.Steps.{steps_of}
use Rattle.path_rules.specs.Walks.{goes, leaves, breaks, continues, Way, out, returns, at, Walks}
use Rattle.path_rules.specs.Rules.{IsBroken, refused, told, unassigned, no_return}
use Rattle.source_names.specs.declared.types.SourceType.{SourceType}
use Rattle.source_names.specs.declared.signature.Signature.{Signature as SourceSignature}
use Rattle.source_names.specs.Types.{typed, is_nothing}
use Rattle.source_names.specs.declared.signature.Parameter.{Parameter}
use Rattle.meaning_rules.specs.declared.scope.Scope.{Scope}
use Rattle.meaning_rules.specs.declared.scope.Local.{Local}
use Rattle.meaning_rules.specs.declared.scope.Status.TheVariants as status
use Rattle.statement_check.specs.Lines.{block_of}
use Rattle.statement_check.specs.Statements.{checks}
use Rattle.statement_check.specs.Noting.{target_local}
use Rattle.type_check.specs.Functions.{param_local, target_words, first_locals, body, assigned_from, notes_of, end_when, end_of, type_known, local_types, function_of, typed_function}
use Rattle.typing_laws.proofs.Good.{value_type, IsKeptType, IsResultType, Later, Settled, KeptLocals, Quiet, Agrees, GoodNames, KnowsFunction}
use Rattle.typing_laws.proofs.Locals.{KeptParams, types_length, typed_at, all_settled, all_kept, first_kept, param_at, same_Fixed}
use Rattle.typing_laws.proofs.Quieting.{tell_behind}
use Rattle.typing_laws.proofs.Starting.{walk_started}
use Rattle.typing_laws.proofs.TypeLaws.{nothing_value}
use Rattle.typing_laws.proofs.Growing.{checks_later}
use Rattle.typing_laws.proofs.Keeping.{checks_keep}
use Rattle.typing_laws.proofs.Blocks.{block_sound}
use Rattle.py_grammar.specs.declared.statement.Block.{Block}
use Rattle.typing_laws.proofs.Following.{checks_follow, from_anywhere}

-- a signature's types are those of values, but for a result that is none
pub record GoodSignature (g : SourceSignature) : Type 0 where
  pub params : KeptParams g.params
  pub result : (t : SourceType) → g.result ≡ Some t → IsResultType t

-- the names of a scope are good, whatever the variables
abbrev pub GoodSight : List Signature → Scope → Type 0
GoodSight functions s = (vs : List ValueType) → GoodNames (record { functions = functions; variables = vs }) s

abbrev pub typed_as : SourceSignature → Func → SourceType → List Ty → List Stmt → TypedFunc
typed_as g f t ts ss = record { name = f.name.name; params = take (length g.params) ts; result = typed t; locals = drop (length g.params) ts; body = ss }

-- what a typed function is made of
pub record Typing (s : Scope) (inside : Bool) (g : SourceSignature) (f : Func) (tf : TypedFunc) : Type 0 where
  pub result : SourceType
  pub gives : g.result ≡ Some result
  pub types : List Ty
  pub known : local_types (body s inside g f).locals ≡ Some types
  pub statements : List Stmt
  pub done : (body s inside g f).typed ≡ Some statements
  pub is : typed_as g f result types statements ≡ tf

typing_by : (s : Scope) (inside : Bool) (g : SourceSignature) (f : Func) (tf : TypedFunc) (o : Option SourceType) (us : Option (List Ty)) (rs : Option (List Stmt))
    → g.result ≡ o → local_types (body s inside g f).locals ≡ us → (body s inside g f).typed ≡ rs → function_of (length g.params) f (type_known o) us rs ≡ Some tf → Typing s inside g f tf
typing_by s inside g f tf None us rs a b c h = absurd (none-some tf h)
typing_by s inside g f tf (Some t) None rs a b c h = absurd (none-some tf h)
typing_by s inside g f tf (Some t) (Some ts) None a b c h = absurd (none-some tf h)
typing_by s inside g f tf (Some t) (Some ts) (Some ss) a b c h =
    record { result = t; gives = a; types = ts; known = b; statements = ss; done = c; is = same_Some (typed_as g f t ts ss) tf h }

pub typing : (s : Scope) (inside : Bool) (g : SourceSignature) (f : Func) (tf : TypedFunc) → typed_function s inside g f ≡ Some tf → Typing s inside g f tf
typing s inside g f tf h = typing_by s inside g f tf g.result (local_types (body s inside g f).locals) (body s inside g f).typed refl refl refl h

-- ---- it has a type for each parameter

body_later : (s : Scope) (inside : Bool) (g : SourceSignature) (f : Func) → Later (first_locals inside g f) (body s inside g f).locals
body_later s inside g f = checks_later s g.result (first_locals inside g f) (block_of f.body)

types_enough : (s : Scope) (inside : Bool) (g : SourceSignature) (f : Func) (ts : List Ty) → local_types (body s inside g f).locals ≡ Some ts → length g.params ≤ length ts
types_enough s inside g f ts h =
    let same = (body_later s inside g f).same_length in
    let ours = types_length (body s inside g f).locals ts h in
    let both = length-append (map param_local g.params) (map target_local (target_words inside g f)) in
    let front = length-map g.params param_local in
    omega (arith, same, ours, both, front)

params_count : (s : Scope) (inside : Bool) (g : SourceSignature) (f : Func) (ts : List Ty) → local_types (body s inside g f).locals ≡ Some ts → length (take (length g.params) ts) ≡ length g.params
params_count s inside g f ts h = length-take-le (length g.params) ts (types_enough s inside g f ts h)

taken_at : (n : ℕ) (ts : List Ty) (i : ℕ) → i < n → slice_get (take n ts) i ≡ slice_get ts i
taken_at zero ts i h = absurd (omega (arith, h))
taken_at (suc n) [] i h = refl
taken_at (suc n) (t ∷ ts) zero h = refl
taken_at (suc n) (t ∷ ts) (suc i) h = taken_at n ts i (omega (arith, h))

param_typed : (s : Scope) (inside : Bool) (g : SourceSignature) (f : Func) (ts : List Ty) → local_types (body s inside g f).locals ≡ Some ts
    → (i : ℕ) (p : Parameter) (t : SourceType) → slice_get g.params i ≡ Some p → p.ty ≡ Some t → slice_get (map type_of (take (length g.params) ts)) i ≡ Some (value_type t)
param_typed s inside g f ts h i p t a b =
    let st = (body_later s inside g f).stays i (param_local p) (Some t) (param_at g.params (map target_local (target_words inside g f)) i p a) (ap status.Fixed b) in
    let r = typed_at (body s inside g f).locals ts h i st.local st.at in
    let same = same_Some r.ty t (same_Fixed (Some r.ty) (Some t) (sym r.status ∙ st.status)) in
    slice_get-map type_of (take (length g.params) ts) i
    ∙ ap (option_map type_of) (taken_at (length g.params) ts i (slice_get_within g.params i p a) ∙ r.at)
    ∙ ap (λ z. Some (value_type z)) same

-- ---- it is sound

abbrev names_of : List Signature → List Ty → Names
names_of functions ts = record { functions = functions; variables = map type_of ts }

abbrev QuietFunction : Scope → Bool → SourceSignature → Func → Type 0
QuietFunction s inside g f = (r : Refusal) → IsBroken (notes_of s inside g f) (end_of g f) r → ⊥

result_by : (t : SourceType) (b : Bool) → is_nothing t ≡ b → IsResultType t → IsKeptType t ⊎ (value_type t ≡ nothing)
result_by t true e h = inr (nothing_value t e)
result_by t false e h = inl (h e)

-- the end of a function whose result is a value
kept_something : (t : SourceType) (b : Bool) → is_nothing t ≡ b → IsKeptType t → is_nothing t ≡ false
kept_something t false e k = e
kept_something t true e k = let no : false ≡ true = sym (ap is_kept (nothing_value t e)) ∙ k in cc

end_there : (g : SourceSignature) (f : Func) (t : SourceType) → g.result ≡ Some t → IsKeptType t → end_of g f ≡ Some f.name.place
end_there g f t e k = ap (end_when f.name.place) e ∙ rw (kept_something t (is_nothing t) refl k) refl

body_quiet : (s : Scope) (inside : Bool) (g : SourceSignature) (f : Func) → QuietFunction s inside g f → Quiet false (body s inside g f).notes
body_quiet s inside g f q r h = q r (told r (tell_behind false (assigned_from 0 g.params) (body s inside g f).notes r h))

-- no walk of its notes reads an unassigned variable, and none gets to an end that is not there
read_broken : (s : Scope) (inside : Bool) (g : SourceSignature) (f : Func) → QuietFunction s inside g f → (x : ℕ) (p : Place) (way : Way)
    → Agrees (Paths.at_read p) way → Walks x (steps_of (body s inside g f).notes) (nat_lt x (length g.params)) way false → ⊥
read_broken s inside g f q x p (at r) a h = q (refused P17 r) (unassigned r (x, walk_started x g.params (body s inside g f).notes (at r) false h))
read_broken s inside g f q x p returns a h = a
read_broken s inside g f q x p (out goes) a h = a
read_broken s inside g f q x p (out leaves) a h = a
read_broken s inside g f q x p (out breaks) a h = a
read_broken s inside g f q x p (out continues) a h = a

end_broken : (s : Scope) (inside : Bool) (g : SourceSignature) (f : Func) (p : Place) → end_of g f ≡ Some p → QuietFunction s inside g f → (x : ℕ) (t : Bool) (way : Way)
    → Agrees Paths.goes_on way → Walks x (steps_of (body s inside g f).notes) (nat_lt x (length g.params)) way t → ⊥
end_broken s inside g f p e q x t (out goes) a h = q (refused P18 p) (no_return p e (x, t, walk_started x g.params (body s inside g f).notes (out goes) t h))
end_broken s inside g f p e q x t (out leaves) a h = a
end_broken s inside g f p e q x t (out breaks) a h = a
end_broken s inside g f p e q x t (out continues) a h = a
end_broken s inside g f p e q x t returns a h = a
end_broken s inside g f p e q x t (at r) a h = a

sound_body : (names : Names) (s : Scope) (within : Within) (t : SourceType) (o : Option SourceType) → o ≡ Some t → GoodNames names s → within.result ≡ value_type t → IsResultType t
    → (ls : List Local) (b : Block) (ss : List Stmt) → KeptLocals ls → Settled names (checks s o ls (block_of b)).locals → Quiet within.in_loop (checks s o ls (block_of b)).notes → (checks s o ls (block_of b)).typed ≡ Some ss
    → AreSoundStatements names within (all_plain names.variables 0 (map statement_of ss))
sound_body names s within t o e g w r ls b ss k =
    subst (λ z. Settled names (checks s z ls (block_of b)).locals → Quiet within.in_loop (checks s z ls (block_of b)).notes → (checks s z ls (block_of b)).typed ≡ Some ss → AreSoundStatements names within (all_plain names.variables 0 (map statement_of ss)))
    (sym e) (λ d q h. block_sound names s within t g w r ls b ss k d q h 0)

record SoundParts (functions : List Signature) (t : SourceType) (vs : List Ty) (ss : List Stmt) (n : ℕ) : Type 0 where
  variables : All (λ u. IsTrue (is_kept u)) (map type_of vs)
  body : AreSoundStatements (names_of functions vs) (record { result = value_type t; in_loop = false; in_entry = false }) (all_plain (map type_of vs) 0 (map statement_of ss))
  assigned : ReadsAssigned n (sts_moves (all_plain (map type_of vs) 0 (map statement_of ss)))
  returns : IsKeptType t → NeverEnds (sts_moves (all_plain (map type_of vs) 0 (map statement_of ss)))

sound_parts : (functions : List Signature) (s : Scope) (inside : Bool) (g : SourceSignature) (f : Func) (t : SourceType) (ts : List Ty) (ss : List Stmt)
    → g.result ≡ Some t → local_types (body s inside g f).locals ≡ Some ts → (body s inside g f).typed ≡ Some ss
    → GoodSight functions s → GoodSignature g → QuietFunction s inside g f → SoundParts functions t ts ss (length g.params)
sound_parts functions s inside g f t ts ss e h d k m q =
    let names = names_of functions ts in
    let ls = first_locals inside g f in
    let good = k (map type_of ts) in
    let first = first_kept g.params (target_words inside g f) m.params in
    let known = all_settled functions (body s inside g f).locals ts h in
    let last = checks_keep names s g.result ls (block_of f.body) good first known in
    let ms = sts_moves (all_plain (map type_of ts) 0 (map statement_of ss)) in
    let follow = checks_follow names s g.result good ls (block_of f.body) ss first known d 0 in
    record {
      variables = all_kept (body s inside g f).locals ts h last;
      body = sound_body names s (record { result = value_type t; in_loop = false; in_entry = false }) t g.result e good refl (m.result t e) ls f.body ss first known (body_quiet s inside g f q) d;
      assigned = λ x p w. let r = follow x (nat_lt x (length g.params)) false (Paths.at_read p) w in read_broken s inside g f q x p r.way r.agrees r.walk;
      returns = λ b x r u w.
          let z = from_anywhere x ms r u Paths.goes_on w (nat_lt x (length g.params)) in
          let y = follow x (nat_lt x (length g.params)) z.state Paths.goes_on z.walk in
          end_broken s inside g f f.name.place (end_there g f t e b) q x z.state y.way y.agrees y.walk;
    }

sound_as : (functions : List Signature) (s : Scope) (inside : Bool) (g : SourceSignature) (f : Func) (t : SourceType) (ts : List Ty) (ss : List Stmt)
    → g.result ≡ Some t → local_types (body s inside g f).locals ≡ Some ts → (body s inside g f).typed ≡ Some ss
    → GoodSight functions s → GoodSignature g → QuietFunction s inside g f → IsSoundFunction functions false (typed_as g f t ts ss)
sound_as functions s inside g f t ts ss e h d k m q =
    let own = typed_as g f t ts ss in
    let first = sound_parts functions s inside g f t ts ss e h d k m q in
    let r = subst (λ n. SoundParts functions t (own.params ++ own.locals) ss n) (sym (params_count s inside g f ts h)) (subst (λ vs. SoundParts functions t vs ss (length g.params)) (sym (take-append-drop (length g.params) ts)) first) in
    record { variables = r.variables; result = result_by t (is_nothing t) refl (m.result t e); body = r.body; assigned = r.assigned; returns = r.returns }

pub function_sound : (functions : List Signature) (s : Scope) (inside : Bool) (g : SourceSignature) (f : Func) (tf : TypedFunc) → typed_function s inside g f ≡ Some tf
    → GoodSight functions s → GoodSignature g → ((r : Refusal) → IsBroken (notes_of s inside g f) (end_of g f) r → ⊥) → IsSoundFunction functions false tf
function_sound functions s inside g f tf h k m q =
    let y = typing s inside g f tf h in
    subst (IsSoundFunction functions false) y.is (sound_as functions s inside g f y.result y.types y.statements y.gives y.known y.done k m q)

pub function_known : (functions : List Signature) (n : ℕ) (s : Scope) (inside : Bool) (g : SourceSignature) (f : Func) (tf : TypedFunc) → typed_function s inside g f ≡ Some tf
    → GoodSignature g → slice_get functions n ≡ Some (signature_of tf) → KnowsFunction functions n g
function_known functions n s inside g f tf h m e =
    let y = typing s inside g f tf h in
    let own = typed_as g f y.result y.types y.statements in
    record {
      signature = signature_of own;
      exists = e ∙ ap (λ z. Some (signature_of z)) (sym y.is);
      count = length-map own.params type_of ∙ params_count s inside g f y.types y.known;
      param = λ i p t a b. param_typed s inside g f y.types y.known i p t a b;
      result = λ t k. (ap value_type (same_Some y.result t (sym y.gives ∙ k)), m.result t k);
    }
