-- A function that breaks no rule is typed, where its names and its signature are known.
use Rattle.std.proofs.Common.{◌≡◌, ℕ, ◌+◌, arith, true, false, List, map, length, get_or, Bool, Option, Some, None, sym, ◌∙◌, ap}
use Rattle.std.specs.Prelude.{slice_get}
use Rattle.std.proofs.lemmas.Option.{same_Some, slice_get_within, slice_get-get_or}
use Rattle.puya_base.specs.declared.source.Refusal.{Refusal}
use Rattle.awst.specs.declared.ty.Ty.{Ty}
use Rattle.awst.specs.declared.statement.Stmt.{Stmt}
use Rattle.py_grammar.specs.declared.module.Func.{Func}
use Rattle.path_rules.specs.Rules.{IsBroken, told}
use Rattle.source_names.specs.declared.types.SourceType.{SourceType}
use Rattle.source_names.specs.declared.signature.Signature.{Signature}
use Rattle.source_names.specs.Types.{typed}
use Rattle.meaning_rules.specs.declared.scope.Scope.{Scope}
use Rattle.meaning_rules.specs.declared.scope.Local.{Local}
use Rattle.meaning_rules.specs.declared.scope.Status.TheVariants as status
use Rattle.expression_check.specs.Variables.{local_status}
use Rattle.statement_check.specs.Lines.{block_of}
use Rattle.statement_check.specs.Noting.{target_local}
use Rattle.statement_check.specs.Targets.{all_targets}
use Rattle.statement_check.specs.Statements.{Done, checks}
use Rattle.type_check.specs.Functions.{parameter_names, target_words, first_locals, body, assigned_from, notes_of, end_of, type_known, local_types, function_of, typed_function}
use Rattle.typing_laws.specs.Naming.{are_named}
use Rattle.typing_laws.proofs.Good.{Quiet, Later, Stays}
use Rattle.typing_laws.proofs.Quieting.{quiet_behind}
use Rattle.typing_laws.proofs.Growing.{checks_later}
use Rattle.typing_laws.proofs.Known.{KnownTyped, IsKnownType, KnownParams, KnownSignature, KnownNames, KnownLocals}
use Rattle.typing_laws.proofs.KnownStatements.{TargetsFixed, block_known}
use Rattle.typing_laws.proofs.KnownLocals.{typed_status, types_known, FirstLocal, of_param, of_target, first_local, first_known, first_at, behind_params}

-- ---- no variable is left without a type

not_unseen : (t : Option SourceType) → status.Unseen ≡ status.Fixed t → ⊥
not_unseen t e = cc

module _ (inside : Bool) (g : Signature) (f : Func) where
  abbrev ours : List Local
  ours = first_locals inside g f

  seen_by : (more : List Local) → Later ours more → TargetsFixed ours more (all_targets (block_of f.body)) → (i : ℕ) (m l : Local) → slice_get more i ≡ Some l → slice_get ours i ≡ Some m
      → FirstLocal g.params (target_words inside g f) i m → l.status ≡ status.Unseen → ⊥
  seen_by more h k i m l e a (of_param p b c) u =
      let r : Stays more i p.ty = h.stays i m p.ty a (ap (λ (z : Local). z.status) c) in
      not_unseen p.ty (sym u ∙ ap (λ (z : Local). z.status) (same_Some l r.local (sym e ∙ r.at)) ∙ r.status)
  seen_by more h k i m l e a (of_target w j b c d) u =
      let r = first_at inside (parameter_names g.params) (all_targets (block_of f.body)) w j b in
      let same : 0 + (length g.params + j) ≡ i = omega (arith, c) in
      k w i r.among (behind_params g.params (map target_local (target_words inside g f)) w.name 0 j r.fresh r.found ∙ ap Some same) (ap local_status e ∙ u)

  seen_all : (more : List Local) → Later ours more → TargetsFixed ours more (all_targets (block_of f.body)) → (i : ℕ) (l : Local) → slice_get more i ≡ Some l → l.status ≡ status.Unseen → ⊥
  seen_all more h k i l e =
      let within = slice_get_within more i l e in
      let long = h.same_length in
      let at = slice_get-get_or ours i l (omega (arith, within, long)) in
      seen_by more h k i (get_or ours i l) l e at (first_local g.params (target_words inside g f) i (get_or ours i l) at)

  locals_typed : (more : List Local) → Later ours more → KnownLocals more → TargetsFixed ours more (all_targets (block_of f.body)) → KnownTyped (local_types more)
  locals_typed more h l k = types_known more (λ i m e. typed_status m.status (seen_all more h k i m e) (l i m e))

-- ---- it is typed

made_of : (n : ℕ) (f : Func) (r : Ty) (ts : Option (List Ty)) (ss : Option (List Stmt)) → KnownTyped ts → KnownTyped ss → KnownTyped (function_of n f (Some r) ts ss)
made_of n f r None ss h k = absurd h
made_of n f r (Some ts) None h k = absurd k
made_of n f r (Some ts) (Some ss) h k = tt

typed_by : (s : Scope) (inside : Bool) (g : Signature) (f : Func) (o : Option SourceType) → IsKnownType o → KnownNames s → KnownParams g.params → are_named (block_of f.body) ≡ true
    → Quiet false (checks s o (first_locals inside g f) (block_of f.body)).notes
    → KnownTyped (function_of (length g.params) f (type_known o) (local_types (checks s o (first_locals inside g f) (block_of f.body)).locals) (checks s o (first_locals inside g f) (block_of f.body)).typed)
typed_by s inside g f None r k h n q = absurd r
typed_by s inside g f (Some t) r k h n q =
    let ls = first_locals inside g f in
    let d : Done = checks s (Some t) ls (block_of f.body) in
    let z = block_known s t ls f.body false k (first_known g.params (target_words inside g f) h) n q in
    made_of (length g.params) f (typed t) (local_types d.locals) d.typed (locals_typed inside g f d.locals (checks_later s (Some t) ls (block_of f.body)) z.locals z.targets) z.typed

pub function_typed : (s : Scope) (inside : Bool) (g : Signature) (f : Func) → KnownNames s → KnownSignature g → are_named (block_of f.body) ≡ true
    → ((r : Refusal) → IsBroken (notes_of s inside g f) (end_of g f) r → ⊥) → KnownTyped (typed_function s inside g f)
function_typed s inside g f k h n q =
    typed_by s inside g f g.result h.1 k h.0 n (quiet_behind false (assigned_from 0 g.params) (body s inside g f).notes (λ r t. q r (told r t)))
