-- The programs of a contract that breaks no rule: both are there, without parameters, and give UInt64 or bool.
use Rattle.std.proofs.Common.{◌≡◌, ℕ, zero, suc, ◌+◌, arith, ◌⊎◌, inl, inr, Bool, true, false, List, [], ◌∷◌, ◌++◌, Option, Some, None, refl, sym, ◌∙◌, ap, subst}
use Rattle.std.specs.Prelude.{if◌then◌else◌, slice_get}
use Rattle.std.proofs.lemmas.Option.{none-some, same_Some}
use Rattle.puya_base.specs.declared.source.Place.{Place}
use Rattle.puya_base.specs.declared.source.Refusal.{Refusal}
use Rattle.puya_base.specs.declared.source.Rule.TheVariants as rule
use Rattle.awst.specs.Types.{uint64, bool}
use Rattle.py_grammar.specs.declared.module.Func.{Func}
use Rattle.py_grammar.specs.declared.module.Class.{Class}
use Rattle.py_grammar.specs.declared.module.Member.{Member}
use Rattle.py_grammar.specs.declared.module.Member.TheVariants as member
use Rattle.algopy_library.specs.declared.scalar.Scalar.{Scalar}
use Rattle.algopy_library.specs.declared.scalar.Scalar.TheVariants as scalar
use Rattle.source_names.specs.declared.types.SourceType.{SourceType}
use Rattle.source_names.specs.declared.named.Entry.{Entry}
use Rattle.source_names.specs.declared.signature.Parameter.{Parameter}
use Rattle.source_names.specs.Types.{scalar_of}
use Rattle.source_names.specs.Faults.{breaks}
use Rattle.source_headers.specs.Headers.{signature, signature_faults, decorators, all_unwanted, twice}
use Rattle.source_headers.specs.Classes.{functions, is_program, first_from, gives_truth, wrong_result, is_empty, program_faults, selfless, function_faults, member_faults, all_member_faults, member_names, missing, missing_programs, contract_faults}
use Rattle.typing_laws.proofs.Truths.{never}
use Rattle.typing_laws.proofs.Good.{value_type}
use Rattle.typing_laws.proofs.TypeLaws.{scalar_value_is}

-- ---- lists of broken rules that have none

some_none : (r : Refusal) (rs : List Refusal) → r ∷ rs ≡ [] → ⊥
some_none r rs h = cc

pub front_none : (a b : List Refusal) → a ++ b ≡ [] → a ≡ []
front_none [] b h = refl
front_none (r ∷ rs) b h = absurd (some_none r (rs ++ b) h)

pub behind_none : (a b : List Refusal) → a ++ b ≡ [] → b ≡ []
behind_none [] b h = h
behind_none (r ∷ rs) b h = absurd (some_none r (rs ++ b) h)

-- ---- the programs are there

pub record FoundAt (p : Func → Bool) (fs : List Func) (i : ℕ) : Type 0 where
  pub function : Func
  pub at : slice_get fs i ≡ Some function
  pub passes : p function ≡ true

pub record Found (p : Func → Bool) (fs : List Func) (j : ℕ) (o : Option ℕ) : Type 0 where
  pub number : ℕ
  pub is : o ≡ Some (j + number)
  pub found : FoundAt p fs number

found_behind : (p : Func → Bool) (f : Func) (fs : List Func) (j : ℕ) (o : Option ℕ) → Found p fs (suc j) o → Found p (f ∷ fs) j o
found_behind p f fs j o r =
    let k : suc j + r.number ≡ j + suc r.number = omega arith in
    record { number = suc r.number; is = r.is ∙ ap Some k; found = record { function = r.found.function; at = r.found.at; passes = r.found.passes } }

found_by : (p : Func → Bool) (f : Func) (fs : List Func) (j i : ℕ) (b : Bool) → p f ≡ b → (if b then Some j else first_from (suc j) p fs) ≡ Some i
    → (first_from (suc j) p fs ≡ Some i → Found p fs (suc j) (Some i)) → Found p (f ∷ fs) j (Some i)
found_by p f fs j i true e h k =
    let same : j ≡ j + 0 = omega arith in
    record { number = zero; is = sym h ∙ ap Some same; found = record { function = f; at = refl; passes = e } }
found_by p f fs j i false e h k = found_behind p f fs j (Some i) (k h)

first_found : (p : Func → Bool) (fs : List Func) (j i : ℕ) → first_from j p fs ≡ Some i → Found p fs j (Some i)
first_found p [] j i h = absurd (none-some i h)
first_found p (f ∷ fs) j i h = found_by p f fs j i (p f) refl h (λ k. first_found p fs (suc j) i k)

not_missing : (q : Place) (o : Option ℕ) → missing q o ≡ [] → (i : ℕ) × (o ≡ Some i)
not_missing q None h = absurd (some_none (record { rule = rule.P12; place = q }) [] h)
not_missing q (Some i) h = (i, refl)

pub main_there : (q : Place) (p : Func → Bool) (fs : List Func) → missing q (first_from 0 p fs) ≡ [] → Found p fs 0 (first_from 0 p fs)
main_there q p fs h =
    let r = not_missing q (first_from 0 p fs) h in
    subst (Found p fs 0) (sym r.1) (first_found p fs 0 r.0 r.1)

-- ---- what they are

pub record IsMainHeader (es : List Entry) (f : Func) : Type 0 where
  pub params : (signature es true f).params ≡ []
  pub result : wrong_result (signature es true f).result ≡ false

program_by : (es : List Entry) (f : Func) (ps : List Parameter) (b : Bool) → (signature es true f).params ≡ ps → wrong_result (signature es true f).result ≡ b
    → (if is_empty ps then (if b then breaks rule.P12 f.place else []) else breaks rule.P12 f.place) ≡ [] → IsMainHeader es f
program_by es f [] false e k h = record { params = e; result = k }
program_by es f [] true e k h = absurd (some_none (record { rule = rule.P12; place = f.place }) [] h)
program_by es f (p ∷ ps) b e k h = absurd (some_none (record { rule = rule.P12; place = f.place }) [] h)

program_good : (es : List Entry) (f : Func) → program_faults es f ≡ [] → IsMainHeader es f
program_good es f h = program_by es f (signature es true f).params (wrong_result (signature es true f).result) refl refl h

member_good : (es : List Entry) (ms : List Member) → all_member_faults es ms ≡ [] → (i : ℕ) (f : Func) → slice_get (functions ms) i ≡ Some f → function_faults es f ≡ []
member_good es [] h i f e = absurd (none-some f e)
member_good es (member.Text p ls ∷ ms) h i f e = member_good es ms h i f e
member_good es (member.Pass p ∷ ms) h i f e = member_good es ms h i f e
member_good es (member.Field w t ∷ ms) h i f e = member_good es ms (behind_none (member_faults es (member.Field w t)) (all_member_faults es ms) h) i f e
member_good es (member.Func g ∷ ms) h zero f e = subst (λ z. function_faults es z ≡ []) (same_Some g f e) (front_none (function_faults es g) (all_member_faults es ms) h)
member_good es (member.Func g ∷ ms) h (suc i) f e = member_good es ms (behind_none (function_faults es g) (all_member_faults es ms) h) i f e

pub main_good : (es : List Entry) (c : Class) → contract_faults es c ≡ [] → (i : ℕ) (f : Func) → slice_get (functions c.members) i ≡ Some f → is_program f ≡ true → IsMainHeader es f
main_good es c h i f e k =
    let members = behind_none (twice [] (member_names c.members)) (all_member_faults es c.members) (behind_none (missing_programs c) (twice [] (member_names c.members) ++ all_member_faults es c.members) h) in
    let own = member_good es c.members members i f e in
    let others = behind_none (selfless f) ((if is_program f then all_unwanted es f.decorators ++ program_faults es f else decorators es f.def f.decorators) ++ signature_faults es true f) own in
    let first = front_none (if is_program f then all_unwanted es f.decorators ++ program_faults es f else decorators es f.def f.decorators) (signature_faults es true f) others in
    let plain = subst (λ b. (if b then all_unwanted es f.decorators ++ program_faults es f else decorators es f.def f.decorators) ≡ []) k first in
    program_good es f (behind_none (all_unwanted es f.decorators) (program_faults es f) plain)

-- ---- their results

truth_by : (t : SourceType) (o : Option Scalar) → scalar_of t ≡ o → (if gives_truth o then false else true) ≡ false → (value_type t ≡ uint64) ⊎ (value_type t ≡ bool)
truth_by t None e h = never (sym h)
truth_by t (Some scalar.UInt64) e h = inl (scalar_value_is t scalar.UInt64 e)
truth_by t (Some scalar.Bool) e h = inr (scalar_value_is t scalar.Bool e)
truth_by t (Some _) e h = never (sym h)

pub truth_type : (t : SourceType) → wrong_result (Some t) ≡ false → (value_type t ≡ uint64) ⊎ (value_type t ≡ bool)
truth_type t h = truth_by t (scalar_of t) refl h
