-- Types that are repeated, and results that tell nothing.
use Rattle.std.proofs.Common.{◌≡◌, ℕ, zero, suc, ◌<◌, ◌-◌, List, [], ◌∷◌, ◌++◌, Option, Some, None, refl, sym, ap, ◌∙◌, append_assoc, arith}
use Rattle.std.proofs.lemmas.List.{append-nil}
use Rattle.puya_base.specs.declared.source.Place.{Place}
use Rattle.awst.specs.declared.expression.Expr.{Expr}
use Rattle.algopy_library.specs.declared.form.Form.{Form}
use Rattle.path_rules.specs.declared.note.Note.{Note}
use Rattle.source_names.specs.declared.types.SourceType.{SourceType}
use Rattle.call_rules.specs.Calls.{repeated, result_when, form_result, called}
use Rattle.call_rules.specs.Callings.{log_result}

pub repeated-more : (all next : List SourceType) (t : SourceType) (left less : ℕ) (whole : List SourceType) → 0 < left → less ≡ left - 1 → next ≡ all ++ t ∷ [] → all ++ repeated left t ≡ whole → next ++ repeated less t ≡ whole
repeated-more all next t zero less whole h e n w = absurd (omega arith)
repeated-more all next t (suc k) less whole h e n w =
    let same : less ≡ k = omega arith in
    ap (λ m. next ++ repeated m t) same ∙ ap (λ z. z ++ repeated k t) n ∙ append_assoc all (t ∷ []) (repeated k t) ∙ w

pub repeated-all : (all : List SourceType) (t : SourceType) (left : ℕ) (whole : List SourceType) → left ≡ 0 → all ++ repeated left t ≡ whole → all ≡ whole
repeated-all all t left whole e w = sym (append-nil all) ∙ sym (ap (λ m. all ++ repeated m t) e) ∙ w

pub ruleset steps = (repeated-more, repeated-all)

with_none : (into told front : List Note) (more : List Note) → more ≡ [] → told ≡ into ++ front → told ≡ into ++ (front ++ more)
with_none into told front more e t = t ∙ ap (λ z. into ++ z) (sym (append-nil front)) ∙ ap (λ z. into ++ (front ++ z)) (sym e)

call_tells : (p : Place) (n : ℕ) (t : Option SourceType) (order : List ℕ) (es : Option (List Expr)) → (result_when p es (called p n t order)).notes ≡ []
call_tells p n t order None = refl
call_tells p n None order (Some es) = refl
call_tells p n (Some t) order (Some es) = refl

form_tells : (p : Place) (f : Form) (es : Option (List Expr)) → (result_when p es (form_result p f)).notes ≡ []
form_tells p f None = refl
form_tells p f (Some es) = refl

log_tells : (p : Place) (es : Option (List Expr)) → (result_when p es (log_result p)).notes ≡ []
log_tells p None = refl
log_tells p (Some es) = refl

-- what a call tells is what its arguments tell
pub told_by_call : (into told front : List Note) (p : Place) (n : ℕ) (t : Option SourceType) (order : List ℕ) (es : Option (List Expr)) → told ≡ into ++ front → told ≡ into ++ (front ++ (result_when p es (called p n t order)).notes)
told_by_call into told front p n t order es e = with_none into told front _ (call_tells p n t order es) e

pub told_by_form : (into told front : List Note) (p : Place) (f : Form) (es : Option (List Expr)) → told ≡ into ++ front → told ≡ into ++ (front ++ (result_when p es (form_result p f)).notes)
told_by_form into told front p f es e = with_none into told front _ (form_tells p f es) e

pub told_by_log : (into told front : List Note) (p : Place) (es : Option (List Expr)) → told ≡ into ++ front → told ≡ into ++ (front ++ (result_when p es (log_result p)).notes)
told_by_log into told front p es e = with_none into told front _ (log_tells p es) e

pub ruleset told_by = (told_by_call, told_by_form, told_by_log)
