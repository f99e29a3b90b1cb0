-- Arguments that fit, one after another, are those that fit at all.
use Rattle.std.proofs.Common.{◌≡◌, ℕ, Bool, true, false, ◌||◌, List, [], ◌∷◌, ◌++◌, Option, Some, None, refl, sym, ap, ◌∙◌, append_assoc}
use Rattle.std.proofs.lemmas.List.{append-nil}
use Rattle.awst.specs.declared.expression.Expr.{Expr}
use Rattle.algopy_library.specs.declared.form.Admits.TheVariants as class
use Rattle.algopy_library.specs.declared.scalar.Scalar.{Scalar}
use Rattle.algopy_library.specs.declared.scalar.Scalar.TheVariants as scalar
use Rattle.path_rules.specs.declared.note.Note.{Note}
use Rattle.meaning_rules.specs.declared.meaning.Typed.{Typed}
use Rattle.call_rules.specs.declared.arguments.Known.{Known}
use Rattle.call_rules.specs.declared.arguments.Known.TheVariants.{Value as value_at, Literal as literal_at}
use Rattle.call_rules.specs.declared.fitting.Fitted.{Fitted as Written}
use Rattle.meaning_rules.specs.Meanings.{Valued, is_scalar}
use Rattle.call_rules.specs.Calls.{Fitted, fitted, and_fitted, both_exprs, expr_of, admits_scalar}
use Rattle.call_rules.specs.Fittings.{nothing_yet, with_expr, number_of, argument_test, with_tested, as_written}

-- ---- what a form admits

pub admits-Number : (o : Option Scalar) → admits_scalar class.Number o ≡ is_scalar o scalar.UInt64
admits-Number None = refl
admits-Number (Some scalar.UInt64) = refl
admits-Number (Some scalar.Bool) = refl
admits-Number (Some scalar.Bytes) = refl
admits-Number (Some scalar.Text) = refl
admits-Number (Some scalar.Account) = refl

pub admits-Bytes : (o : Option Scalar) → admits_scalar class.Bytes o ≡ is_scalar o scalar.Bytes
admits-Bytes None = refl
admits-Bytes (Some scalar.UInt64) = refl
admits-Bytes (Some scalar.Bool) = refl
admits-Bytes (Some scalar.Bytes) = refl
admits-Bytes (Some scalar.Text) = refl
admits-Bytes (Some scalar.Account) = refl

pub admits-Either : (o : Option Scalar) → admits_scalar class.Either o ≡ (is_scalar o scalar.UInt64 || is_scalar o scalar.Bytes)
admits-Either None = refl
admits-Either (Some scalar.UInt64) = refl
admits-Either (Some scalar.Bool) = refl
admits-Either (Some scalar.Bytes) = refl
admits-Either (Some scalar.Text) = refl
admits-Either (Some scalar.Account) = refl

pub admits-Nothing : (o : Option Scalar) → admits_scalar class.Nothing o ≡ false
admits-Nothing o = refl

pub ruleset admitted = (admits-Number, admits-Bytes, admits-Either, admits-Nothing)

-- ---- one after another

abbrev joined : Option (List Expr) → Option (List Expr) → Option (List Expr)
joined None ys = None
joined (Some xs) None = None
joined (Some xs) (Some ys) = Some (xs ++ ys)

abbrev made : Option (List Expr) → List ℕ → Written
made es order = record { exprs = es; order = order }

-- those so far, and those behind them
abbrev pub and_rest : Written → Fitted → Written
and_rest f g = made (joined f.exprs g.exprs) (f.order ++ g.order)

joined-with : (es : Option (List Expr)) (t : Option Typed) (ys : Option (List Expr)) → joined (with_expr es t) ys ≡ joined es (both_exprs (expr_of t) ys)
joined-with None t ys = refl
joined-with (Some es) None ys = refl
joined-with (Some es) (Some t) None = refl
joined-with (Some es) (Some t) (Some ys) = ap Some (append_assoc es (t.expr ∷ []) ys)

joined-none : (es : Option (List Expr)) → joined es (Some []) ≡ es
joined-none None = refl
joined-none (Some es) = ap Some (append-nil es)

both_same : (e f : Option (List Expr)) (o q : List ℕ) → e ≡ f → o ≡ q → made e o ≡ made f q
both_same e f o q h k = ap (λ z. made z o) h ∙ ap (made f) k

nothing_before : (es : Option (List Expr)) (order : List ℕ) → made (joined (Some []) es) order ≡ made es order
nothing_before None order = refl
nothing_before (Some es) order = refl

module _ (test : ℕ → Typed → Valued) where
  fitted-more : (k : Known) (ks : List Known) → fitted test (k ∷ ks) ≡ and_fitted (number_of k) (argument_test test k) (fitted test ks)
  fitted-more (value_at i t) ks = refl
  fitted-more (literal_at i q l) ks = refl

  pub next_told : (into new whole : List Note) (k : Known) (rest more : List Known) → rest ≡ k ∷ more → new ≡ into ++ (argument_test test k).notes → into ++ (fitted test rest).notes ≡ whole
      → new ++ (fitted test more).notes ≡ whole
  next_told into new whole k rest more e n h =
      ap (λ z. z ++ (fitted test more).notes) n ∙ append_assoc into (argument_test test k).notes (fitted test more).notes
      ∙ sym (ap (λ f. into ++ f.notes) (ap (fitted test) e ∙ fitted-more k more)) ∙ h

  pub next_fitted : (so_far next whole : Written) (k : Known) (rest more : List Known) → rest ≡ k ∷ more → next ≡ with_tested test so_far k → and_rest so_far (fitted test rest) ≡ whole
      → and_rest next (fitted test more) ≡ whole
  next_fitted so_far next whole k rest more e n h =
      ap (λ z. and_rest z (fitted test more)) n
      ∙ both_same _ _ _ _ (joined-with so_far.exprs (argument_test test k).typed (fitted test more).exprs) (append_assoc so_far.order (number_of k ∷ []) (fitted test more).order)
      ∙ sym (ap (and_rest so_far) (ap (fitted test) e ∙ fitted-more k more)) ∙ h

  pub last_told : (into whole : List Note) (rest : List Known) → rest ≡ [] → into ++ (fitted test rest).notes ≡ whole → into ≡ whole
  last_told into whole rest e h = sym (append-nil into) ∙ sym (ap (λ r. into ++ (fitted test r).notes) e) ∙ h

  pub last_fitted : (so_far whole : Written) (rest : List Known) → rest ≡ [] → and_rest so_far (fitted test rest) ≡ whole → so_far ≡ whole
  last_fitted so_far whole rest e h =
      sym (both_same _ _ _ _ (joined-none so_far.exprs) (append-nil so_far.order)) ∙ sym (ap (λ r. and_rest so_far (fitted test r)) e) ∙ h

  pub first_fitted : (so_far : Written) (rest whole : List Known) → so_far ≡ nothing_yet → rest ≡ whole → and_rest so_far (fitted test rest) ≡ as_written (fitted test whole)
  first_fitted so_far rest whole e h =
      ap (λ z. and_rest z (fitted test rest)) e ∙ nothing_before (fitted test rest).exprs (fitted test rest).order ∙ ap (λ r. as_written (fitted test r)) h
