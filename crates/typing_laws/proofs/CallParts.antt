-- Arguments that fit are good parts of a call.
use Rattle.std.proofs.Common.{◌≡◌, ℕ, suc, ◌∙◌, List, [], ◌∷◌, map, length, Option, Some, None, refl, sym, ap, subst}
use Rattle.std.proofs.lemmas.Option.{none-some, same_Some}
use Rattle.awst.specs.declared.expression.Expr.{Expr}
use Rattle.awst.specs.Plain.{trees_of}
use Rattle.awst.specs.Sound.{AreSound, types_in}
use Rattle.source_names.specs.declared.types.SourceType.{SourceType}
use Rattle.meaning_rules.specs.declared.meaning.Typed.{Typed}
use Rattle.meaning_rules.specs.Meanings.{Valued}
use Rattle.call_rules.specs.declared.arguments.Known.{Known}
use Rattle.call_rules.specs.declared.arguments.Known.TheVariants.{Value as value_at, Literal as literal_at}
use Rattle.call_rules.specs.Fittings.{number_of}
use Rattle.call_rules.specs.Calls.{fitted, both_exprs, expr_of}
use Rattle.puya_base.specs.declared.source.Rule.TheVariants as rule
use Rattle.typing_laws.proofs.Good.{World, Reading, GoodTyped, IsKeptType, GoodLit, AllWithin, value_type}
use Rattle.typing_laws.proofs.Giving.{reading_append, reading_broken}

abbrev pub GoodKnown : World → Known → Type 0
GoodKnown w (value_at i t) = GoodTyped w t × IsKeptType t.ty
GoodKnown w (literal_at i q l) = GoodLit l

abbrev pub GoodKnowns : World → List Known → Type 0
GoodKnowns w [] = Unit {0}
GoodKnowns w (k ∷ ks) = GoodKnown w k × GoodKnowns w ks

-- the parts are the values of the arguments, each of which has passed
abbrev pub Passed : (ℕ → Typed → Type 0) → List Known → List Expr → Type 0
Passed T [] [] = Unit {0}
Passed T (value_at i t ∷ ks) (e ∷ es) = (t.expr ≡ e) × T i t × Passed T ks es
Passed T _ _ = ⊥

abbrev pub Tells : (ℕ → Typed → Valued) → (ℕ → Typed → Type 0) → Type 0
Tells test T = (i : ℕ) (t u : Typed) → (test i t).typed ≡ Some u → (u ≡ t) × T i t

record Split (o : Option Typed) (r : Option (List Expr)) (es : List Expr) : Type 0 where
  first : Typed
  rest : List Expr
  first_is : o ≡ Some first
  rest_is : r ≡ Some rest
  all : first.expr ∷ rest ≡ es

split : (o : Option Typed) (r : Option (List Expr)) (es : List Expr) → both_exprs (expr_of o) r ≡ Some es → Split o r es
split None r es e = absurd (none-some es e)
split (Some t) None es e = absurd (none-some es e)
split (Some t) (Some rest) es e = record { first = t; rest = rest; first_is = refl; rest_is = refl; all = same_Some (t.expr ∷ rest) es e }

pub fitted_passed : (test : ℕ → Typed → Valued) (T : ℕ → Typed → Type 0) → Tells test T → (ks : List Known) (es : List Expr) → (fitted test ks).exprs ≡ Some es → Passed T ks es
fitted_passed test T h [] es e = subst (Passed T []) (same_Some [] es e) tt
fitted_passed test T h (value_at i t ∷ ks) es e =
    let s = split (test i t).typed (fitted test ks).exprs es e in
    let is = h i t s.first s.first_is in
    subst (Passed T (value_at i t ∷ ks)) s.all (ap (λ (u : Typed). u.expr) (sym is.0), is.1, fitted_passed test T h ks s.rest s.rest_is)
fitted_passed test T h (literal_at i q l ∷ ks) es e = absurd (none-some es e)

pub fitted_reading : (test : ℕ → Typed → Valued) → ((i : ℕ) (t : Typed) → Reading (test i t).notes) → (ks : List Known) → Reading (fitted test ks).notes
fitted_reading test h [] = tt
fitted_reading test h (value_at i t ∷ ks) = reading_append (test i t).notes (fitted test ks).notes (h i t) (fitted_reading test h ks)
fitted_reading test h (literal_at i q l ∷ ks) = ((reading_broken rule.P14 q).0, fitted_reading test h ks)

pub fitted_order : (test : ℕ → Typed → Valued) (ks : List Known) → (fitted test ks).order ≡ map number_of ks
fitted_order test [] = refl
fitted_order test (value_at i t ∷ ks) = ap (λ z. i ∷ z) (fitted_order test ks)
fitted_order test (literal_at i q l ∷ ks) = ap (λ z. i ∷ z) (fitted_order test ks)

-- ---- what passed

abbrev pub known_types : List Known → List SourceType
known_types [] = []
known_types (value_at i t ∷ ks) = t.ty ∷ known_types ks
known_types (literal_at i q l ∷ ks) = known_types ks

pub passed_count : (T : ℕ → Typed → Type 0) (ks : List Known) (es : List Expr) → Passed T ks es → length (known_types ks) ≡ length ks
passed_count T [] es h = refl
passed_count T (value_at i t ∷ ks) [] h = absurd h
passed_count T (value_at i t ∷ ks) (e ∷ es) h = ap suc (passed_count T ks es h.2)
passed_count T (literal_at i q l ∷ ks) es h = absurd h

pub record Parts (w : World) (ks : List Known) (es : List Expr) : Type 0 where
  pub sound : AreSound w.names (trees_of es)
  pub reads : AllWithin w.reads (trees_of es)
  pub types : types_in (trees_of es) ≡ map value_type (known_types ks)

pub passed_parts : (w : World) (T : ℕ → Typed → Type 0) (ks : List Known) (es : List Expr) → Passed T ks es → GoodKnowns w ks → Parts w ks es
passed_parts w T [] [] h g = record { sound = tt; reads = tt; types = refl }
passed_parts w T [] (e ∷ es) h g = absurd h
passed_parts w T (value_at i t ∷ ks) [] h g = absurd h
passed_parts w T (value_at i t ∷ ks) (e ∷ es) h g =
    let r = passed_parts w T ks es h.2 g.1 in
    subst (λ (x : Expr). Parts w (value_at i t ∷ ks) (x ∷ es)) h.0 (record {
      sound = (g.0.0.sound, r.sound);
      reads = (g.0.0.reads, r.reads);
      types = ap (λ z. z ∷ types_in (trees_of es)) g.0.0.type_is ∙ ap (λ z. value_type t.ty ∷ z) r.types;
    })
passed_parts w T (literal_at i q l ∷ ks) es h g = absurd h
