-- Expressions in parentheses, in brackets and with commas, and the ends of slices, as the code goes through them.
use Rattle.std.proofs.Common.{◌≡◌, ◌∷◌, [], List, Bool, true, false, Option, Some, None, length, map, refl}
use Rattle.std.specs.Prelude.{if◌then◌else◌}
use Rattle.puya_base.specs.declared.source.Place.{Place}
use Rattle.puya_base.specs.declared.source.Rule.TheVariants as rule
use Rattle.awst.specs.declared.expression.ExprKind.TheVariants as kind
use Rattle.source_names.specs.declared.types.SourceType.{SourceType}
use Rattle.source_names.specs.declared.types.SourceType.TheVariants as ty
use Rattle.source_names.specs.Types.{fits_limits}
use Rattle.source_names.specs.Source.{Ex, Maybe, absent, exs_of, first_place, in_parens, listed_at, place_of, present, tuple}
use Rattle.meaning_rules.specs.declared.meaning.Context.{Context}
use Rattle.meaning_rules.specs.declared.meaning.Hope.{Hope}
use Rattle.meaning_rules.specs.declared.meaning.Typed.{Typed}
use Rattle.meaning_rules.specs.declared.scope.Scope.{Scope}
use Rattle.meaning_rules.specs.Meanings.{breaks, context, node}
use Rattle.meaning_rules.specs.Operations.{exprs_in, tuple_when, types_in}
use Rattle.expression_check.specs.Bindings.{end_in_context}
use Rattle.expression_check.specs.Expressions.{at_meaning, end, judge, parts}

pub end_is : (s : Scope) (b : Bool) (h : Hope) (m : Maybe) → end_in_context s b (context false h) m ≡ end s b h m
end_is s b h absent = refl
end_is s b h (present e) = refl

pub place_listed : (p : Place) (es : List Ex) (c : Bool) → first_place p es ≡ place_of (listed_at (first_place p es) es c)
place_listed p [] c = refl
place_listed p (e ∷ []) false = refl
place_listed p (e ∷ []) true = refl
place_listed p (e ∷ f ∷ es) c = refl

-- more than one expression, or none, are a tuple
pub several : {A : Type 0} (g : A → Ex) (p : Place) (xs : List A) (c : Bool) → (length xs ≡ 1 → ⊥) → tuple p (exs_of (map g xs)) ≡ listed_at p (map g xs) c
several g p [] c h = refl
several g p (x ∷ []) c h = absurd (h refl)
several g p (x ∷ y ∷ xs) c h = refl

kept_if : (p : Place) (t : SourceType) (ts : List Typed) (b : Bool)
    → at_meaning p (if b then node p t (kind.Tuple (exprs_in ts)) else breaks rule.P13 p).meaning ≡ (if b then node p t (kind.Tuple (exprs_in ts)) else breaks rule.P13 p).meaning
kept_if p t ts true = refl
kept_if p t ts false = refl

tuple_kept : (p : Place) (o : Option (List Typed)) → at_meaning p (tuple_when p o).meaning ≡ (tuple_when p o).meaning
tuple_kept p None = refl
tuple_kept p (Some []) = refl
tuple_kept p (Some (t ∷ ts)) = kept_if p (ty.Tuple (types_in (t ∷ ts))) (t ∷ ts) (fits_limits (ty.Tuple (types_in (t ∷ ts))))

-- parentheses change where an expression begins
pub begins_at : (s : Scope) (c : Context) (p : Place) (es : List Ex) (comma : Bool)
    → at_meaning p (judge s c (listed_at p es comma)).meaning ≡ (judge s c (in_parens p es comma)).meaning
begins_at s c p [] comma = tuple_kept p (parts s c 0 (exs_of [])).typed
begins_at s c p (e ∷ []) false = refl
begins_at s c p (e ∷ []) true = tuple_kept p (parts s c 0 (exs_of (e ∷ []))).typed
begins_at s c p (e ∷ f ∷ es) comma = tuple_kept p (parts s c 0 (exs_of (e ∷ f ∷ es))).typed
