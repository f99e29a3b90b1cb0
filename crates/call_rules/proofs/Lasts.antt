-- A type that is called, from the last of its arguments and those before it.
use Rattle.std.proofs.Common.{◌≡◌, List, [], ◌∷◌, ◌++◌, refl, ap, ◌∙◌}
use Rattle.puya_base.specs.declared.source.Place.{Place}
use Rattle.puya_base.specs.declared.source.Rule.TheVariants as rule
use Rattle.algopy_library.specs.declared.scalar.Scalar.{Scalar}
use Rattle.call_rules.specs.declared.arguments.Known.{Known}
use Rattle.meaning_rules.specs.Meanings.{breaks}
use Rattle.call_rules.specs.Calls.{call_type, of_known}

pub call_type-one : (p : Place) (s : Scalar) (ks front : List Known) (k : Known) → ks ≡ front ++ k ∷ [] → front ≡ [] → call_type p s ks ≡ of_known p s k
call_type-one p s ks front k e h = ap (call_type p s) (e ∙ ap (λ f. f ++ k ∷ []) h)

pub call_type-more : (p : Place) (s : Scalar) (ks front : List Known) (k : Known) → ks ≡ front ++ k ∷ [] → (front ≡ [] → ⊥) → call_type p s ks ≡ breaks rule.P15 p
call_type-more p s ks [] k e n = absurd (n refl)
call_type-more p s ks (f ∷ []) k e n = ap (call_type p s) e
call_type-more p s ks (f ∷ g ∷ fs) k e n = ap (call_type p s) e

pub ruleset types_called = (call_type-one, call_type-more)
