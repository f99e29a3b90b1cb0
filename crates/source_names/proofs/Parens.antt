-- What stands in parentheses.
use Rattle.std.proofs.Common.{◌≡◌, List, [], ◌∷◌, Bool, true, false, refl}
use Rattle.puya_base.specs.declared.source.Place.{Place}
use Rattle.source_names.specs.Source.{Ex, in_parens, place_of}

pub parens_place : (p : Place) (es : List Ex) (c : Bool) → place_of (in_parens p es c) ≡ p
parens_place p [] c = refl
parens_place p (e ∷ []) true = refl
parens_place p (e ∷ []) false = refl
parens_place p (e ∷ f ∷ es) c = refl
