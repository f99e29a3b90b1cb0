-- Broken rules.
use Rattle.std.specs.Prelude.{List, [], ◌∷◌}
use Rattle.puya_base.specs.declared.source.Place.{Place}
use Rattle.puya_base.specs.declared.source.Rule.{Rule}
use Rattle.puya_base.specs.declared.source.Refusal.{Refusal}

abbrev pub breaks : Rule → Place → List Refusal
breaks r p = (record { rule = r; place = p }) ∷ []
