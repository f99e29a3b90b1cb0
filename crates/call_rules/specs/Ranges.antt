-- The arguments of `urange` by their number.
use Rattle.std.specs.Prelude.{List, [], ◌∷◌, ◌++◌}
use Rattle.puya_base.specs.declared.source.Place.{Place}
use Rattle.puya_base.specs.declared.source.Rule.TheVariants as rule
use Rattle.call_rules.specs.declared.arguments.Known.{Known}
use Rattle.call_rules.specs.declared.ranges_called.Ranged.{Ranged}
use Rattle.call_rules.specs.declared.ranges_called.Ranged.TheVariants as by_number
use Rattle.meaning_rules.specs.Meanings.{Judged, breaks}
use Rattle.call_rules.specs.Calls.{bound, range_to, range_parts, step_one, step_of}

abbrev pub ranged : List Known → Ranged
ranged [] = by_number.Other
ranged (b ∷ []) = by_number.One b
ranged (a ∷ b ∷ []) = by_number.Two a b
ranged (a ∷ b ∷ s ∷ []) = by_number.Three a b s
ranged (a ∷ b ∷ s ∷ t ∷ ks) = by_number.Other

abbrev pub range_of : Place → Ranged → Judged
range_of p by_number.Other = breaks rule.P15 p
range_of p (by_number.One b) = let v = bound b in record { notes = v.notes; meaning = range_to v.typed }
range_of p (by_number.Two a b) = range_parts (bound a) (bound b) step_one
range_of p (by_number.Three a b s) = range_parts (bound a) (bound b) (step_of s)
