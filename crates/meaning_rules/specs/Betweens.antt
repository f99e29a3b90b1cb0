-- What stands between two operands, as a value of the program, and small parts of the rules on it.
use Rattle.std.specs.Prelude.{if◌then◌else◌}
use Rattle.puya_base.specs.declared.source.Place.{Place}
use Rattle.puya_base.specs.declared.source.Rule.TheVariants as rule
use Rattle.source_names.specs.Source.{Between, does, and_then, or_else, is_in}
use Rattle.source_names.specs.Types.{same_type}
use Rattle.meaning_rules.specs.declared.meaning.Typed.{Typed}
use Rattle.meaning_rules.specs.declared.operators.BinaryOperator.{BinaryOperator as Written}
use Rattle.meaning_rules.specs.declared.operators.BinaryOperator.TheVariants as written
use Rattle.meaning_rules.specs.Meanings.{Judged, breaks}
use Rattle.meaning_rules.specs.Operations.{joined_by}

abbrev pub between_of : Written → Between
between_of (written.Does o) = does o
between_of written.And = and_then
between_of written.Or = or_else
between_of written.In = is_in

-- between two values whose left type has it
abbrev pub of_one_type : Place → Between → Typed → Typed → Judged
of_one_type p o a b = if same_type a.ty b.ty then joined_by p o a b else breaks rule.P14 b.expr.place
