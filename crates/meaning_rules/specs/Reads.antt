-- Parts of the rules on a read of a variable and on a member of a value, each for one case.
use Rattle.std.specs.Prelude.{ℕ, List, ◌∷◌, Option, Some, None}
use Rattle.puya_base.specs.declared.source.Place.{Place}
use Rattle.puya_base.specs.declared.source.Rule.TheVariants as rule
use Rattle.awst.specs.declared.expression.ExprKind.TheVariants as kind
use Rattle.algopy_library.specs.declared.scalar.Scalar.{Scalar}
use Rattle.algopy_library.specs.declared.operator.Operation.{Operation}
use Rattle.algopy_library.specs.Operators.{value_member}
use Rattle.source_names.specs.declared.types.SourceType.{SourceType}
use Rattle.meaning_rules.specs.declared.meaning.Meaning.TheVariants as meaning
use Rattle.meaning_rules.specs.Meanings.{Judged, broken, a_node}
use Rattle.meaning_rules.specs.Operations.{read_note}

-- P17 on a read before the first assignment or annotation
abbrev pub unseen_read : Place → ℕ → Judged
unseen_read p i = record { notes = broken rule.P17 p ∷ read_note p i; meaning = meaning.Unknown }

abbrev pub fixed_read : Place → ℕ → Option SourceType → Judged
fixed_read p i None = record { notes = read_note p i; meaning = meaning.Unknown }
fixed_read p i (Some t) = record { notes = read_note p i; meaning = meaning.Value (a_node p t (kind.Local i)) }

abbrev pub operation_named : Option Scalar → List ℕ → Option Operation
operation_named None n = None
operation_named (Some s) n = value_member s n
