-- Parts of the rules on augmented assignments, by the type of the variable.
use Rattle.std.specs.Prelude.{ℕ, if◌then◌else◌, List, Option, Some, None}
use Rattle.puya_base.specs.declared.source.Place.{Place}
use Rattle.puya_base.specs.declared.source.Rule.TheVariants as rule
use Rattle.awst.specs.declared.statement.Stmt.{Stmt}
use Rattle.algopy_library.specs.declared.operator.Operator.{Operator}
use Rattle.source_names.specs.declared.types.SourceType.{SourceType}
use Rattle.source_names.specs.Types.{same_type, scalar_of}
use Rattle.source_names.specs.Source.{Ex, does}
use Rattle.meaning_rules.specs.declared.meaning.Hope.TheVariants as hope
use Rattle.meaning_rules.specs.declared.meaning.Lit.{Lit}
use Rattle.meaning_rules.specs.declared.meaning.Typed.{Typed}
use Rattle.meaning_rules.specs.declared.operand.Operand.{Operand}
use Rattle.meaning_rules.specs.declared.operand.Operand.TheVariants.{Value as a_value, Literal as a_literal, Missing as missing}
use Rattle.meaning_rules.specs.declared.scope.Scope.{Scope}
use Rattle.meaning_rules.specs.Meanings.{Valued, a_typed, literal, no_value, value_breaks}
use Rattle.meaning_rules.specs.Operations.{has_between, operation_at}
use Rattle.statement_check.specs.Statements.{Done, augment_one, augmented_by, variable_of}
use Rattle.statement_check.specs.Targets.{target_name}

abbrev pub same_as : SourceType → Typed → Valued
same_as u b = if same_type u b.ty then a_typed b else value_breaks rule.P14 b.expr.place

abbrev pub agreed_value : Place → Operator → SourceType → Typed → Valued
agreed_value p o u b = if has_between (does o) u then same_as u b else value_breaks rule.P14 p

abbrev pub agreed_literal : Place → Operator → SourceType → Place → Lit → Valued
agreed_literal p o u q l = if has_between (does o) u then literal (hope.Wants u) q l else value_breaks rule.P14 p

abbrev pub agreed : Place → Operator → SourceType → Operand → Valued
agreed p o u (a_value b) = agreed_value p o u b
agreed p o u (a_literal q l) = agreed_literal p o u q l
agreed p o u missing = no_value

abbrev pub updated_when : Place → ℕ → Operator → SourceType → Option Typed → Option (List Stmt)
updated_when p i o u None = None
updated_when p i o u (Some b) = augmented_by p i (operation_at o (scalar_of u)) b

-- an augmented assignment of a target
abbrev pub update : Scope → Ex → Operator → Ex → Done
update s t o e = augment_one s t (variable_of s (target_name t)) o e
