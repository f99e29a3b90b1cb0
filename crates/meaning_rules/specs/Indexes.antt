-- An index of what is no Bytes, as one case after the other: what is indexed is a tuple or not, the index a literal or not.
use Rattle.std.specs.Prelude.{ℕ, ◌||◌, if◌then◌else◌, List, Option, Some, None, slice_get}
use Rattle.puya_base.specs.declared.source.Place.{Place}
use Rattle.puya_base.specs.declared.source.Rule.TheVariants as rule
use Rattle.awst.specs.declared.expression.ExprKind.TheVariants as kind
use Rattle.awst.specs.declared.expression.Index.TheVariants as item
use Rattle.source_names.specs.declared.types.SourceType.{SourceType}
use Rattle.meaning_rules.specs.declared.meaning.Typed.{Typed}
use Rattle.meaning_rules.specs.declared.meaning.Lit.{Lit}
use Rattle.meaning_rules.specs.declared.meaning.Lit.TheVariants as lit
use Rattle.meaning_rules.specs.declared.operand.Operand.{Operand}
use Rattle.meaning_rules.specs.declared.operand.Operand.TheVariants as operand
use Rattle.meaning_rules.specs.declared.operand.End.{End}
use Rattle.meaning_rules.specs.Meanings.{Judged, breaks, node, unknown}
use Rattle.meaning_rules.specs.Operations.{is_broken}

abbrev pub item_place : Option (List SourceType) → Place → Place → Place
item_place None p q = p
item_place (Some ts) p q = q

abbrev pub item_type : Option (List SourceType) → ℕ → Option SourceType
item_type None n = None
item_type (Some ts) n = slice_get ts n

abbrev pub item_of_type : Place → Place → Typed → ℕ → Option SourceType → Judged
item_of_type p q b n None = breaks rule.P14 q
item_of_type p q b n (Some t) = node p t (kind.Item b.expr (item.Fixed n))

abbrev pub number_index : Place → Place → Typed → Option (List SourceType) → ℕ → Judged
number_index p q b ts n = item_of_type p (item_place ts p q) b n (item_type ts n)

abbrev pub literal_index : Place → Place → Typed → Option (List SourceType) → Lit → Judged
literal_index p q b ts (lit.Number n) = number_index p q b ts n
literal_index p q b ts _ = breaks rule.P14 (item_place ts p q)

abbrev pub tuple_index : Place → Place → Typed → Option (List SourceType) → Operand → Judged
tuple_index p q b ts (operand.Value t) = breaks rule.P14 (item_place ts p q)
tuple_index p q b ts (operand.Literal r l) = literal_index p q b ts l
tuple_index p q b ts operand.Missing = unknown

-- P14 on a slice of anything but Bytes, where both ends are known
abbrev pub no_slice : Place → End → End → Judged
no_slice p i j = if is_broken i || is_broken j then unknown else breaks rule.P14 p
