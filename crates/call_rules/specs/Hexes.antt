-- Parts of the rules on `from_hex`, each for one case.
use Rattle.std.specs.Prelude.{ℕ, ◌+◌, ◌*◌, Option, Some, None}
use Rattle.puya_base.specs.declared.source.Place.{Place}
use Rattle.puya_base.specs.declared.source.Rule.TheVariants as rule
use Rattle.py_lexer.specs.Numbers.{digit_value}
use Rattle.call_rules.specs.declared.arguments.Known.{Known}
use Rattle.call_rules.specs.declared.arguments.Known.TheVariants.{Value as value_at, Literal as literal_at}
use Rattle.meaning_rules.specs.Meanings.{Judged, breaks}
use Rattle.call_rules.specs.Calls.{hex_literal}

abbrev pub pair_of : Option ℕ → Option ℕ → Option ℕ
pair_of None l = None
pair_of (Some h) None = None
pair_of (Some h) (Some l) = Some (h * 16 + l)

-- the byte that two hexadecimal digits write
abbrev pub pair : ℕ → ℕ → Option ℕ
pair h l = pair_of (digit_value h) (digit_value l)

abbrev pub hex_known : Place → Known → Judged
hex_known p (value_at i t) = breaks rule.P14 t.expr.place
hex_known p (literal_at i q l) = hex_literal p q l
