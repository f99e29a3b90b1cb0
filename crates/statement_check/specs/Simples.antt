-- Parts of the rules on statements of one line.
use Rattle.std.specs.Prelude.{Bool, true, false, if◌then◌else◌, List, [], ◌∷◌}
use Rattle.puya_base.specs.declared.source.Place.{Place}
use Rattle.puya_base.specs.declared.source.Rule.TheVariants as rule
use Rattle.path_rules.specs.declared.note.Note.{Note}
use Rattle.meaning_rules.specs.declared.meaning.Lit.{Lit}
use Rattle.meaning_rules.specs.declared.meaning.Lit.TheVariants as lit
use Rattle.meaning_rules.specs.declared.operand.Operand.{Operand}
use Rattle.meaning_rules.specs.declared.operand.Operand.TheVariants.{Value as a_value, Literal as a_literal, Missing as missing}
use Rattle.meaning_rules.specs.Meanings.{broken}
use Rattle.statement_check.specs.Statements as statements

-- a return without a value, in a function that gives nothing or not
abbrev pub nothing_returned : Place → Bool → statements.Done
nothing_returned p b = statements.nothing_returned [] p b

abbrev pub is_text_literal : Lit → Bool
is_text_literal (lit.Number n) = false
is_text_literal (lit.Text b) = true
is_text_literal (lit.Bytes b) = false

abbrev pub literal_notes : Place → Lit → List Note
literal_notes p l = if is_text_literal l then [] else broken rule.P14 p ∷ []

-- P14 on the second part of `assert`, where it is no text literal
abbrev pub text_notes : Place → Operand → List Note
text_notes p (a_literal q l) = literal_notes q l
text_notes p (a_value t) = broken rule.P14 p ∷ []
text_notes p missing = []
