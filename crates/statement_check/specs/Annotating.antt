-- Parts of the rules on annotations.
use Rattle.std.specs.Prelude.{Bool, true, false, if◌then◌else◌, List, [], ◌∷◌, Option, Some, None}
use Rattle.puya_base.specs.declared.source.Place.{Place}
use Rattle.puya_base.specs.declared.source.Rule.TheVariants as rule
use Rattle.py_grammar.specs.declared.type_tree.TypeTree.{TypeTree}
use Rattle.path_rules.specs.declared.note.Note.{Note}
use Rattle.source_names.specs.declared.types.SourceType.{SourceType}
use Rattle.source_names.specs.Source.{Ex}
use Rattle.meaning_rules.specs.declared.scope.Scope.{Scope}
use Rattle.meaning_rules.specs.Meanings.{broken}
use Rattle.statement_check.specs.Statements.{Done, annotate_one, variable_of}
use Rattle.statement_check.specs.Targets.{target_name}

abbrev pub differs_notes : Bool → Place → List Note
differs_notes b p = if b then broken rule.P14 p ∷ [] else []

abbrev pub is_known : Option SourceType → Bool
is_known None = false
is_known (Some t) = true

-- whether an annotation says what the type of the variable is, which may have another one
abbrev pub annotated_so : Option SourceType → Bool → Bool
annotated_so t other = if other then false else is_known t

-- an annotation of a target
abbrev pub annotate : Scope → Ex → TypeTree → Option Ex → Done
annotate s t a e = annotate_one s t (variable_of s (target_name t)) a e
