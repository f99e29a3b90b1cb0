-- What stands in the brackets of a type, as the code gathers it.
use Rattle.std.specs.Prelude.{ℕ, Bool, false, List, [], ◌∷◌, ◌++◌, if◌then◌else◌, Option, Some, None}
use Rattle.puya_base.specs.declared.source.Place.{Place}
use Rattle.puya_base.specs.declared.source.Rule.TheVariants as rule
use Rattle.puya_base.specs.declared.source.Refusal.{Refusal}
use Rattle.py_grammar.specs.declared.type_tree.TypeArg.{TypeArg}
use Rattle.py_grammar.specs.declared.type_tree.TypeArg.TheFolds.{fold-TypeArg}
use Rattle.source_names.specs.declared.types.SourceType.{SourceType}
use Rattle.source_names.specs.declared.named.Entry.{Entry}
use Rattle.source_names.specs.declared.annotations.Argument.{Argument as Seen}
use Rattle.source_names.specs.declared.annotations.Argument.TheVariants as seen
use Rattle.source_names.specs.Types.{plain}
use Rattle.source_names.specs.Faults.{breaks}
use Rattle.source_names.specs.Annotations.{Written, Argument, a_type, a_number, of_value, is_nothing, argument_layer, written_layer}

abbrev pub argument : List Entry → List (List ℕ) → TypeArg → Argument
argument es vs = fold-TypeArg Argument Written argument_layer (written_layer es vs)

abbrev pub argument_faults : Argument → List Refusal
argument_faults (a_type w) = (of_value w).faults
argument_faults a_number = []

abbrev pub argument_of : Option SourceType → Seen
argument_of (Some t) = seen.Type t
argument_of None = seen.Broken

abbrev pub argument_value : Argument → Seen
argument_value (a_type w) = argument_of (of_value w).ty
argument_value a_number = seen.Number

-- whether each argument is known, one more being there
abbrev pub known_with : Bool → Seen → Bool
known_with k (seen.Type t) = k
known_with k seen.Broken = false
known_with k seen.Number = k

-- whether each argument is a type
abbrev pub typed_with : Bool → Seen → Bool
typed_with b (seen.Type t) = b
typed_with b seen.Broken = false
typed_with b seen.Number = false

-- the types among the arguments
abbrev pub types_with : List SourceType → Seen → List SourceType
types_with ts (seen.Type t) = ts ++ t ∷ []
types_with ts seen.Broken = ts
types_with ts seen.Number = ts

abbrev pub types_when : Bool → List SourceType → Option (List SourceType)
types_when b ts = if b then Some ts else None

abbrev pub writes_nothing : Option SourceType → Bool
writes_nothing (Some t) = is_nothing (plain t)
writes_nothing None = false

-- P13 on `None` as the type of a value
unfoldable pub value_faults : Place → Option SourceType → List Refusal
value_faults p (Some t) = if is_nothing (plain t) then breaks rule.P13 p else []
value_faults p None = []

-- the type of a value, where one is written
unfoldable pub value_type : Option SourceType → Option SourceType
value_type (Some t) = if is_nothing (plain t) then None else Some t
value_type None = None
