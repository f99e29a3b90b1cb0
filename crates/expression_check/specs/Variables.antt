-- The variables of a function as its statements go on: the first assignment or annotation in reading order fixes a type.
use Rattle.std.specs.Prelude.{ℕ, List, map, Option, Some, None, slice_get, slice_set}
use Rattle.source_names.specs.declared.types.SourceType.{SourceType}
use Rattle.meaning_rules.specs.declared.scope.Local.{Local}
use Rattle.meaning_rules.specs.declared.scope.Status.{Status}
use Rattle.meaning_rules.specs.declared.scope.Status.TheVariants as status

abbrev pub local_status : Option Local → Status
local_status None = status.Unseen
local_status (Some l) = l.status

abbrev pub status_at : List Local → ℕ → Status
status_at ls i = local_status (slice_get ls i)

abbrev pub with_status : Option SourceType → Option Local → List Local → ℕ → List Local
with_status t None ls i = ls
with_status t (Some l) ls i = slice_set ls i (record { name = l.name; status = status.Fixed t })

-- the variable has this type from now on, unless its type is fixed
abbrev pub fixed_when : Status → List Local → ℕ → Option SourceType → List Local
fixed_when status.Unseen ls i t = with_status t (slice_get ls i) ls i
fixed_when (status.Fixed u) ls i t = ls

abbrev pub fixed : List Local → ℕ → Option SourceType → List Local
fixed ls i t = fixed_when (status_at ls i) ls i t

abbrev pub local_names : List Local → List (List ℕ)
local_names ls = map (λ (l : Local). l.name) ls
