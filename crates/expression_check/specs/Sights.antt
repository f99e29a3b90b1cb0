-- What the code carries along, as the scope of the rules.
use Rattle.std.specs.Prelude.{ℕ, Bool, true, false, if◌then◌else◌, List, map, Option, Some, None}
use Rattle.meaning_rules.specs.declared.scope.Scope.{Scope}
use Rattle.meaning_rules.specs.declared.scope.Local.{Local}
use Rattle.meaning_rules.specs.declared.scope.Method.{Method}
use Rattle.meaning_rules.specs.declared.scope.Status.{Status}
use Rattle.meaning_rules.specs.declared.scope.Status.TheVariants as status
use Rattle.expression_check.specs.declared.sight.Sight.{Sight}
use Rattle.expression_check.specs.declared.view.View.{View}

abbrev pub method_of : List ℕ × ℕ → Method
method_of m = record { name = m.0; function = m.1 }

-- what the expressions of a function with these variables see
abbrev pub seen : Sight → List Local → Scope
seen v ls = record { entries = v.names; constants = v.constants; functions = v.functions; methods = map method_of v.methods; myself = v.myself; locals = ls }

abbrev pub seen_by : View → Scope
seen_by v = seen v.sight.now v.locals.now

-- a list whose items are all known
abbrev pub when_known : {A : Type 0} → Bool → List A → Option (List A)
when_known b xs = if b then Some xs else None

abbrev pub is_unseen : Status → Bool
is_unseen status.Unseen = true
is_unseen (status.Fixed t) = false
