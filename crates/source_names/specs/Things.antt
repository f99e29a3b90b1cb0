-- What names and names with points between stand for. A rule is judged on a name only where the name before the point is known.
use Rattle.std.specs.Prelude.{ℕ, Bool, true, false, if◌then◌else◌, List, [], ◌∷◌, ◌++◌, bytes_eq, codes, Option, Some, None}
use Rattle.puya_base.specs.declared.source.Place.{Place}
use Rattle.puya_base.specs.declared.source.Rule.TheVariants as rule
use Rattle.puya_base.specs.declared.source.Refusal.{Refusal}
use Rattle.py_grammar.specs.declared.word.Word.{Word}
use Rattle.algopy_library.specs.declared.row.Row.{Row}
use Rattle.algopy_library.specs.declared.member.Member.{Member}
use Rattle.algopy_library.specs.declared.member.Member.TheVariants as member
use Rattle.algopy_library.specs.Packages.{built_in}
use Rattle.algopy_library.specs.Members.{member_named}
use Rattle.source_names.specs.declared.named.Thing.{Thing}
use Rattle.source_names.specs.declared.named.Thing.TheVariants as thing
use Rattle.source_names.specs.declared.named.Entry.{Entry}
use Rattle.source_names.specs.Faults.{breaks}

-- the name of the contract itself in the functions of its class
abbrev pub is_myself : List ℕ → Bool
is_myself n = bytes_eq n (codes "self")

-- what is said of a name: the rules that it breaks, and what it stands for; `Unknown` where it breaks one
pub record Found : Type 0 where
  pub faults : List Refusal
  pub thing : Thing

abbrev pub stands_for : Thing → Found
stands_for t = record { faults = []; thing = t }

-- P09 on a name that nothing defines
abbrev pub undefined : Place → Found
undefined p = record { faults = breaks rule.P09 p; thing = thing.Unknown }

-- P08 on a name that is left out
abbrev pub left_out : Place → Found
left_out p = record { faults = breaks rule.P08 p; thing = thing.Unknown }

-- the first line that defines a name says what it stands for
abbrev pub entry_named : List Entry → List ℕ → Option Thing
entry_named [] n = None
entry_named (e ∷ es) n = if bytes_eq e.name n then Some e.thing else entry_named es n

abbrev pub found_built_in : Place → Option Row → Found
found_built_in p (Some r) = stands_for (thing.Library r)
found_built_in p None = undefined p

abbrev pub found_in_module : Word → Option Thing → Found
found_in_module w (Some t) = stands_for t
found_in_module w None = found_built_in w.place (built_in w.name)

-- a name of the module, or else a built-in one
abbrev pub module_name : List Entry → Word → Found
module_name es w = found_in_module w (entry_named es w.name)

abbrev pub found_member : Place → Option Member → Found
found_member p None = undefined p
found_member p (Some member.LeftOut) = left_out p
found_member p (Some (member.Row r)) = stands_for (thing.Library r)
found_member p (Some (member.Form f)) = stands_for (thing.Member (member.Form f))
found_member p (Some (member.Value q t)) = stands_for (thing.Member (member.Value q t))
found_member p (Some (member.Number n)) = stands_for (thing.Member (member.Number n))
found_member p (Some (member.Application q)) = stands_for (thing.Member (member.Application q))
found_member p (Some member.FromHex) = stands_for (thing.Member member.FromHex)

abbrev pub method_named : List (List ℕ × ℕ) → List ℕ → Option ℕ
method_named [] n = None
method_named (m ∷ ms) n = if bytes_eq m.0 n then Some m.1 else method_named ms n

abbrev pub found_method : Place → Option ℕ → Found
found_method p None = undefined p
found_method p (Some i) = stands_for (thing.Method i)

-- what stands behind a name that is no value, and a point
abbrev pub member_of : List (List ℕ × ℕ) → Thing → Word → Found
member_of ms (thing.Library r) w = found_member w.place (member_named r w.name)
member_of ms (thing.Member m) w = undefined w.place
member_of ms (thing.Constant i) w = undefined w.place
member_of ms (thing.Function i) w = undefined w.place
member_of ms (thing.Class i) w = undefined w.place
member_of ms (thing.Method i) w = undefined w.place
member_of ms thing.Myself w = found_method w.place (method_named ms w.name)
member_of ms thing.Variable w = undefined w.place
member_of ms thing.Unknown w = stands_for thing.Unknown

abbrev pub behind : Found → Found → Found
behind f g = record { faults = f.faults ++ g.faults; thing = g.thing }

-- the names behind a point, one after the other
abbrev pub members_of : Found → List Word → Found
members_of f [] = f
members_of f (w ∷ ws) = members_of (behind f (member_of [] f.thing w)) ws

abbrev pub names_variable : List (List ℕ) → List ℕ → Bool
names_variable [] n = false
names_variable (v ∷ vs) n = if bytes_eq v n then true else names_variable vs n

-- the first of names with points between: a variable of the function, a name of the module, a built-in name
abbrev pub first_name : List Entry → List (List ℕ) → Word → Found
first_name es vs w = if names_variable vs w.name then stands_for thing.Variable else module_name es w

-- names with points between, as types, bases and decorators are written
abbrev pub dotted : List Entry → List (List ℕ) → List Word → Found
dotted es vs [] = stands_for thing.Unknown
dotted es vs (w ∷ ws) = members_of (first_name es vs w) ws
