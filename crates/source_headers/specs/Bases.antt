-- What a class is by its base, as the code names it, the programs among members, and lines and members one at a time.
use Rattle.std.specs.Prelude.{ℕ, suc, Bool, true, false, if◌then◌else◌, List, [], ◌∷◌, ◌++◌}
use Rattle.puya_base.specs.declared.source.Refusal.{Refusal}
use Rattle.puya_base.specs.declared.source.Place.{Place}
use Rattle.puya_base.specs.declared.source.Rule.TheVariants as rule
use Rattle.py_grammar.specs.declared.module.Func.{Func}
use Rattle.py_grammar.specs.declared.module.Member.{Member}
use Rattle.py_grammar.specs.declared.module.Member.TheVariants as member
use Rattle.py_grammar.specs.declared.module.Item.{Item}
use Rattle.py_grammar.specs.declared.module.Item.TheVariants as item
use Rattle.source_names.specs.declared.named.Entry.{Entry}
use Rattle.source_names.specs.declared.signature.Signature.{Signature}
use Rattle.source_headers.specs.declared.classes.Base.{Base}
use Rattle.source_headers.specs.declared.classes.Base.TheVariants as base
use Rattle.source_names.specs.Lookups.{with_name}
use Rattle.py_grammar.specs.declared.expression.Tree.{Tree}
use Rattle.source_names.specs.Source.{tree_of, place_of}
use Rattle.source_headers.specs.Headers.{again, decorator, unwanted, all_unwanted, decorators}
use Rattle.source_names.specs.Faults.{breaks}
use Rattle.source_headers.specs.Classes as classes

abbrev pub shown : Base → classes.Base
shown base.Contract = classes.a_contract
shown base.Another = classes.another
shown base.Unknown = classes.unknown

abbrev pub passes : (Func → Bool) → Member → Bool
passes p (member.Func f) = p f
passes p _ = false

-- whether a function among the members passes
abbrev pub has_named : (Func → Bool) → List Member → Bool
has_named p [] = false
has_named p (m ∷ ms) = if passes p m then true else has_named p ms

-- whether a program has a parameter but `self`, or gives neither a bool nor a UInt64
abbrev pub wrong_program : Signature → Bool
wrong_program s = if classes.is_empty s.params then classes.wrong_result s.result else true

-- P10 on a member whose name was seen before
abbrev pub member_again : List (List ℕ) → Member → List Refusal
member_again seen (member.Text p ls) = []
member_again seen (member.Pass p) = []
member_again seen (member.Field w t) = again seen w.name w.place
member_again seen (member.Func f) = again seen f.name.name f.name.place

-- the names seen once a member's is
abbrev pub with_member : List (List ℕ) → Member → List (List ℕ)
with_member seen (member.Text p ls) = seen
with_member seen (member.Pass p) = seen
with_member seen (member.Field w t) = with_name seen w.name
with_member seen (member.Func f) = with_name seen f.name.name

-- the rules on names that a line breaks as a class
abbrev pub item_told : List Entry → Item → List Refusal
item_told es (item.Class c) = classes.class_faults es c
item_told es _ = []

-- whether a line is no class that may be a contract
abbrev pub other_item : List Entry → Item → Bool
other_item es (item.Class c) = classes.is_other (classes.base_of es c)
other_item es _ = true

-- what is told of a decorator where none may stand
abbrev pub unwanted_told : List Entry → Tree → List Refusal
unwanted_told es d = (decorator es (tree_of d)).faults ++ unwanted (place_of (tree_of d)) (decorator es (tree_of d)).thing

-- what is told of a function by what it is: a program has no decorator, every other function has `subroutine`
abbrev pub kind_told : List Entry → Func → List Refusal
kind_told es f = if classes.is_program f then all_unwanted es f.decorators ++ classes.program_faults es f else decorators es f.def f.decorators

-- P12 on a program that is not there
abbrev pub missing_told : Place → Bool → List Refusal
missing_told p b = if b then [] else breaks rule.P12 p

-- the number of the next function, where a member is behind that with this number
abbrev pub number_behind : ℕ → Member → ℕ
number_behind n (member.Func f) = suc n
number_behind n _ = n
