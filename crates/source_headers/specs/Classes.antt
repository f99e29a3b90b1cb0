-- Contracts: their bases, their members, their two programs (Algorand Python guide, "Contracts"); P08 to P10, P12 and P22 on these.
use Rattle.std.specs.Prelude.{ℕ, suc, Bool, true, false, ◌||◌, ◌&&◌, if◌then◌else◌, List, [], ◌∷◌, ◌++◌, bytes_eq, codes, Option, Some, None}
use Rattle.puya_base.specs.declared.source.Place.{Place}
use Rattle.puya_base.specs.declared.source.Rule.TheVariants as rule
use Rattle.puya_base.specs.declared.source.Refusal.{Refusal}
use Rattle.py_grammar.specs.declared.word.Word.{Word}
use Rattle.py_grammar.specs.declared.module.Func.{Func}
use Rattle.py_grammar.specs.declared.module.Member.{Member}
use Rattle.py_grammar.specs.declared.module.Member.TheVariants as member
use Rattle.py_grammar.specs.declared.module.Class.{Class}
use Rattle.py_grammar.specs.declared.module.Item.{Item}
use Rattle.py_grammar.specs.declared.module.Item.TheVariants as item
use Rattle.algopy_library.specs.declared.scalar.Scalar.{Scalar}
use Rattle.algopy_library.specs.declared.scalar.Scalar.TheVariants as scalar
use Rattle.algopy_library.specs.declared.row.Row.{Row}
use Rattle.algopy_library.specs.declared.row.Row.TheVariants as row
use Rattle.source_names.specs.declared.types.SourceType.{SourceType}
use Rattle.source_names.specs.declared.named.Thing.{Thing}
use Rattle.source_names.specs.declared.named.Thing.TheVariants as thing
use Rattle.source_names.specs.declared.named.Entry.{Entry}
use Rattle.source_names.specs.declared.signature.Signature.{Signature}
use Rattle.source_names.specs.Types.{scalar_of}
use Rattle.source_names.specs.Faults.{breaks}
use Rattle.source_names.specs.Things.{dotted}
use Rattle.source_headers.specs.Headers.{divided, Divided, twice, signature, signature_faults, decorators, all_unwanted}

-- what a class is by its base
pub data Base : Type 0 where
  a_contract : Base
  another : Base
  unknown : Base

abbrev pub row_base : Row → Base
row_base row.Contract = a_contract
row_base _ = another

abbrev pub thing_base : Thing → Base
thing_base (thing.Library r) = row_base r
thing_base thing.Unknown = unknown
thing_base _ = another

abbrev pub base_of : List Entry → Class → Base
base_of es c = thing_base (dotted es [] c.base).thing

-- ---- the functions of a class

abbrev pub functions : List Member → List Func
functions [] = []
functions (member.Func f ∷ ms) = f ∷ functions ms
functions (_ ∷ ms) = functions ms

abbrev pub is_named : List ℕ → Func → Bool
is_named n f = bytes_eq f.name.name n

abbrev pub is_approval : Func → Bool
is_approval f = is_named (codes "approval_program") f

abbrev pub is_clear : Func → Bool
is_clear f = is_named (codes "clear_state_program") f

abbrev pub is_program : Func → Bool
is_program f = is_approval f || is_clear f

-- the number of the first function that passes
abbrev pub first_from : ℕ → (Func → Bool) → List Func → Option ℕ
first_from i p [] = None
first_from i p (f ∷ fs) = if p f then Some i else first_from (suc i) p fs

-- the functions that can be called as `self.m(..)`, with their numbers among the contract's functions
abbrev pub methods_from : ℕ → List Func → List (List ℕ × ℕ)
methods_from i [] = []
methods_from i (f ∷ fs) = if is_program f then methods_from (suc i) fs else (f.name.name, i) ∷ methods_from (suc i) fs

abbrev pub class_signatures : List Entry → List Func → List Signature
class_signatures es [] = []
class_signatures es (f ∷ fs) = signature es true f ∷ class_signatures es fs

-- ---- the rules on members

abbrev pub gives_truth : Option Scalar → Bool
gives_truth (Some scalar.UInt64) = true
gives_truth (Some scalar.Bool) = true
gives_truth _ = false

abbrev pub wrong_result : Option SourceType → Bool
wrong_result None = false
wrong_result (Some t) = if gives_truth (scalar_of t) then false else true

abbrev pub is_empty : {A : Type 0} → List A → Bool
is_empty [] = true
is_empty (x ∷ xs) = false

-- P12 on a program with a parameter but `self`, or that gives neither bool nor UInt64
abbrev pub program_faults : List Entry → Func → List Refusal
program_faults es f =
    let s = signature es true f in
    if is_empty s.params then (if wrong_result s.result then breaks rule.P12 f.place else []) else breaks rule.P12 f.place

abbrev pub has_myself : Divided → Bool
has_myself d = elim d.myself [ None ↦ false | Some p ↦ true ]

-- P12 on a function of a class whose first parameter is not `self`
abbrev pub selfless : Func → List Refusal
selfless f = if has_myself (divided true f.params) then [] else breaks rule.P12 f.place

-- a program has no decorator, every other function has `subroutine`
abbrev pub function_faults : List Entry → Func → List Refusal
function_faults es f =
    selfless f
    ++ ((if is_program f then all_unwanted es f.decorators ++ program_faults es f else decorators es f.def f.decorators)
    ++ signature_faults es true f)

-- P12 on a field: a contract has none
abbrev pub member_faults : List Entry → Member → List Refusal
member_faults es (member.Text p ls) = []
member_faults es (member.Pass p) = []
member_faults es (member.Field w t) = breaks rule.P12 w.place
member_faults es (member.Func f) = function_faults es f

abbrev pub all_member_faults : List Entry → List Member → List Refusal
all_member_faults es [] = []
all_member_faults es (m ∷ ms) = member_faults es m ++ all_member_faults es ms

abbrev pub member_names : List Member → List Word
member_names [] = []
member_names (member.Text p ls ∷ ms) = member_names ms
member_names (member.Pass p ∷ ms) = member_names ms
member_names (member.Field w t ∷ ms) = w ∷ member_names ms
member_names (member.Func f ∷ ms) = f.name ∷ member_names ms

abbrev pub missing : Place → Option ℕ → List Refusal
missing p None = breaks rule.P12 p
missing p (Some i) = []

-- P12 on a contract without one of its programs
abbrev pub missing_programs : Class → List Refusal
missing_programs c =
    missing c.name.place (first_from 0 is_approval (functions c.members)) ++ missing c.name.place (first_from 0 is_clear (functions c.members))

abbrev pub contract_faults : List Entry → Class → List Refusal
contract_faults es c = missing_programs c ++ (twice [] (member_names c.members) ++ all_member_faults es c.members)

-- P12 on another base
abbrev pub base_faults : List Entry → Class → Base → List Refusal
base_faults es c a_contract = contract_faults es c
base_faults es c another = breaks rule.P12 c.name.place
base_faults es c unknown = []

abbrev pub class_faults : List Entry → Class → List Refusal
class_faults es c = (dotted es [] c.base).faults ++ base_faults es c (base_of es c)

abbrev pub classes : List Item → List Class
classes [] = []
classes (item.Class c ∷ is) = c ∷ classes is
classes (_ ∷ is) = classes is

abbrev pub all_class_faults : List Entry → List Class → List Refusal
all_class_faults es [] = []
all_class_faults es (c ∷ cs) = class_faults es c ++ all_class_faults es cs

abbrev pub is_other : Base → Bool
is_other a_contract = false
is_other another = true
is_other unknown = false

abbrev pub all_other : List Entry → List Class → Bool
all_other es [] = true
all_other es (c ∷ cs) = is_other (base_of es c) && all_other es cs

-- P12 on a module in which no class is a contract
abbrev pub no_contract : List Entry → List Class → List Refusal
no_contract es cs = if all_other es cs then breaks rule.P12 (record { line = 1; col = 1 }) else []
