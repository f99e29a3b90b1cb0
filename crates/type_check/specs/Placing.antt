-- Functions with what they see, as the code goes through them.
use Rattle.std.specs.Prelude.{ℕ, ◌≡◌, Bool, true, false, if◌then◌else◌, List, [], ◌∷◌, ◌++◌, length, take, Option, Some, None, Result, Ok, Err}
use Rattle.puya_base.specs.declared.source.Refusal.{Refusal}
use Rattle.puya_base.specs.declared.source.SourceFault.{SourceFault}
use Rattle.puya_base.specs.declared.source.SourceFault.TheVariants as fault
use Rattle.awst.specs.declared.contract.Func.{Func as TypedFunc}
use Rattle.awst.specs.declared.contract.Contract.{Contract}
use Rattle.py_grammar.specs.declared.module.Func.{Func}
use Rattle.py_grammar.specs.declared.module.Class.{Class}
use Rattle.py_grammar.specs.declared.module.Member.{Member}
use Rattle.py_grammar.specs.declared.module.Member.TheVariants as member
use Rattle.py_grammar.specs.declared.module.Item.{Item}
use Rattle.py_grammar.specs.declared.module.Item.TheVariants as item
use Rattle.source_names.specs.declared.named.Entry.{Entry}
use Rattle.source_headers.specs.Headers.{signature, divided}
use Rattle.source_headers.specs.Modules.{entries, names_faults}
use Rattle.source_headers.specs.Classes.{all_class_faults, base_of, class_signatures, classes, first_from, functions, has_myself, is_approval, is_clear, is_named, methods_from, no_contract}
use Rattle.expression_check.specs.declared.sight.Sight.{Sight}
use Rattle.expression_check.specs.Sights.{seen}
use Rattle.type_check.specs.Whole.{Placed, beyond, is_contract, typed}

abbrev pub placed : Sight → Bool → Func → Placed
placed v inside f = record { scope = seen v []; inside = inside; signature = signature v.names inside f; function = f }

abbrev pub in_module : Sight → List Func → List Placed
in_module v [] = []
in_module v (f ∷ fs) = placed v false f ∷ in_module v fs

-- a function of a class has `self` or not
abbrev pub at_method : Sight → Func → Sight
at_method v f = record { names = v.names; constants = v.constants; functions = v.functions; methods = v.methods; myself = has_myself (divided true f.params) }

abbrev pub method : Sight → Func → Placed
method v f = placed (at_method v f) true f

abbrev pub in_class : Sight → List Func → List Placed
in_class v [] = []
in_class v (f ∷ fs) = method v f ∷ in_class v fs

-- what is seen but for `self`
abbrev pub forgetful : Sight → Sight
forgetful v = record { names = v.names; constants = v.constants; functions = v.functions; methods = v.methods; myself = false }

abbrev pub with_signatures : Sight → List Func → Sight
with_signatures v fs = record { names = v.names; constants = v.constants; functions = v.functions ++ class_signatures v.names fs; methods = v.methods; myself = v.myself }

-- what is seen in a class of these functions
abbrev pub entered : Sight → List Func → Sight
entered v fs = record { names = v.names; constants = v.constants; functions = v.functions ++ class_signatures v.names fs; methods = methods_from (length v.functions) fs; myself = v.myself }

abbrev pub left : Sight → ℕ → Sight
left v n = record { names = v.names; constants = v.constants; functions = take n v.functions; methods = []; myself = false }

-- what is seen behind a class
abbrev pub outside : Sight → Sight
outside v = record { names = v.names; constants = v.constants; functions = v.functions; methods = []; myself = false }

-- outside classes
pub record AtModule (v : Sight) : Type 0 where
  pub methods : v.methods ≡ []
  pub myself : v.myself ≡ false

abbrev pub of_class : Sight → Class → List Placed
of_class v c = in_class (entered v (functions c.members)) (functions c.members)

abbrev pub in_classes : Sight → List Class → List Placed
in_classes v [] = []
in_classes v (c ∷ cs) = of_class v c ++ in_classes v cs

abbrev pub contract_when_one : Bool → Class → Option Class
contract_when_one b c = if b then Some c else None

-- the class of a line, where it is a contract
abbrev pub contract_in : List Entry → Item → Option Class
contract_in es (item.Class c) = contract_when_one (is_contract (base_of es c)) c
contract_in es _ = None

-- what is told of a module but for its functions
abbrev pub first_told : List Item → List Refusal
first_told is = names_faults is ++ (all_class_faults (entries is) (classes is) ++ no_contract (entries is) (classes is))

abbrev pub with_function : Option (List TypedFunc) → Option TypedFunc → Option (List TypedFunc)
with_function None f = None
with_function (Some fs) None = None
with_function (Some fs) (Some f) = Some (fs ++ f ∷ [])

abbrev pub functions_behind : Option (List TypedFunc) → Option (List TypedFunc) → Option (List TypedFunc)
functions_behind None fs = None
functions_behind (Some fs) None = None
functions_behind (Some fs) (Some gs) = Some (fs ++ gs)

-- whether a member is a function of this name
abbrev pub has_name : List ℕ → Member → Bool
has_name n (member.Func f) = is_named n f
has_name n _ = false

abbrev pub contract_of : ℕ → Class → List TypedFunc → Contract
contract_of n c fs = record { name = c.name.name; arc4 = false; funcs = fs; approval = beyond n (first_from 0 is_approval (functions c.members)); clear = beyond n (first_from 0 is_clear (functions c.members)); init = None }

abbrev pub contract_when : ℕ → Class → Option (List TypedFunc) → Option Contract
contract_when n c None = None
contract_when n c (Some fs) = Some (contract_of n c fs)

abbrev pub with_contract : Option (List Contract) → Option Contract → Option (List Contract)
with_contract None c = None
with_contract (Some cs) None = None
with_contract (Some cs) (Some c) = Some (cs ++ c ∷ [])

abbrev pub contracts_behind : Option (List Contract) → Option (List Contract) → Option (List Contract)
contracts_behind None cs = None
contracts_behind (Some cs) None = None
contracts_behind (Some cs) (Some ds) = Some (cs ++ ds)

-- the typed contracts of a module; want of memory has no cause
pub data IsAssembled (is : List Item) : Result (List Contract) SourceFault → Type 0 where
  assembled : (cs : List Contract) → typed (record { items = is }) ≡ Some cs → IsAssembled is (Ok cs)
  lacks : IsAssembled is (Err fault.Memory)

-- an answer where this is the first rule that is broken
pub data Answers (is : List Item) : Option Refusal → Result (List Contract) SourceFault → Type 0 where
  answers : (cs : List Contract) → typed (record { items = is }) ≡ Some cs → Answers is None (Ok cs)
  refuses : (r : Refusal) → Answers is (Some r) (Err (fault.Refused r))
  lacks : (r : Option Refusal) → Answers is r (Err fault.Memory)
