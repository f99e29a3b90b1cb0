-- The contracts of a module, and the rules that it breaks.
use Rattle.std.specs.Prelude.{ℕ, ◌≡◌, ◌+◌, Bool, true, false, if◌then◌else◌, List, [], ◌∷◌, ◌++◌, map, length, Option, Some, None, Result, Ok, Err, Contains, slice_get}
use Rattle.puya_base.specs.declared.source.Refusal.{Refusal}
use Rattle.puya_base.specs.declared.source.SourceFault.{SourceFault}
use Rattle.puya_base.specs.declared.source.SourceFault.TheVariants as fault
use Rattle.awst.specs.declared.contract.Func.{Func as TypedFunc}
use Rattle.awst.specs.declared.contract.Contract.{Contract}
use Rattle.py_grammar.specs.declared.module.Func.{Func}
use Rattle.py_grammar.specs.declared.module.Class.{Class}
use Rattle.py_grammar.specs.declared.module.Item.{Item}
use Rattle.py_grammar.specs.declared.module.Item.TheVariants as item
use Rattle.py_grammar.specs.declared.module.Module.{Module}
use Rattle.path_rules.specs.Rules.{IsBroken, IsFirst}
use Rattle.source_names.specs.declared.named.Entry.{Entry}
use Rattle.source_names.specs.declared.signature.Signature.{Signature}
use Rattle.source_headers.specs.Headers.{signature, divided}
use Rattle.source_headers.specs.Modules.{entries, constants, signatures, names_faults}
use Rattle.source_headers.specs.Classes.{Base, a_contract, another, unknown, base_of, functions, methods_from, class_signatures, classes, all_class_faults, no_contract, first_from, is_approval, is_clear, has_myself}
use Rattle.meaning_rules.specs.declared.scope.Scope.{Scope}
use Rattle.expression_check.specs.Sights.{method_of}
use Rattle.type_check.specs.Functions.{notes_of, end_of, typed_function, body_faults}

-- ---- functions with what they see

-- a function, its signature and its scope
pub record Placed : Type 0 where
  pub scope : Scope
  pub inside : Bool
  pub signature : Signature
  pub function : Func

abbrev pub module_functions : List Item → List Func
module_functions [] = []
module_functions (item.Func f ∷ is) = f ∷ module_functions is
module_functions (_ ∷ is) = module_functions is

-- what functions of the module see: its names and each other
abbrev pub module_scope : List Item → Scope
module_scope is = record { entries = entries is; constants = constants is; functions = signatures (entries is) is; methods = []; myself = false; locals = [] }

-- what functions of a class see: besides, each other's signatures, and those that are no programs behind `self`
abbrev pub class_scope : List Item → Class → Func → Scope
class_scope is c f =
    let fs = functions c.members in
    let ours = signatures (entries is) is in
    record {
      entries = entries is;
      constants = constants is;
      functions = ours ++ class_signatures (entries is) fs;
      methods = map method_of (methods_from (length ours) fs);
      myself = has_myself (divided true f.params);
      locals = [];
    }

abbrev pub placed_in_module : List Item → List Func → List Placed
placed_in_module is [] = []
placed_in_module is (f ∷ fs) =
    (record { scope = module_scope is; inside = false; signature = signature (entries is) false f; function = f }) ∷ placed_in_module is fs

abbrev pub placed_in_class : List Item → Class → List Func → List Placed
placed_in_class is c [] = []
placed_in_class is c (f ∷ fs) =
    (record { scope = class_scope is c f; inside = true; signature = signature (entries is) true f; function = f }) ∷ placed_in_class is c fs

abbrev pub is_contract : Base → Bool
is_contract a_contract = true
is_contract another = false
is_contract unknown = false

-- the classes whose base is Contract
abbrev pub contracts : List Entry → List Class → List Class
contracts es [] = []
contracts es (c ∷ cs) = if is_contract (base_of es c) then c ∷ contracts es cs else contracts es cs

abbrev pub class_functions : List Item → List Class → List Placed
class_functions is [] = []
class_functions is (c ∷ cs) = placed_in_class is c (functions c.members) ++ class_functions is cs

-- each function that is judged: those of the module, and those of its contracts
abbrev pub all_functions : List Item → List Placed
all_functions is = placed_in_module is (module_functions is) ++ class_functions is (contracts (entries is) (classes is))

-- ---- the rules that are broken

abbrev pub placed_faults : List Placed → List Refusal
placed_faults [] = []
placed_faults (p ∷ ps) = body_faults p.scope p.inside p.signature p.function ++ placed_faults ps

-- what is broken but on the paths of functions
abbrev pub listed_faults : List Item → List Refusal
listed_faults is =
    names_faults is ++ (all_class_faults (entries is) (classes is) ++ (no_contract (entries is) (classes is) ++ placed_faults (all_functions is)))

-- a function breaks a rule on its paths, or one that its notes tell
abbrev pub BreaksOnPaths : Placed → Refusal → Type 0
BreaksOnPaths p r = IsBroken (notes_of p.scope p.inside p.signature p.function) (end_of p.signature p.function) r

-- a module breaks a rule of those on names, types and paths
pub data IsBrokenIn (m : Module) : Refusal → Type 0 where
  listed : (r : Refusal) → Contains (listed_faults m.items) r → IsBrokenIn m r
  on_paths : (r : Refusal) (i : ℕ) (p : Placed) → slice_get (all_functions m.items) i ≡ Some p → BreaksOnPaths p r → IsBrokenIn m r

-- ---- the typed contracts

abbrev pub both_functions : Option TypedFunc → Option (List TypedFunc) → Option (List TypedFunc)
both_functions (Some f) (Some fs) = Some (f ∷ fs)
both_functions (Some f) None = None
both_functions None fs = None

abbrev pub typed_functions : List Placed → Option (List TypedFunc)
typed_functions [] = Some []
typed_functions (p ∷ ps) = both_functions (typed_function p.scope p.inside p.signature p.function) (typed_functions ps)

abbrev pub beyond : ℕ → Option ℕ → Option ℕ
beyond n None = None
beyond n (Some i) = Some (n + i)

-- a contract's functions are those of the module, and then its own
abbrev pub contract_of : List Item → Class → Option (List TypedFunc) → Option Contract
contract_of is c None = None
contract_of is c (Some fs) =
    let n = length (module_functions is) in
    Some (record { name = c.name.name; arc4 = false; funcs = fs; approval = beyond n (first_from 0 is_approval (functions c.members)); clear = beyond n (first_from 0 is_clear (functions c.members)); init = None })

abbrev pub typed_contract : List Item → Class → Option Contract
typed_contract is c = contract_of is c (typed_functions (placed_in_module is (module_functions is) ++ placed_in_class is c (functions c.members)))

abbrev pub both_contracts : Option Contract → Option (List Contract) → Option (List Contract)
both_contracts (Some c) (Some cs) = Some (c ∷ cs)
both_contracts (Some c) None = None
both_contracts None cs = None

abbrev pub typed_contracts : List Item → List Class → Option (List Contract)
typed_contracts is [] = Some []
typed_contracts is (c ∷ cs) = both_contracts (typed_contract is c) (typed_contracts is cs)

-- the contracts of a module, where each of its functions is known
unfoldable pub typed : Module → Option (List Contract)
typed m = typed_contracts m.items (contracts (entries m.items) (classes m.items))

-- What `check` answers. A module that breaks a rule is refused with the first; otherwise the answer is its typed contracts.
pub data Checks (m : Module) : Result (List Contract) SourceFault → Type 0 where
  answers : (cs : List Contract) → IsFirst (IsBrokenIn m) None → typed m ≡ Some cs → Checks m (Ok cs)
  refuses : (r : Refusal) → IsFirst (IsBrokenIn m) (Some r) → Checks m (Err (fault.Refused r))
  lacks : Checks m (Err fault.Memory)
