-- A module in which each name means something, and that breaks no rule, is typed.
use Rattle.std.proofs.Common.{◌≡◌, arith, true, false, List, [], ◌∷◌, ◌++◌, Option, Some, None, refl}
use Rattle.std.specs.Prelude.{if◌then◌else◌, ◌&&◌, Contains}
use Rattle.puya_base.specs.declared.source.Refusal.{Refusal}
use Rattle.awst.specs.declared.contract.Func.{Func as TypedFunc}
use Rattle.awst.specs.declared.contract.Contract.{Contract}
use Rattle.py_grammar.specs.declared.module.Func.{Func}
use Rattle.py_grammar.specs.declared.module.Class.{Class}
use Rattle.py_grammar.specs.declared.module.Item.{Item}
use Rattle.py_grammar.specs.declared.module.Item.TheVariants as item
use Rattle.py_grammar.specs.declared.module.Module.{Module}
use Rattle.path_rules.specs.Rules.{IsFirst}
use Rattle.source_names.specs.declared.named.Entry.{Entry}
use Rattle.source_names.specs.Things.{dotted}
use Rattle.source_headers.specs.Headers.{signature, twice}
use Rattle.source_headers.specs.Modules.{entries, all_item_faults, names_faults, entry_words}
use Rattle.source_headers.specs.Classes.{Base, a_contract, another, unknown, base_of, functions, classes, base_faults, class_faults, all_class_faults, no_contract, missing_programs, member_names, all_member_faults, contract_faults}
use Rattle.type_check.specs.Whole.{Placed, module_functions, module_scope, class_scope, placed_in_module, placed_in_class, is_contract, contracts, class_functions, all_functions, placed_faults, listed_faults, IsBrokenIn, listed, on_paths, both_functions, typed_functions, contract_of, typed_contract, both_contracts, typed_contracts, typed}
use Rattle.typing_laws.specs.Naming.{EntriesKnown, has_word, is_named_function, are_named_members, are_named_items, MeansSomething}
use Rattle.typing_laws.proofs.Known.{KnownTyped}
use Rattle.typing_laws.proofs.Mains.{front_none, behind_none}
use Rattle.typing_laws.proofs.PlacedFunctions.{EachOf, each_of_append, each_of_front, each_of_behind, each_of_from, typed_placed, IsQuiet}
use Rattle.typing_laws.proofs.KnownTypes.{and_left, and_right}
use Rattle.typing_laws.proofs.KnownFunctions.{function_typed}
use Rattle.typing_laws.proofs.KnownHeaders.{AllFine, items_fine, members_fine, signature_known, body_named}
use Rattle.typing_laws.proofs.KnownScopes.{module_known, class_known}

-- ---- typed functions

abbrev IsTypedPlaced : Placed → Type 0
IsTypedPlaced p = KnownTyped (typed_placed p)

both_known : (f : Option TypedFunc) (fs : Option (List TypedFunc)) → KnownTyped f → KnownTyped fs → KnownTyped (both_functions f fs)
both_known None fs h k = absurd h
both_known (Some f) None h k = absurd k
both_known (Some f) (Some fs) h k = tt

all_typed : (ps : List Placed) → EachOf IsTypedPlaced ps → KnownTyped (typed_functions ps)
all_typed [] h = tt
all_typed (p ∷ ps) h = both_known (typed_placed p) (typed_functions ps) h.0 (all_typed ps h.1)

module _ (is : List Item) (k : EntriesKnown (entries is)) (h : all_item_faults (entries is) is ≡ []) (g : AllFine (entries is) false (module_functions is)) where
  module_typed : (fs : List Func) → AllFine (entries is) false fs → EachOf IsQuiet (placed_in_module is fs) → EachOf IsTypedPlaced (placed_in_module is fs)
  module_typed [] d q = tt
  module_typed (f ∷ fs) d q =
      (function_typed (module_scope is) false (signature (entries is) false f) f (module_known is k h g) (signature_known (entries is) false f k d.0) (body_named (entries is) false f d.0) q.0, module_typed fs d.1 q.1)

  class_typed : (c : Class) → AllFine (entries is) true (functions c.members) → (fs : List Func) → AllFine (entries is) true fs → EachOf IsQuiet (placed_in_class is c fs) → EachOf IsTypedPlaced (placed_in_class is c fs)
  class_typed c a [] d q = tt
  class_typed c a (f ∷ fs) d q =
      (function_typed (class_scope is c f) true (signature (entries is) true f) f (class_known is c f k h g a) (signature_known (entries is) true f k d.0) (body_named (entries is) true f d.0) q.0, class_typed c a fs d.1 q.1)

-- ---- contracts

-- a contract that breaks no rule, with names alone as types
record FineClass (es : List Entry) (c : Class) : Type 0 where
  faultless : contract_faults es c ≡ []
  named : are_named_members c.members ≡ true

abbrev FineClasses : List Entry → List Class → Type 0
FineClasses es [] = Unit {0}
FineClasses es (c ∷ cs) = FineClass es c × FineClasses es cs

abbrev NamedClasses : List Class → Type 0
NamedClasses [] = Unit {0}
NamedClasses (c ∷ cs) = (are_named_members c.members ≡ true) × NamedClasses cs

classes_named : (is : List Item) → are_named_items is ≡ true → NamedClasses (classes is)
classes_named [] n = tt
classes_named (item.Class c ∷ is) n =
    let behind = and_right (has_word c.base) (are_named_members c.members && are_named_items is) n in
    (and_left (are_named_members c.members) (are_named_items is) behind, classes_named is (and_right (are_named_members c.members) (are_named_items is) behind))
classes_named (item.Func f ∷ is) n = classes_named is (and_right (is_named_function f) (are_named_items is) n)
classes_named (item.Text p ls ∷ is) n = classes_named is n
classes_named (item.Import p ws a ∷ is) n = classes_named is n
classes_named (item.From p ws ns ∷ is) n = classes_named is n
classes_named (item.FromParen p ws ns b ∷ is) n = classes_named is n
classes_named (item.Const w v ∷ is) n = classes_named is n

fine_by : (es : List Entry) (c : Class) (cs : List Class) (b : Base) → base_faults es c b ≡ [] → are_named_members c.members ≡ true → FineClasses es cs → FineClasses es (if is_contract b then c ∷ cs else cs)
fine_by es c cs a_contract h n k = (record { faultless = h; named = n }, k)
fine_by es c cs another h n k = k
fine_by es c cs unknown h n k = k

classes_fine : (es : List Entry) (cs : List Class) → all_class_faults es cs ≡ [] → NamedClasses cs → FineClasses es (contracts es cs)
classes_fine es [] h n = tt
classes_fine es (c ∷ cs) h n =
    let own = behind_none (dotted es [] c.base).faults (base_faults es c (base_of es c)) (front_none (class_faults es c) (all_class_faults es cs) h) in
    fine_by es c (contracts es cs) (base_of es c) own n.0 (classes_fine es cs (behind_none (class_faults es c) (all_class_faults es cs) h) n.1)

contract_functions : (es : List Entry) (c : Class) → FineClass es c → AllFine es true (functions c.members)
contract_functions es c f =
    members_fine es c.members
    (behind_none (twice [] (member_names c.members)) (all_member_faults es c.members) (behind_none (missing_programs c) (twice [] (member_names c.members) ++ all_member_faults es c.members) f.faultless)) f.named

contract_by : (is : List Item) (c : Class) (o : Option (List TypedFunc)) → KnownTyped o → KnownTyped (contract_of is c o)
contract_by is c None k = absurd k
contract_by is c (Some fs) k = tt

more_contracts : (c : Option Contract) (cs : Option (List Contract)) → KnownTyped c → KnownTyped cs → KnownTyped (both_contracts c cs)
more_contracts None cs h k = absurd h
more_contracts (Some c) None h k = absurd k
more_contracts (Some c) (Some cs) h k = tt

contracts_typed : (is : List Item) → EntriesKnown (entries is) → all_item_faults (entries is) is ≡ [] → AllFine (entries is) false (module_functions is)
    → EachOf IsQuiet (placed_in_module is (module_functions is)) → (cs : List Class) → FineClasses (entries is) cs → EachOf IsQuiet (class_functions is cs) → KnownTyped (typed_contracts is cs)
contracts_typed is k h g q [] f r = tt
contracts_typed is k h g q (c ∷ cs) f r =
    let ours = placed_in_module is (module_functions is) in
    let own = placed_in_class is c (functions c.members) in
    let fine = contract_functions (entries is) c f.0 in
    let first = module_typed is k h g (module_functions is) g q in
    let second = class_typed is k h g c fine (functions c.members) fine (each_of_front IsQuiet own (class_functions is cs) r) in
    more_contracts (typed_contract is c) (typed_contracts is cs)
    (contract_by is c (typed_functions (ours ++ own)) (all_typed (ours ++ own) (each_of_append IsTypedPlaced ours own first second)))
    (contracts_typed is k h g q cs f.1 (each_of_behind IsQuiet own (class_functions is cs) r))

-- ---- modules

no_faults : (rs : List Refusal) → ((r : Refusal) → Contains rs r → ⊥) → rs ≡ []
no_faults [] h = refl
no_faults (r ∷ rs) h = absurd (h r (0, omega arith, refl))

there : {A : Type 0} (o : Option A) → KnownTyped o → (a : A) × (o ≡ Some a)
there None k = absurd k
there (Some a) k = (a, refl)

pub unbroken_typed : (m : Module) → MeansSomething m → IsFirst (IsBrokenIn m) None → (cs : List Contract) × (typed m ≡ Some cs)
unfolding typed
unbroken_typed m k q =
    let is = m.items in
    let es = entries is in
    let cs = contracts es (classes is) in
    let words = twice [] (entry_words es) in
    let last = no_contract es (classes is) ++ placed_faults (all_functions is) in
    let none = no_faults (listed_faults is) (λ r c. q r (listed r c)) in
    let names = behind_none words (all_item_faults es is) (front_none (names_faults is) (all_class_faults es (classes is) ++ last) none) in
    let bases = front_none (all_class_faults es (classes is)) last (behind_none (names_faults is) (all_class_faults es (classes is) ++ last) none) in
    let quiet = each_of_from IsQuiet (all_functions is) (λ i p e r b. q r (on_paths r i p e b)) in
    let ours = placed_in_module is (module_functions is) in
    there (typed_contracts is cs)
    (contracts_typed is k.entries names (items_fine es is names k.named) (each_of_front IsQuiet ours (class_functions is cs) quiet)
    cs (classes_fine es (classes is) bases (classes_named is k.named)) (each_of_behind IsQuiet ours (class_functions is cs) quiet))
