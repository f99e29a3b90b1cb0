-- A module's functions with what they see and its contracts, as the rules have them.
use Rattle.std.proofs.Common.{◌≡◌, ℕ, suc, ◌-◌, ◌<◌, ◌≤◌, ◌⊎◌, inl, inr, Bool, true, false, List, [], ◌∷◌, ◌++◌, map, Option, Some, None, length, take, drop, get_or, refl, sym, ap, ◌∙◌, subst, append_assoc, append-nil, arith}
use Rattle.std.specs.Prelude.{Contains}
use Rattle.puya_base.specs.declared.source.Refusal.{Refusal}
use Rattle.awst.specs.declared.contract.Func.{Func as TypedFunc}
use Rattle.awst.specs.declared.contract.Contract.{Contract}
use Rattle.py_grammar.specs.declared.module.Func.{Func}
use Rattle.py_grammar.specs.declared.module.Class.{Class}
use Rattle.py_grammar.specs.declared.module.Item.{Item}
use Rattle.py_grammar.specs.declared.module.Item.TheVariants as item
use Rattle.py_grammar.specs.declared.module.Module.{Module}
use Rattle.path_rules.specs.Rules.{ComesFirst, IsFirst}
use Rattle.path_rules.proofs.Firsts.{least_iff}
use Rattle.source_names.specs.declared.named.Entry.{Entry}
use Rattle.source_headers.specs.Headers.{signature, divided}
use Rattle.source_headers.specs.Modules.{entries, names_faults, signatures}
use Rattle.source_headers.specs.Classes.{all_class_faults, class_signatures, classes, first_from, functions, has_myself, is_approval, is_clear, methods_from, no_contract}
use Rattle.meaning_rules.specs.declared.scope.Scope.{Scope}
use Rattle.expression_check.specs.declared.sight.Sight.{Sight}
use Rattle.expression_check.specs.Sights.{method_of, seen}
use Rattle.type_check.specs.Firsts.{BreaksSome, IsFirstOf, first_in}
use Rattle.type_check.specs.Placing as placing
use Rattle.type_check.specs.Placing.{AtModule, contracts_behind, entered, functions_behind, in_class, in_classes, in_module, of_class}
use Rattle.type_check.specs.Whole as spec
use Rattle.type_check.specs.Whole.{IsBrokenIn, Placed, all_functions, beyond, both_contracts, class_functions, contracts, listed, listed_faults, module_functions, module_scope, on_paths, placed_faults, placed_in_class, placed_in_module, typed, typed_contract, typed_contracts, typed_functions}
use Rattle.type_check.proofs.Behind.{first_and_behind}
use Rattle.type_check.proofs.FirstOnes.{first_of_more, first_told}
use Rattle.type_check.proofs.Lines.{faults-append, one_line, typed-append}

-- ---- what the functions of a module see

abbrev at_scope : Scope → Bool → Func → Placed
at_scope s inside f = record { scope = s; inside = inside; signature = signature s.entries inside f; function = f }

abbrev with_class : Scope → List Func → Func → Scope
with_class s fs f = record {
  entries = s.entries;
  constants = s.constants;
  functions = s.functions ++ class_signatures s.entries fs;
  methods = map method_of (methods_from (length s.functions) fs);
  myself = has_myself (divided true f.params);
  locals = [];
}

module _ (v : Sight) (is : List Item) (h : seen v [] ≡ module_scope is) where
  same_names : v.names ≡ entries is
  same_names = ap (λ (s : Scope). s.entries) h

  same_functions : v.functions ≡ signatures (entries is) is
  same_functions = ap (λ (s : Scope). s.functions) h

  same_in_module : (fs : List Func) → in_module v fs ≡ placed_in_module is fs
  same_in_module [] = refl
  same_in_module (f ∷ fs) = ap (λ s. at_scope s false f ∷ in_module v fs) h ∙ ap (λ z. at_scope (module_scope is) false f ∷ z) (same_in_module fs)

  same_in_class : (c : Class) (fs : List Func) → in_class (entered v (functions c.members)) fs ≡ placed_in_class is c fs
  same_in_class c [] = refl
  same_in_class c (f ∷ fs) =
      ap (λ s. at_scope (with_class s (functions c.members) f) true f ∷ in_class (entered v (functions c.members)) fs) h
      ∙ ap (λ z. at_scope (with_class (module_scope is) (functions c.members) f) true f ∷ z) (same_in_class c fs)

  same_in_classes : (cs : List Class) → in_classes v cs ≡ class_functions is cs
  same_in_classes [] = refl
  same_in_classes (c ∷ cs) =
      ap (λ z. z ++ in_classes v cs) (same_in_class c (functions c.members))
      ∙ ap (λ z. placed_in_class is c (functions c.members) ++ z) (same_in_classes cs)

  pub same_contracts : in_classes v (contracts v.names (classes is)) ≡ class_functions is (contracts (entries is) (classes is))
  same_contracts = same_in_classes (contracts v.names (classes is)) ∙ ap (λ es. class_functions is (contracts es (classes is))) same_names

no_methods : (ms : List (List ℕ × ℕ)) → map method_of ms ≡ [] → ms ≡ []
no_methods [] h = refl
no_methods (m ∷ ms) h = let f : method_of m ∷ map method_of ms ≡ [] = h in cc

pub at_module : (v : Sight) (is : List Item) → seen v [] ≡ module_scope is → AtModule v
at_module v is h = record {
  methods = no_methods v.methods (ap (λ (s : Scope). s.methods) h);
  myself = ap (λ (s : Scope). s.myself) h;
}

-- ---- the first rule that a module breaks

broken_parts : (m : Module) (r : Refusal) → IsBrokenIn m r → BreaksSome (all_functions m.items) r ⊎ Contains (listed_faults m.items) r
broken_parts m _ (listed r c) = inr c
broken_parts m _ (on_paths r i p e h) = inl (i, p, e, h)

listed_so : (is : List Item) (a b : List Placed)
    → (placing.first_told is ++ placed_faults a) ++ placed_faults b
    ≡ names_faults is ++ (all_class_faults (entries is) (classes is) ++ (no_contract (entries is) (classes is) ++ placed_faults (a ++ b)))
listed_so is a b =
    let x = names_faults is in
    let y = all_class_faults (entries is) (classes is) in
    let z = no_contract (entries is) (classes is) in
    append_assoc (x ++ (y ++ z)) (placed_faults a) (placed_faults b)
    ∙ ap (λ u. (x ++ (y ++ z)) ++ u) (sym (faults-append a b))
    ∙ append_assoc x (y ++ z) (placed_faults (a ++ b))
    ∙ ap (λ u. x ++ u) (append_assoc y z (placed_faults (a ++ b)))

module _ (v : Sight) (is : List Item) (h : seen v [] ≡ module_scope is) where
  pub first_broken : (told some all : List Refusal) (paths last first : Option Refusal) → told ≡ placing.first_told is
      → some ≡ told ++ placed_faults (in_module v (module_functions is)) → IsFirstOf None (in_module v (module_functions is)) paths
      → all ≡ some ++ placed_faults (in_classes v (contracts v.names (classes is))) → IsFirstOf paths (in_classes v (contracts v.names (classes is))) last
      → first ≡ first_in last all → IsFirst (IsBrokenIn (record { items = is })) first
  first_broken told some all paths last first t d e f g k =
      let a = in_module v (module_functions is) in
      let b = in_classes v (contracts v.names (classes is)) in
      let each : a ++ b ≡ all_functions is =
      ap (λ z. z ++ b) (same_in_module v is h (module_functions is)) ∙ ap (λ z. placed_in_module is (module_functions is) ++ z) (same_contracts v is h) in
      let faults : all ≡ listed_faults is =
      f ∙ ap (λ z. z ++ placed_faults b) (d ∙ ap (λ z. z ++ placed_faults a) t) ∙ listed_so is a b
      ∙ ap (λ ps. names_faults is ++ (all_class_faults (entries is) (classes is) ++ (no_contract (entries is) (classes is) ++ placed_faults ps))) each in
      let broken : IsFirstOf None (all_functions is) last = subst (λ ps. IsFirstOf None ps last) each (first_of_more None paths last a b e g) in
      subst (IsFirst (IsBrokenIn (record { items = is }))) (sym k)
      (least_iff ComesFirst (λ r. ((None ≡ Some r) ⊎ BreaksSome (all_functions is) r) ⊎ Contains all r) (IsBrokenIn (record { items = is }))
      (λ r j. elim j [
        | inl i ↦ elim i [ inl n ↦ (let o : None ≡ Some r = n in cc) | inr s ↦ on_paths r s.0 s.1 s.2 s.3 ]
        | inr c ↦ listed r (subst (λ rs. Contains rs r) faults c)
      ])
      (λ r j. elim (broken_parts (record { items = is }) r j) [ inl s ↦ inl (inr s) | inr c ↦ inr (subst (λ rs. Contains rs r) (sym faults) c) ])
      (first_in last all)
      (first_told (λ r. (None ≡ Some r) ⊎ BreaksSome (all_functions is) r) last all broken))

-- ---- typed contracts

as_many : (es : List Entry) (is : List Item) → length (signatures es is) ≡ length (module_functions is)
as_many es [] = refl
as_many es (item.Text p ls ∷ is) = as_many es is
as_many es (item.Import p ws a ∷ is) = as_many es is
as_many es (item.From p ws ns ∷ is) = as_many es is
as_many es (item.FromParen p ws ns b ∷ is) = as_many es is
as_many es (item.Const w v ∷ is) = as_many es is
as_many es (item.Func d ∷ is) = ap suc (as_many es is)
as_many es (item.Class c ∷ is) = as_many es is

contract_by : (is : List Item) (c : Class) (n : ℕ) (fs : Option (List TypedFunc)) → n ≡ length (module_functions is) → placing.contract_when n c fs ≡ spec.contract_of is c fs
contract_by is c n None e = refl
contract_by is c n (Some fs) e = ap (λ m. Some (placing.contract_of m c fs)) e

module _ (v : Sight) (is : List Item) (c : Class) (h : seen v [] ≡ module_scope is) where
  pub contract_typed : (n : ℕ) (before all : Option (List TypedFunc)) (one : Option Contract) → n ≡ length v.functions
      → before ≡ typed_functions (in_module v (module_functions is))
      → all ≡ functions_behind before (typed_functions (in_class (entered v (functions c.members)) (functions c.members)))
      → one ≡ placing.contract_when n c all → one ≡ typed_contract is c
  contract_typed n before all one e d f k =
      let ours = placed_in_module is (module_functions is) in
      let theirs = placed_in_class is c (functions c.members) in
      let known : all ≡ typed_functions (ours ++ theirs) =
      f ∙ ap (λ z. functions_behind z (typed_functions (in_class (entered v (functions c.members)) (functions c.members)))) (d ∙ ap typed_functions (same_in_module v is h (module_functions is)))
      ∙ ap (λ ps. functions_behind (typed_functions ours) (typed_functions ps)) (same_in_class v is h c (functions c.members))
      ∙ sym (typed-append ours theirs) in
      k ∙ ap (placing.contract_when n c) known
      ∙ contract_by is c n (typed_functions (ours ++ theirs)) (e ∙ ap length (same_functions v is h) ∙ as_many (entries is) is)

both_behind : (c : Option Contract) (cs ds : Option (List Contract)) → both_contracts c (contracts_behind cs ds) ≡ contracts_behind (both_contracts c cs) ds
both_behind None cs ds = refl
both_behind (Some c) None ds = refl
both_behind (Some c) (Some cs) None = refl
both_behind (Some c) (Some cs) (Some ds) = refl

none_behind : (cs : Option (List Contract)) → cs ≡ contracts_behind (Some []) cs
none_behind None = refl
none_behind (Some cs) = refl

behind-assoc : (a b c : Option (List Contract)) → contracts_behind (contracts_behind a b) c ≡ contracts_behind a (contracts_behind b c)
behind-assoc None b c = refl
behind-assoc (Some fs) None c = refl
behind-assoc (Some fs) (Some gs) None = refl
behind-assoc (Some fs) (Some gs) (Some hs) = ap Some (append_assoc fs gs hs)

contracts-append : (is : List Item) (cs ds : List Class) → typed_contracts is (cs ++ ds) ≡ contracts_behind (typed_contracts is cs) (typed_contracts is ds)
contracts-append is [] ds = none_behind (typed_contracts is ds)
contracts-append is (c ∷ cs) ds = ap (both_contracts (typed_contract is c)) (contracts-append is cs ds) ∙ both_behind (typed_contract is c) (typed_contracts is cs) (typed_contracts is ds)

-- the contract of a line, behind those before it
pub line_behind : (is : List Item) (es : List Entry) (xs : List Item) (x : Item) (told more all : Option (List Contract)) → x ≡ get_or xs 0 x → 1 ≤ length xs
    → more ≡ contracts_behind told (typed_contracts is (contracts es (classes (x ∷ []))))
    → contracts_behind told (typed_contracts is (contracts es (classes xs))) ≡ all
    → contracts_behind more (typed_contracts is (contracts es (classes (take (length xs - 1) (drop 1 xs))))) ≡ all
line_behind is es xs x told more all at low d h =
    let ys = take (length xs - 1) (drop 1 xs) in
    let one = contracts es (classes (x ∷ [])) in
    let rest = contracts es (classes ys) in
    ap (λ z. contracts_behind z (typed_contracts is rest)) d
    ∙ behind-assoc told (typed_contracts is one) (typed_contracts is rest)
    ∙ ap (contracts_behind told)
    (sym (ap (λ zs. typed_contracts is (contracts es (classes zs))) (first_and_behind xs x at low) ∙ ap (typed_contracts is) (one_line es x ys) ∙ contracts-append is one rest))
    ∙ h

pub behind_none : (cs : Option (List Contract)) → cs ≡ contracts_behind cs (Some [])
behind_none None = refl
behind_none (Some cs) = ap Some (sym (append-nil cs))

pub contract_made : (n : ℕ) (c : Class) (fs : List TypedFunc) (name : List ℕ) (a b : Option ℕ) → name ≡ c.name.name
    → a ≡ beyond n (first_from 0 is_approval (functions c.members)) → b ≡ beyond n (first_from 0 is_clear (functions c.members))
    → (record { name = name; arc4 = false; funcs = fs; approval = a; clear = b; init = None }) ≡ placing.contract_of n c fs
contract_made n c fs name a b d e f = rw (d, e, f) refl

pub none_left : {A : Type 0} (xs : List A) → length xs < 1 → xs ≡ []
none_left [] h = refl
none_left (x ∷ xs) h = absurd (omega (arith, h))

-- all lines
pub all_typed : (v : Sight) (is : List Item) (all : Option (List Contract)) → seen v [] ≡ module_scope is → all ≡ typed_contracts is (contracts v.names (classes is))
    → all ≡ typed (record { items = is })
unfolding typed
all_typed v is all h d = d ∙ ap (λ es. typed_contracts is (contracts es (classes is))) (same_names v is h)
