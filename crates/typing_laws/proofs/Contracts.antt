-- The typed contracts that `check` answers are sound.
use Rattle.std.proofs.Common.{◌≡◌, ℕ, zero, suc, ◌+◌, ◌<◌, arith, Bool, true, false, List, [], ◌∷◌, ◌++◌, length, map, Option, Some, None, refl, sym, ◌∙◌, ap, subst, ◌⊎◌, inl, inr}
use Rattle.std.specs.Prelude.{if◌then◌else◌, ◌||◌, slice_get, option_map, Contains, Ok}
use Rattle.std.specs.List.{All}
use Rattle.std.proofs.lemmas.List.Elements.{All-nil, All-cons}
use Rattle.std.proofs.lemmas.Option.{none-some, same_Some, slice_get-map, slice_get_within}
use Rattle.puya_base.specs.declared.source.Refusal.{Refusal}
use Rattle.awst.specs.declared.contract.Func.{Func as TypedFunc}
use Rattle.awst.specs.declared.contract.Contract.{Contract}
use Rattle.awst.specs.Types.{ValueType, uint64, bool}
use Rattle.awst.specs.Sound.{Signature, signature_of, IsMain, IfThere, IsSoundContract}
use Rattle.py_grammar.specs.declared.module.Func.{Func}
use Rattle.py_grammar.specs.declared.module.Class.{Class}
use Rattle.py_grammar.specs.declared.module.Item.{Item}
use Rattle.py_grammar.specs.declared.module.Item.TheVariants as item
use Rattle.py_grammar.specs.declared.module.Module.{Module}
use Rattle.source_names.specs.declared.types.SourceType.{SourceType}
use Rattle.source_names.specs.declared.named.Entry.{Entry}
use Rattle.source_names.specs.declared.signature.Signature.{Signature as SourceSignature}
use Rattle.source_names.specs.Things.{dotted}
use Rattle.source_headers.specs.Headers.{signature, twice}
use Rattle.source_headers.specs.Modules.{entries, signatures, names_faults}
use Rattle.source_headers.specs.Classes.{Base, a_contract, another, unknown, base_of, functions, class_signatures, classes, base_faults, class_faults, all_class_faults, no_contract, first_from, is_approval, is_clear, is_program, wrong_result, missing, missing_programs, member_names, all_member_faults, contract_faults}
use Rattle.type_check.specs.Whole.{Placed, module_functions, class_scope, placed_in_module, placed_in_class, is_contract, contracts, class_functions, all_functions, placed_faults, listed_faults, IsBrokenIn, listed, on_paths, typed_functions, beyond, contract_of, typed_contract, both_contracts, typed_contracts, typed, Checks, answers}
use Rattle.typing_laws.proofs.Truths.{never}
use Rattle.typing_laws.proofs.Good.{KnowsFunction, KnowsFunctions}
use Rattle.typing_laws.proofs.Entries.{entries_good, constants_good}
use Rattle.typing_laws.proofs.Functions.{typing, function_known}
use Rattle.typing_laws.proofs.Headers.{signature_good}
use Rattle.typing_laws.proofs.PlacedFunctions.{EachOf, each_of_append, each_of_front, each_of_behind, each_of_from, function_at, headers, headers_known, HasGoodHeader, IsQuiet, SeesGood, functions_sound}
use Rattle.typing_laws.proofs.Mains.{Found, front_none, behind_none, main_there, main_good, truth_type}

-- ---- places in two lists

nth_left : {A : Type 0} (xs ys : List A) (k : ℕ) → k < length xs → slice_get (xs ++ ys) k ≡ slice_get xs k
nth_left [] ys k l = absurd (omega (arith, l))
nth_left (x ∷ xs) ys zero l = refl
nth_left (x ∷ xs) ys (suc k) l = nth_left xs ys k (omega (arith, l))

nth_right : {A : Type 0} (xs ys : List A) (k n : ℕ) → n ≡ length xs + k → slice_get (xs ++ ys) n ≡ slice_get ys k
nth_right [] ys k n e = ap (slice_get ys) (omega (arith, e))
nth_right (x ∷ xs) ys k zero e = absurd (omega (arith, e))
nth_right (x ∷ xs) ys k (suc n) e = nth_right xs ys k n (omega (arith, e))

-- ---- the functions of a contract, with what they see

abbrev together : List Item → Class → List Placed
together is c = placed_in_module is (module_functions is) ++ placed_in_class is c (functions c.members)

abbrev in_class : List Item → Class → Func → Placed
in_class is c f = record { scope = class_scope is c f; inside = true; signature = signature (entries is) true f; function = f }

module_headers : (all is : List Item) → headers (placed_in_module all (module_functions is)) ≡ signatures (entries all) is
module_headers all [] = refl
module_headers all (item.Func f ∷ is) = ap (λ z. signature (entries all) false f ∷ z) (module_headers all is)
module_headers all (item.Text p ls ∷ is) = module_headers all is
module_headers all (item.Import p ws a ∷ is) = module_headers all is
module_headers all (item.From p ws ns ∷ is) = module_headers all is
module_headers all (item.FromParen p ws ns b ∷ is) = module_headers all is
module_headers all (item.Const w v ∷ is) = module_headers all is
module_headers all (item.Class d ∷ is) = module_headers all is

class_headers : (is : List Item) (c : Class) (fs : List Func) → headers (placed_in_class is c fs) ≡ class_signatures (entries is) fs
class_headers is c [] = refl
class_headers is c (f ∷ fs) = ap (λ z. signature (entries is) true f ∷ z) (class_headers is c fs)

headers_append : (ps qs : List Placed) → headers (ps ++ qs) ≡ headers ps ++ headers qs
headers_append [] qs = refl
headers_append (p ∷ ps) qs = ap (λ z. p.signature ∷ z) (headers_append ps qs)

module_length : (is : List Item) (fs : List Func) → length (placed_in_module is fs) ≡ length fs
module_length is [] = refl
module_length is (f ∷ fs) = ap suc (module_length is fs)

class_at : (is : List Item) (c : Class) (fs : List Func) (i : ℕ) (f : Func) → slice_get fs i ≡ Some f → slice_get (placed_in_class is c fs) i ≡ Some (in_class is c f)
class_at is c [] i f e = absurd (none-some f e)
class_at is c (g ∷ fs) zero f e = ap (λ z. Some (in_class is c z)) (same_Some g f e)
class_at is c (g ∷ fs) (suc i) f e = class_at is c fs i f e

-- ---- their headers and their scopes are good

module_good : (is : List Item) (fs : List Func) → EachOf HasGoodHeader (placed_in_module is fs)
module_good is [] = tt
module_good is (f ∷ fs) = (signature_good (entries is) false f, module_good is fs)

class_good : (is : List Item) (c : Class) (fs : List Func) → EachOf HasGoodHeader (placed_in_class is c fs)
class_good is c [] = tt
class_good is c (f ∷ fs) = (signature_good (entries is) true f, class_good is c fs)

together_good : (is : List Item) (c : Class) → EachOf HasGoodHeader (together is c)
together_good is c = each_of_append HasGoodHeader (placed_in_module is (module_functions is)) (placed_in_class is c (functions c.members)) (module_good is (module_functions is)) (class_good is c (functions c.members))

known_front : (known : List Signature) (a b : List SourceSignature) → KnowsFunctions known (a ++ b) → KnowsFunctions known a
known_front known a b k n g e = k n g (nth_left a b n (slice_get_within a n g e) ∙ e)

module_sees : (known : List Signature) (is : List Item) → KnowsFunctions known (signatures (entries is) is) → (fs : List Func) → EachOf (SeesGood known) (placed_in_module is fs)
module_sees known is k [] = tt
module_sees known is k (f ∷ fs) = (λ vs. record { entries = entries_good is; constants = constants_good is; functions = k }, module_sees known is k fs)

class_sees : (known : List Signature) (is : List Item) (c : Class) → KnowsFunctions known (signatures (entries is) is ++ class_signatures (entries is) (functions c.members)) → (fs : List Func) → EachOf (SeesGood known) (placed_in_class is c fs)
class_sees known is c k [] = tt
class_sees known is c k (f ∷ fs) = (λ vs. record { entries = entries_good is; constants = constants_good is; functions = k }, class_sees known is c k fs)

together_known : (is : List Item) (c : Class) (fs : List TypedFunc) → typed_functions (together is c) ≡ Some fs → KnowsFunctions (map signature_of fs) (signatures (entries is) is ++ class_signatures (entries is) (functions c.members))
together_known is c fs h =
    let ours = module_headers is is in
    let own = class_headers is c (functions c.members) in
    subst (KnowsFunctions (map signature_of fs))
    (headers_append (placed_in_module is (module_functions is)) (placed_in_class is c (functions c.members))
    ∙ ap (λ z. z ++ headers (placed_in_class is c (functions c.members))) ours
    ∙ ap (λ z. signatures (entries is) is ++ z) own)
    (headers_known (together is c) fs h (together_good is c))

together_sees : (is : List Item) (c : Class) (fs : List TypedFunc) → typed_functions (together is c) ≡ Some fs → EachOf (SeesGood (map signature_of fs)) (together is c)
together_sees is c fs h =
    let known = map signature_of fs in
    let k = together_known is c fs h in
    each_of_append (SeesGood known) (placed_in_module is (module_functions is)) (placed_in_class is c (functions c.members))
    (module_sees known is (known_front known (signatures (entries is) is) (class_signatures (entries is) (functions c.members)) k) (module_functions is))
    (class_sees known is c k (functions c.members))

-- ---- its programs

no_types : (ts : List ValueType) → length ts ≡ 0 → ts ≡ []
no_types [] h = refl
no_types (t ∷ ts) h = absurd (omega (arith, h))

truth_by : {t u : ValueType} → t ≡ u → (u ≡ uint64) ⊎ (u ≡ bool) → (t ≡ uint64) ⊎ (t ≡ bool)
truth_by e (inl h) = inl (e ∙ h)
truth_by e (inr h) = inr (e ∙ h)

main_from : (known : List Signature) (n : ℕ) (g : SourceSignature) (t : SourceType) → KnowsFunction known n g → g.result ≡ Some t → g.params ≡ [] → wrong_result g.result ≡ false → IsMain known n
main_from known n g t k e h w = record {
  signature = k.signature;
  exists = k.exists;
  params = no_types k.signature.params (k.count ∙ ap length h);
  result = truth_by (k.result t e).0 (truth_type t (ap wrong_result (sym e) ∙ w));
}

is_main : (is : List Item) (c : Class) (fs : List TypedFunc) → typed_functions (together is c) ≡ Some fs → contract_faults (entries is) c ≡ []
    → (i : ℕ) (f : Func) → slice_get (functions c.members) i ≡ Some f → is_program f ≡ true → IsMain (map signature_of fs) (length (module_functions is) + i)
is_main is c fs h q i f e k =
    let n = length (module_functions is) + i in
    let long = module_length is (module_functions is) in
    let at = nth_right (placed_in_module is (module_functions is)) (placed_in_class is c (functions c.members)) i n (omega (arith, long)) ∙ class_at is c (functions c.members) i f e in
    let r = function_at (together is c) fs h n (in_class is c f) at in
    let own = signature (entries is) true f in
    let y = typing (class_scope is c f) true own f r.function r.is in
    let main = main_good (entries is) c q i f e k in
    main_from (map signature_of fs) n own y.result (function_known (map signature_of fs) n (class_scope is c f) true own f r.function r.is (signature_good (entries is) true f) (slice_get-map signature_of fs n ∙ ap (option_map signature_of) r.at))
    y.gives main.params main.result

main_at : (is : List Item) (c : Class) (fs : List TypedFunc) → typed_functions (together is c) ≡ Some fs → contract_faults (entries is) c ≡ []
    → (p : Func → Bool) → ((f : Func) → p f ≡ true → is_program f ≡ true) → (o : Option ℕ) → Found p (functions c.members) 0 o → IfThere (IsMain (map signature_of fs)) (beyond (length (module_functions is)) o)
main_at is c fs h q p k o r =
    let same : 0 + r.number ≡ r.number = omega arith in
    subst (λ z. IfThere (IsMain (map signature_of fs)) (beyond (length (module_functions is)) z)) (sym (r.is ∙ ap Some same))
    (is_main is c fs h q r.number r.found.function r.found.at (k r.found.function r.found.passes))

approval_program : (f : Func) → is_approval f ≡ true → is_program f ≡ true
approval_program f h = rw h refl

or_true : (b : Bool) → (b || true) ≡ true
or_true true = refl
or_true false = refl

clear_program : (f : Func) → is_clear f ≡ true → is_program f ≡ true
clear_program f h = rw h (or_true (is_approval f))

-- ---- contracts

abbrev contract_made : List Item → Class → List TypedFunc → Contract
contract_made is c fs =
    let n = length (module_functions is) in
    record { name = c.name.name; arc4 = false; funcs = fs; approval = beyond n (first_from 0 is_approval (functions c.members)); clear = beyond n (first_from 0 is_clear (functions c.members)); init = None }

is_there : (n i : ℕ) (o : Option ℕ) → o ≡ Some i → beyond n o ≡ None → false ≡ true
is_there n i o e h = absurd (none-some (n + i) (sym h ∙ ap (beyond n) e))

contract_as : (is : List Item) (c : Class) → EachOf IsQuiet (together is c) → contract_faults (entries is) c ≡ [] → (fs : List TypedFunc) → typed_functions (together is c) ≡ Some fs
    → (d : Contract) → contract_of is c (Some fs) ≡ Some d → IsSoundContract d
contract_as is c q k fs h d e =
    let programs = front_none (missing_programs c) (twice [] (member_names c.members) ++ all_member_faults (entries is) c.members) k in
    let approval = first_from 0 is_approval (functions c.members) in
    let clear = first_from 0 is_clear (functions c.members) in
    let first = main_there c.name.place is_approval (functions c.members) (front_none (missing c.name.place approval) (missing c.name.place clear) programs) in
    let second = main_there c.name.place is_clear (functions c.members) (behind_none (missing c.name.place approval) (missing c.name.place clear) programs) in
    subst IsSoundContract (same_Some (contract_made is c fs) d e) (record {
      functions = functions_sound (map signature_of fs) (together is c) fs h (together_good is c) (together_sees is c fs h) q;
      kind = (λ b. never b, λ b. is_there (length (module_functions is)) (0 + first.number) approval first.is b);
      approval = main_at is c fs h k is_approval approval_program approval first;
      clear = main_at is c fs h k is_clear clear_program clear second;
      init = tt;
    })

contract_by : (is : List Item) (c : Class) → EachOf IsQuiet (together is c) → contract_faults (entries is) c ≡ [] → (d : Contract) → (o : Option (List TypedFunc)) → typed_functions (together is c) ≡ o
    → contract_of is c o ≡ Some d → IsSoundContract d
contract_by is c q k d None h e = absurd (none-some d e)
contract_by is c q k d (Some fs) h e = contract_as is c q k fs h d e

contract_sound : (is : List Item) (c : Class) → EachOf IsQuiet (together is c) → contract_faults (entries is) c ≡ [] → (d : Contract) → typed_contract is c ≡ Some d → IsSoundContract d
contract_sound is c q k d h = contract_by is c q k d (typed_functions (together is c)) refl h

abbrev EachFaultless : List Entry → List Class → Type 0
EachFaultless es [] = Unit {0}
EachFaultless es (c ∷ cs) = (contract_faults es c ≡ []) × EachFaultless es cs

faultless_by : (es : List Entry) (c : Class) (cs : List Class) (b : Base) → base_of es c ≡ b → base_faults es c b ≡ [] → EachFaultless es (contracts es cs)
    → EachFaultless es (if is_contract b then c ∷ contracts es cs else contracts es cs)
faultless_by es c cs a_contract e h k = (h, k)
faultless_by es c cs another e h k = k
faultless_by es c cs unknown e h k = k

each_faultless : (es : List Entry) (cs : List Class) → all_class_faults es cs ≡ [] → EachFaultless es (contracts es cs)
each_faultless es [] h = tt
each_faultless es (c ∷ cs) h =
    let own = behind_none (dotted es [] c.base).faults (base_faults es c (base_of es c)) (front_none (class_faults es c) (all_class_faults es cs) h) in
    faultless_by es c cs (base_of es c) refl own (each_faultless es cs (behind_none (class_faults es c) (all_class_faults es cs) h))

both_sound : (o : Option Contract) (os : Option (List Contract)) (cs : List Contract) → ((d : Contract) → o ≡ Some d → IsSoundContract d)
    → ((ds : List Contract) → os ≡ Some ds → All IsSoundContract ds) → both_contracts o os ≡ Some cs → All IsSoundContract cs
both_sound None os cs f g h = absurd (none-some cs h)
both_sound (Some d) None cs f g h = absurd (none-some cs h)
both_sound (Some d) (Some ds) cs f g h = subst (All IsSoundContract) (same_Some (d ∷ ds) cs h) (All-cons IsSoundContract d ds (f d refl) (g ds refl))

contracts_sound : (is : List Item) → EachOf IsQuiet (placed_in_module is (module_functions is)) → (ks : List Class) → EachOf IsQuiet (class_functions is ks) → EachFaultless (entries is) ks
    → (cs : List Contract) → typed_contracts is ks ≡ Some cs → All IsSoundContract cs
contracts_sound is q [] r k cs h = subst (All IsSoundContract) (same_Some [] cs h) (All-nil IsSoundContract)
contracts_sound is q (c ∷ ks) r k cs h =
    let own = placed_in_class is c (functions c.members) in
    let one = contract_sound is c (each_of_append IsQuiet (placed_in_module is (module_functions is)) own q (each_of_front IsQuiet own (class_functions is ks) r)) k.0 in
    both_sound (typed_contract is c) (typed_contracts is ks) cs one (contracts_sound is q ks (each_of_behind IsQuiet own (class_functions is ks) r) k.1) h

-- ---- what `check` answers

no_faults : (rs : List Refusal) → ((r : Refusal) → Contains rs r → ⊥) → rs ≡ []
no_faults [] h = refl
no_faults (r ∷ rs) h = absurd (h r (0, omega arith, refl))

nothing_broken : (m : Module) (cs : List Contract) → ((r : Refusal) → IsBrokenIn m r → ⊥) → typed m ≡ Some cs → All IsSoundContract cs
unfolding typed
nothing_broken m cs q h =
    let is = m.items in
    let es = entries is in
    let none = no_faults (listed_faults is) (λ r c. q r (listed r c)) in
    let no_class = front_none (all_class_faults es (classes is)) (no_contract es (classes is) ++ placed_faults (all_functions is)) (behind_none (names_faults is) (all_class_faults es (classes is) ++ (no_contract es (classes is) ++ placed_faults (all_functions is))) none) in
    let quiet = each_of_from IsQuiet (all_functions is) (λ i p e r b. q r (on_paths r i p e b)) in
    let ours = placed_in_module is (module_functions is) in
    let others = class_functions is (contracts es (classes is)) in
    contracts_sound is (each_of_front IsQuiet ours others quiet) (contracts es (classes is)) (each_of_behind IsQuiet ours others quiet) (each_faultless es (classes is) no_class) cs h

pub checked_sound : (m : Module) (cs : List Contract) → Checks m (Ok cs) → All IsSoundContract cs
checked_sound m _ (answers cs q h) = nothing_broken m cs q h
