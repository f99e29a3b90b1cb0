-- Functions with what they see, one line of a module or one member of a class after the other.
use Rattle.std.proofs.Common.{◌≡◌, ◌-◌, ◌≤◌, Bool, true, false, List, [], ◌∷◌, ◌++◌, Option, Some, None, length, take, drop, get_or, refl, sym, ap, ◌∙◌, subst, append_assoc, append-nil}
use Rattle.puya_base.specs.declared.source.Refusal.{Refusal}
use Rattle.awst.specs.declared.contract.Func.{Func as TypedFunc}
use Rattle.py_grammar.specs.declared.module.Func.{Func}
use Rattle.py_grammar.specs.declared.module.Class.{Class}
use Rattle.py_grammar.specs.declared.module.Member.{Member}
use Rattle.py_grammar.specs.declared.module.Member.TheVariants as member
use Rattle.py_grammar.specs.declared.module.Item.{Item}
use Rattle.py_grammar.specs.declared.module.Item.TheVariants as item
use Rattle.source_names.specs.declared.named.Entry.{Entry}
use Rattle.source_headers.specs.Classes.{base_of, classes, functions}
use Rattle.expression_check.specs.declared.sight.Sight.{Sight}
use Rattle.type_check.specs.Functions.{body_faults, typed_function}
use Rattle.type_check.specs.Firsts.{IsFirstOf}
use Rattle.type_check.specs.Placing.{contract_in, contract_when_one, entered, forgetful, functions_behind, in_class, in_classes, in_module, method, of_class, outside, placed}
use Rattle.type_check.specs.Whole.{Placed, both_functions, contracts, is_contract, module_functions, placed_faults, typed_functions}
use Rattle.type_check.proofs.Behind.{first_and_behind, told_behind}
use Rattle.type_check.proofs.FirstOnes.{first_of_more}

-- ---- lists of functions, one part after another

pub faults-append : (ps qs : List Placed) → placed_faults (ps ++ qs) ≡ placed_faults ps ++ placed_faults qs
faults-append [] qs = refl
faults-append (p ∷ ps) qs =
    ap (λ z. body_faults p.scope p.inside p.signature p.function ++ z) (faults-append ps qs)
    ∙ sym (append_assoc (body_faults p.scope p.inside p.signature p.function) (placed_faults ps) (placed_faults qs))

both_behind : (f : Option TypedFunc) (fs gs : Option (List TypedFunc)) → both_functions f (functions_behind fs gs) ≡ functions_behind (both_functions f fs) gs
both_behind None fs gs = refl
both_behind (Some f) None gs = refl
both_behind (Some f) (Some fs) None = refl
both_behind (Some f) (Some fs) (Some gs) = refl

typed_none : (fs : Option (List TypedFunc)) → fs ≡ functions_behind (Some []) fs
typed_none None = refl
typed_none (Some fs) = refl

pub typed-append : (ps qs : List Placed) → typed_functions (ps ++ qs) ≡ functions_behind (typed_functions ps) (typed_functions qs)
typed-append [] qs = typed_none (typed_functions qs)
typed-append (p ∷ ps) qs =
    ap (both_functions (typed_function p.scope p.inside p.signature p.function)) (typed-append ps qs)
    ∙ both_behind (typed_function p.scope p.inside p.signature p.function) (typed_functions ps) (typed_functions qs)

behind-assoc : (a b c : Option (List TypedFunc)) → functions_behind (functions_behind a b) c ≡ functions_behind a (functions_behind b c)
behind-assoc None b c = refl
behind-assoc (Some fs) None c = refl
behind-assoc (Some fs) (Some gs) None = refl
behind-assoc (Some fs) (Some gs) (Some hs) = ap Some (append_assoc fs gs hs)

in_module-append : (v : Sight) (fs gs : List Func) → in_module v (fs ++ gs) ≡ in_module v fs ++ in_module v gs
in_module-append v [] gs = refl
in_module-append v (f ∷ fs) gs = ap (λ z. placed v false f ∷ z) (in_module-append v fs gs)

in_class-append : (v : Sight) (fs gs : List Func) → in_class v (fs ++ gs) ≡ in_class v fs ++ in_class v gs
in_class-append v [] gs = refl
in_class-append v (f ∷ fs) gs = ap (λ z. method v f ∷ z) (in_class-append v fs gs)

in_classes-append : (v : Sight) (cs ds : List Class) → in_classes v (cs ++ ds) ≡ in_classes v cs ++ in_classes v ds
in_classes-append v [] ds = refl
in_classes-append v (c ∷ cs) ds = ap (λ z. of_class v c ++ z) (in_classes-append v cs ds) ∙ sym (append_assoc (of_class v c) (in_classes v cs) (in_classes v ds))

-- ---- one line, and then those behind it

one_item : (i : Item) (is : List Item) → module_functions (i ∷ is) ≡ module_functions (i ∷ []) ++ module_functions is
one_item (item.Text p ls) is = refl
one_item (item.Import p ws a) is = refl
one_item (item.From p ws ns) is = refl
one_item (item.FromParen p ws ns b) is = refl
one_item (item.Const w v) is = refl
one_item (item.Func d) is = refl
one_item (item.Class c) is = refl

one_member : (m : Member) (ms : List Member) → functions (m ∷ ms) ≡ functions (m ∷ []) ++ functions ms
one_member (member.Text p ls) ms = refl
one_member (member.Pass p) ms = refl
one_member (member.Field w t) ms = refl
one_member (member.Func f) ms = refl

one_contract : (es : List Entry) (c : Class) (cs : List Class) (b : Bool) → is_contract (base_of es c) ≡ b → contracts es (c ∷ cs) ≡ contracts es (c ∷ []) ++ contracts es cs
one_contract es c cs true e = rw e refl
one_contract es c cs false e = rw e refl

pub one_line : (es : List Entry) (i : Item) (is : List Item) → contracts es (classes (i ∷ is)) ≡ contracts es (classes (i ∷ [])) ++ contracts es (classes is)
one_line es (item.Text p ls) is = refl
one_line es (item.Import p ws a) is = refl
one_line es (item.From p ws ns) is = refl
one_line es (item.FromParen p ws ns b) is = refl
one_line es (item.Const w v) is = refl
one_line es (item.Func d) is = refl
one_line es (item.Class c) is = one_contract es c (classes is) (is_contract (base_of es c)) refl

pub item_placed : (v : Sight) (i : Item) (is : List Item)
    → in_module v (module_functions (i ∷ is)) ≡ in_module v (module_functions (i ∷ [])) ++ in_module v (module_functions is)
item_placed v i is = ap (in_module v) (one_item i is) ∙ in_module-append v (module_functions (i ∷ [])) (module_functions is)

pub member_placed : (v : Sight) (m : Member) (ms : List Member) → in_class v (functions (m ∷ ms)) ≡ in_class v (functions (m ∷ [])) ++ in_class v (functions ms)
member_placed v m ms = ap (in_class v) (one_member m ms) ∙ in_class-append v (functions (m ∷ [])) (functions ms)

pub line_placed : (v : Sight) (es : List Entry) (i : Item) (is : List Item)
    → in_classes v (contracts es (classes (i ∷ is))) ≡ in_classes v (contracts es (classes (i ∷ []))) ++ in_classes v (contracts es (classes is))
line_placed v es i is = ap (in_classes v) (one_line es i is) ∙ in_classes-append v (contracts es (classes (i ∷ []))) (contracts es (classes is))

-- ---- what is told, what is first and what is typed, one line after the other

module _ {A : Type 0} (F : List A → List Placed) (one : (x : A) (xs : List A) → F (x ∷ xs) ≡ F (x ∷ []) ++ F xs) where
  pub told_more : (xs : List A) (x : A) (told more all : List Refusal) → x ≡ get_or xs 0 x → 1 ≤ length xs → more ≡ told ++ placed_faults (F (x ∷ []))
      → told ++ placed_faults (F xs) ≡ all → more ++ placed_faults (F (take (length xs - 1) (drop 1 xs))) ≡ all
  told_more xs x told more all is low d h =
      told_behind (λ ys. placed_faults (F ys)) (placed_faults (F (x ∷ []))) xs x told more all is low
      (λ ys. sym (ap placed_faults (one x ys) ∙ faults-append (F (x ∷ [])) (F ys))) d h

  pub first_more : (xs : List A) (x : A) (a b : Option Refusal) (All : Option Refusal → Type 0) → x ≡ get_or xs 0 x → 1 ≤ length xs → IsFirstOf a (F (x ∷ [])) b
      → ((c : Option Refusal) → IsFirstOf a (F xs) c → All c) → (c : Option Refusal) → IsFirstOf b (F (take (length xs - 1) (drop 1 xs))) c → All c
  first_more xs x a b All is low d h = λ c k.
      let ys = take (length xs - 1) (drop 1 xs) in
      h c (subst (λ zs. IsFirstOf a zs c) (sym (ap F (first_and_behind xs x is low) ∙ one x ys)) (first_of_more a b c (F (x ∷ [])) (F ys) d k))

  pub typed_more : (xs : List A) (x : A) (told more all : Option (List TypedFunc)) → x ≡ get_or xs 0 x → 1 ≤ length xs
      → more ≡ functions_behind told (typed_functions (F (x ∷ [])))
      → functions_behind told (typed_functions (F xs)) ≡ all → functions_behind more (typed_functions (F (take (length xs - 1) (drop 1 xs)))) ≡ all
  typed_more xs x told more all is low d h =
      let ys = take (length xs - 1) (drop 1 xs) in
      ap (λ z. functions_behind z (typed_functions (F ys))) d
      ∙ behind-assoc told (typed_functions (F (x ∷ []))) (typed_functions (F ys))
      ∙ ap (functions_behind told) (sym (ap typed_functions (ap F (first_and_behind xs x is low) ∙ one x ys) ∙ typed-append (F (x ∷ [])) (F ys)))
      ∙ h

-- ---- what is seen besides `self`, and besides what a class adds

class_forgets : (v : Sight) (fs : List Func) → in_class v fs ≡ in_class (forgetful v) fs
class_forgets v [] = refl
class_forgets v (f ∷ fs) = ap (λ z. method v f ∷ z) (class_forgets v fs)

pub class_alike : (v w : Sight) (fs : List Func) → forgetful v ≡ forgetful w → in_class v fs ≡ in_class w fs
class_alike v w fs h = class_forgets v fs ∙ ap (λ z. in_class z fs) h ∙ sym (class_forgets w fs)

classes_outside : (v : Sight) (cs : List Class) → in_classes v cs ≡ in_classes (outside v) cs
classes_outside v [] = refl
classes_outside v (c ∷ cs) =
    ap (λ z. z ++ in_classes v cs) (class_alike (entered v (functions c.members)) (entered (outside v) (functions c.members)) (functions c.members) refl)
    ∙ ap (λ z. of_class (outside v) c ++ z) (classes_outside v cs)

pub classes_alike : (v w : Sight) (cs : List Class) → outside v ≡ outside w → in_classes v cs ≡ in_classes w cs
classes_alike v w cs h = classes_outside v cs ∙ ap (λ z. in_classes z cs) h ∙ sym (classes_outside w cs)

-- ---- the contract of a line

class_found : (es : List Entry) (d c : Class) (b : Bool) → is_contract (base_of es d) ≡ b → contract_when_one b d ≡ Some c → contracts es (d ∷ []) ≡ c ∷ []
class_found es d c true e h = let f : d ≡ c = cc in rw e (ap (λ z. z ∷ []) f)
class_found es d c false e h = let f : None ≡ Some c = h in cc

contract_found : (es : List Entry) (i : Item) (c : Class) → contract_in es i ≡ Some c → contracts es (classes (i ∷ [])) ≡ c ∷ []
contract_found es (item.Class d) c h = class_found es d c (is_contract (base_of es d)) refl h
contract_found es (item.Text p ls) c h = let f : None ≡ Some c = h in cc
contract_found es (item.Import p ws a) c h = let f : None ≡ Some c = h in cc
contract_found es (item.From p ws ns) c h = let f : None ≡ Some c = h in cc
contract_found es (item.FromParen p ws ns b) c h = let f : None ≡ Some c = h in cc
contract_found es (item.Const w v) c h = let f : None ≡ Some c = h in cc
contract_found es (item.Func d) c h = let f : None ≡ Some c = h in cc

-- the functions of a line that is a contract
pub class_placed : (v : Sight) (i : Item) (c : Class) (o : Option Class) → o ≡ contract_in v.names i → o ≡ Some c
    → in_classes v (contracts v.names (classes (i ∷ []))) ≡ of_class v c
class_placed v i c o d e = ap (in_classes v) (contract_found v.names i c (sym d ∙ e)) ∙ append-nil (of_class v c)
