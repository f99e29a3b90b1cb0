-- The signatures of functions that break no rule are known, and so are the constants of a module.
use Rattle.std.proofs.Common.{◌≡◌, ℕ, zero, suc, Bool, true, false, List, [], ◌∷◌, ◌++◌, Option, Some, None, refl, subst}
use Rattle.std.specs.Prelude.{if◌then◌else◌, ◌&&◌, slice_get}
use Rattle.std.proofs.lemmas.Option.{none-some, same_Some}
use Rattle.puya_base.specs.declared.source.Place.{Place}
use Rattle.puya_base.specs.declared.source.Rule.TheVariants as rule
use Rattle.py_grammar.specs.declared.word.Word.{Word}
use Rattle.py_grammar.specs.declared.type_tree.TypeTree.{TypeTree}
use Rattle.py_grammar.specs.declared.module.Param.{Param}
use Rattle.py_grammar.specs.declared.module.Func.{Func}
use Rattle.py_grammar.specs.declared.module.Member.{Member}
use Rattle.py_grammar.specs.declared.module.Member.TheVariants as member
use Rattle.py_grammar.specs.declared.module.Item.{Item}
use Rattle.py_grammar.specs.declared.module.Item.TheVariants as item
use Rattle.py_grammar.specs.declared.module.ConstValue.{ConstValue}
use Rattle.py_grammar.specs.declared.module.ConstValue.TheVariants as value
use Rattle.source_names.specs.declared.constant.Constant.{Constant}
use Rattle.source_names.specs.declared.constant.Constant.TheVariants as constant
use Rattle.source_names.specs.declared.named.Entry.{Entry}
use Rattle.source_names.specs.declared.signature.Signature.{Signature}
use Rattle.source_names.specs.Literals.{is_short, joined}
use Rattle.source_names.specs.Faults.{breaks}
use Rattle.source_names.specs.Things.{is_myself}
use Rattle.source_headers.specs.Headers.{annotated, parameters, all_annotated, Divided, divided_when, divided, twice, param_names, all_clashes, myself_faults, resulted, signature, signature_faults, decorators, all_unwanted}
use Rattle.source_headers.specs.Modules.{constant_of, constant_faults, constants, signatures, item_faults, all_item_faults}
use Rattle.source_headers.specs.Classes.{functions, is_program, class_signatures, program_faults, selfless, function_faults, member_faults, all_member_faults}
use Rattle.statement_check.specs.Lines.{block_of}
use Rattle.type_check.specs.Whole.{module_functions}
use Rattle.typing_laws.specs.Naming.{EntriesKnown, is_named_annotation, are_named, are_named_params, is_named_function, are_named_members, are_named_items, has_word}
use Rattle.typing_laws.proofs.Known.{IsKnownType, KnownParams, KnownSignature, KnownConstant}
use Rattle.typing_laws.proofs.KnownTypes.{not_broken, and_left, and_right, annotation_known, value_annotation_known}
use Rattle.typing_laws.proofs.Mains.{front_none, behind_none}

-- ---- signatures

param_known : (es : List Entry) (w : Word) (o : Option TypeTree) → EntriesKnown es → is_named_annotation o ≡ true → (annotated es w o).faults ≡ [] → IsKnownType (annotated es w o).ty
param_known es w None k n h = not_broken rule.P13 w.place h
param_known es w (Some a) k n h = value_annotation_known es [] a k n h

params_known : (es : List Entry) (ps : List Param) → EntriesKnown es → are_named_params ps ≡ true → all_annotated es ps ≡ [] → KnownParams (parameters es ps)
params_known es [] k n h = tt
params_known es (p ∷ ps) k n h = (
  param_known es p.name p.annotation k (and_left (is_named_annotation p.annotation) (are_named_params ps) n) (front_none (annotated es p.name p.annotation).faults (all_annotated es ps) h),
  params_known es ps k (and_right (is_named_annotation p.annotation) (are_named_params ps) n) (behind_none (annotated es p.name p.annotation).faults (all_annotated es ps) h),
)

result_known : (es : List Entry) (p : Place) (o : Option TypeTree) → EntriesKnown es → is_named_annotation o ≡ true → (resulted es p o).faults ≡ [] → IsKnownType (resulted es p o).ty
result_known es p None k n h = not_broken rule.P13 p h
result_known es p (Some a) k n h = annotation_known es [] a k n h

divided_by : (b : Bool) (p : Param) (ps : List Param) → are_named_params (p ∷ ps) ≡ true → are_named_params (divided_when b p ps).others ≡ true
divided_by true p ps n = and_right (is_named_annotation p.annotation) (are_named_params ps) n
divided_by false p ps n = n

divided_named : (inside : Bool) (ps : List Param) → are_named_params ps ≡ true → are_named_params (divided inside ps).others ≡ true
divided_named false ps n = n
divided_named true [] n = refl
divided_named true (p ∷ ps) n = divided_by (is_myself p.name.name) p ps n

-- a function whose first line breaks no rule, with names alone as types
pub record Fine (es : List Entry) (inside : Bool) (f : Func) : Type 0 where
  pub faultless : signature_faults es inside f ≡ []
  pub named : is_named_function f ≡ true

pub signature_known : (es : List Entry) (inside : Bool) (f : Func) → EntriesKnown es → Fine es inside f → KnownSignature (signature es inside f)
signature_known es inside f k h =
    let d : Divided = divided inside f.params in
    let ws = param_names f.params in
    let r = (resulted es f.place f.result).faults in
    let rest = is_named_annotation f.result && are_named (block_of f.body) in
    let behind = behind_none (myself_faults es d.myself) (all_annotated es d.others ++ (twice [] ws ++ (all_clashes es ws ++ r))) h.faultless in
    let last = behind_none (all_clashes es ws) r (behind_none (twice [] ws) (all_clashes es ws ++ r) (behind_none (all_annotated es d.others) (twice [] ws ++ (all_clashes es ws ++ r)) behind)) in (
      params_known es d.others k (divided_named inside f.params (and_left (are_named_params f.params) rest h.named)) (front_none (all_annotated es d.others) (twice [] ws ++ (all_clashes es ws ++ r)) behind),
      result_known es f.place f.result k (and_left (is_named_annotation f.result) (are_named (block_of f.body)) (and_right (are_named_params f.params) rest h.named)) last,
    )

pub body_named : (es : List Entry) (inside : Bool) (f : Func) → Fine es inside f → are_named (block_of f.body) ≡ true
body_named es inside f h =
    and_right (is_named_annotation f.result) (are_named (block_of f.body)) (and_right (are_named_params f.params) (is_named_annotation f.result && are_named (block_of f.body)) h.named)

-- ---- the functions of a module and those of a class

abbrev pub AllFine : List Entry → Bool → List Func → Type 0
AllFine es inside [] = Unit {0}
AllFine es inside (f ∷ fs) = Fine es inside f × AllFine es inside fs

pub items_fine : (es : List Entry) (is : List Item) → all_item_faults es is ≡ [] → are_named_items is ≡ true → AllFine es false (module_functions is)
items_fine es [] h n = tt
items_fine es (item.Func f ∷ is) h n =
    let own = front_none (item_faults es (item.Func f)) (all_item_faults es is) h in (
      record { faultless = behind_none (decorators es f.def f.decorators) (signature_faults es false f) own; named = and_left (is_named_function f) (are_named_items is) n },
      items_fine es is (behind_none (item_faults es (item.Func f)) (all_item_faults es is) h) (and_right (is_named_function f) (are_named_items is) n),
    )
items_fine es (item.Class c ∷ is) h n = items_fine es is h (and_right (are_named_members c.members) (are_named_items is) (and_right (has_word c.base) (are_named_members c.members && are_named_items is) n))
items_fine es (item.Text p ls ∷ is) h n = items_fine es is h n
items_fine es (item.Import p ws a ∷ is) h n = items_fine es is (behind_none (item_faults es (item.Import p ws a)) (all_item_faults es is) h) n
items_fine es (item.From p ws ns ∷ is) h n = items_fine es is (behind_none (item_faults es (item.From p ws ns)) (all_item_faults es is) h) n
items_fine es (item.FromParen p ws ns b ∷ is) h n = items_fine es is (behind_none (item_faults es (item.FromParen p ws ns b)) (all_item_faults es is) h) n
items_fine es (item.Const w v ∷ is) h n = items_fine es is (behind_none (constant_faults v) (all_item_faults es is) h) n

pub members_fine : (es : List Entry) (ms : List Member) → all_member_faults es ms ≡ [] → are_named_members ms ≡ true → AllFine es true (functions ms)
members_fine es [] h n = tt
members_fine es (member.Text p ls ∷ ms) h n = members_fine es ms h n
members_fine es (member.Pass p ∷ ms) h n = members_fine es ms h n
members_fine es (member.Field w t ∷ ms) h n = members_fine es ms (behind_none (member_faults es (member.Field w t)) (all_member_faults es ms) h) n
members_fine es (member.Func f ∷ ms) h n =
    let kind = if is_program f then all_unwanted es f.decorators ++ program_faults es f else decorators es f.def f.decorators in
    let own = front_none (function_faults es f) (all_member_faults es ms) h in (
      record { faultless = behind_none kind (signature_faults es true f) (behind_none (selfless f) (kind ++ signature_faults es true f) own); named = and_left (is_named_function f) (are_named_members ms) n },
      members_fine es ms (behind_none (function_faults es f) (all_member_faults es ms) h) (and_right (is_named_function f) (are_named_members ms) n),
    )

abbrev pub KnownSignatures : List Signature → Type 0
KnownSignatures gs = (i : ℕ) (g : Signature) → slice_get gs i ≡ Some g → KnownSignature g

none_known : KnownSignatures []
none_known i g e = absurd (none-some g e)

one_more : (f : Signature) (gs : List Signature) → KnownSignature f → KnownSignatures gs → KnownSignatures (f ∷ gs)
one_more f gs h k zero g e = subst KnownSignature (same_Some f g e) h
one_more f gs h k (suc i) g e = k i g e

pub signatures_append : (a b : List Signature) → KnownSignatures a → KnownSignatures b → KnownSignatures (a ++ b)
signatures_append [] b h k = k
signatures_append (f ∷ fs) b h k = one_more f (fs ++ b) (h zero f refl) (signatures_append fs b (λ i g e. h (suc i) g e) k)

pub module_signatures : (es : List Entry) (is : List Item) → EntriesKnown es → AllFine es false (module_functions is) → KnownSignatures (signatures es is)
module_signatures es [] k h = none_known
module_signatures es (item.Func f ∷ is) k h = one_more (signature es false f) (signatures es is) (signature_known es false f k h.0) (module_signatures es is k h.1)
module_signatures es (item.Class c ∷ is) k h = module_signatures es is k h
module_signatures es (item.Text p ls ∷ is) k h = module_signatures es is k h
module_signatures es (item.Import p ws a ∷ is) k h = module_signatures es is k h
module_signatures es (item.From p ws ns ∷ is) k h = module_signatures es is k h
module_signatures es (item.FromParen p ws ns b ∷ is) k h = module_signatures es is k h
module_signatures es (item.Const w v ∷ is) k h = module_signatures es is k h

pub own_signatures : (es : List Entry) (fs : List Func) → EntriesKnown es → AllFine es true fs → KnownSignatures (class_signatures es fs)
own_signatures es [] k h = none_known
own_signatures es (f ∷ fs) k h = one_more (signature es true f) (class_signatures es fs) (signature_known es true f k h.0) (own_signatures es fs k h.1)

-- ---- constants

short_known : (p : Place) (c : Constant) → KnownConstant c → (b : Bool) → (if b then [] else breaks rule.P14 p) ≡ [] → KnownConstant (if b then c else constant.Unknown)
short_known p c k true h = k
short_known p c k false h = not_broken rule.P14 p h

constant_known : (v : ConstValue) → constant_faults v ≡ [] → KnownConstant (constant_of v)
constant_known (value.Number l) h = tt
constant_known (value.Text p ls) h = short_known p (constant.Text (joined ls)) tt (is_short (joined ls)) h
constant_known (value.Bytes p ls) h = short_known p (constant.Bytes (joined ls)) tt (is_short (joined ls)) h
constant_known (value.Flag p b) h = tt

abbrev pub KnownConstants : List Constant → Type 0
KnownConstants cs = (i : ℕ) (c : Constant) → slice_get cs i ≡ Some c → KnownConstant c

constant_more : (d : Constant) (cs : List Constant) → KnownConstant d → KnownConstants cs → KnownConstants (d ∷ cs)
constant_more d cs h k zero c e = subst KnownConstant (same_Some d c e) h
constant_more d cs h k (suc i) c e = k i c e

pub constants_known : (es : List Entry) (is : List Item) → all_item_faults es is ≡ [] → KnownConstants (constants is)
constants_known es [] h = λ i c e. absurd (none-some c e)
constants_known es (item.Const w v ∷ is) h = constant_more (constant_of v) (constants is) (constant_known v (front_none (constant_faults v) (all_item_faults es is) h)) (constants_known es is (behind_none (constant_faults v) (all_item_faults es is) h))
constants_known es (item.Func f ∷ is) h = constants_known es is (behind_none (item_faults es (item.Func f)) (all_item_faults es is) h)
constants_known es (item.Class c ∷ is) h = constants_known es is h
constants_known es (item.Text p ls ∷ is) h = constants_known es is h
constants_known es (item.Import p ws a ∷ is) h = constants_known es is (behind_none (item_faults es (item.Import p ws a)) (all_item_faults es is) h)
constants_known es (item.From p ws ns ∷ is) h = constants_known es is (behind_none (item_faults es (item.From p ws ns)) (all_item_faults es is) h)
constants_known es (item.FromParen p ws ns b ∷ is) h = constants_known es is (behind_none (item_faults es (item.FromParen p ws ns b)) (all_item_faults es is) h)
