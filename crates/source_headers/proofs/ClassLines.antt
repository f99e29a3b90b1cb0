-- Members and lines of a module, one after the other.
use Rattle.std.proofs.Common.{◌≡◌, ℕ, suc, ◌-◌, ◌≤◌, length, take, drop, get_or, List, [], ◌∷◌, ◌++◌, Bool, true, false, refl, sym, ap, ◌∙◌, append_assoc}
use Rattle.std.specs.Prelude.{◌&&◌, if◌then◌else◌}
use Rattle.puya_base.specs.declared.source.Place.{Place}
use Rattle.puya_base.specs.declared.source.Rule.TheVariants as rule
use Rattle.puya_base.specs.declared.source.Refusal.{Refusal}
use Rattle.py_grammar.specs.declared.module.Func.{Func}
use Rattle.py_grammar.specs.declared.module.Class.{Class}
use Rattle.py_grammar.specs.declared.module.Member.{Member}
use Rattle.py_grammar.specs.declared.module.Member.TheVariants as member
use Rattle.py_grammar.specs.declared.module.Item.{Item}
use Rattle.py_grammar.specs.declared.module.Item.TheVariants as item
use Rattle.source_names.specs.declared.named.Entry.{Entry}
use Rattle.source_names.specs.Faults.{breaks}
use Rattle.source_names.specs.Things.{dotted}
use Rattle.source_headers.specs.Headers.{twice, signature}
use Rattle.source_headers.specs.Classes as classes
use Rattle.source_headers.specs.Bases.{member_again, with_member, item_told, other_item, has_named, missing_told, wrong_program}
use Rattle.source_headers.proofs.Behind.{first_and_behind, then_two}
use Rattle.source_headers.proofs.Seeing.{again-twice}

-- a member, and then those behind it
pub member_twice : (seen : List (List ℕ)) (m : Member) (ms : List Member)
    → member_again seen m ++ twice (with_member seen m) (classes.member_names ms) ≡ twice seen (classes.member_names (m ∷ ms))
member_twice seen (member.Text p ls) ms = refl
member_twice seen (member.Pass p) ms = refl
member_twice seen (member.Field w t) ms = again-twice seen w (classes.member_names ms)
member_twice seen (member.Func f) ms = again-twice seen f.name (classes.member_names ms)

told_member : (told : List Refusal) (seen : List (List ℕ)) (m : Member) (ms : List Member)
    → (told ++ member_again seen m) ++ twice (with_member seen m) (classes.member_names ms) ≡ told ++ twice seen (classes.member_names (m ∷ ms))
told_member told seen m ms =
    append_assoc told (member_again seen m) (twice (with_member seen m) (classes.member_names ms)) ∙ ap (λ z. told ++ z) (member_twice seen m ms)

pub member_behind : (xs : List Member) (m : Member) (told more all : List Refusal) (seen seen' : List (List ℕ)) → m ≡ get_or xs 0 m → 1 ≤ length xs
    → more ≡ told ++ member_again seen m → seen' ≡ with_member seen m
    → told ++ twice seen (classes.member_names xs) ≡ all → more ++ twice seen' (classes.member_names (take (length xs - 1) (drop 1 xs))) ≡ all
member_behind xs m told more all seen seen' is low d e h =
    let ys = take (length xs - 1) (drop 1 xs) in
    ap (λ z. z ++ twice seen' (classes.member_names ys)) d
    ∙ ap (λ z. (told ++ member_again seen m) ++ twice z (classes.member_names ys)) e
    ∙ told_member told seen m ys
    ∙ ap (λ zs. told ++ twice seen (classes.member_names zs)) (sym (first_and_behind xs m is low))
    ∙ h

-- a line, and then those behind it
pub item_class : (es : List Entry) (i : Item) (is : List Item)
    → item_told es i ++ classes.all_class_faults es (classes.classes is) ≡ classes.all_class_faults es (classes.classes (i ∷ is))
item_class es (item.Text p ls) is = refl
item_class es (item.Import p ws a) is = refl
item_class es (item.From p ws ns) is = refl
item_class es (item.FromParen p ws ns b) is = refl
item_class es (item.Const w v) is = refl
item_class es (item.Func d) is = refl
item_class es (item.Class c) is = refl

pub other_more : (es : List Entry) (i : Item) (is : List Item)
    → other_item es i && classes.all_other es (classes.classes is) ≡ classes.all_other es (classes.classes (i ∷ is))
other_more es (item.Text p ls) is = refl
other_more es (item.Import p ws a) is = refl
other_more es (item.From p ws ns) is = refl
other_more es (item.FromParen p ws ns b) is = refl
other_more es (item.Const w v) is = refl
other_more es (item.Func d) is = refl
other_more es (item.Class c) is = refl

pub other_behind : (es : List Entry) (i : Item) (is : List Item) → other_item es i ≡ true → classes.all_other es (classes.classes is) ≡ classes.all_other es (classes.classes (i ∷ is))
other_behind es i is t = ap (λ b. b && classes.all_other es (classes.classes is)) (sym t) ∙ other_more es i is

pub other_ends : (es : List Entry) (i : Item) (is : List Item) → other_item es i ≡ false → false ≡ classes.all_other es (classes.classes (i ∷ is))
other_ends es i is t = ap (λ b. b && classes.all_other es (classes.classes is)) (sym t) ∙ other_more es i is

-- ---- the programs among members

missing_by : (p : Place) (q : Func → Bool) (i : ℕ) (f : Func) (ms : List Member) (v : Bool) → q f ≡ v
    → ((j : ℕ) → missing_told p (has_named q ms) ≡ classes.missing p (classes.first_from j q (classes.functions ms)))
    → missing_told p (has_named q (member.Func f ∷ ms)) ≡ classes.missing p (classes.first_from i q (classes.functions (member.Func f ∷ ms)))
missing_by p q i f ms true t rest = rw t refl
missing_by p q i f ms false t rest = rw t (rest (suc i))

-- a program is missing where no function has its name
pub missing_is : (p : Place) (q : Func → Bool) (i : ℕ) (ms : List Member) → missing_told p (has_named q ms) ≡ classes.missing p (classes.first_from i q (classes.functions ms))
missing_is p q i [] = refl
missing_is p q i (member.Text o ls ∷ ms) = missing_is p q i ms
missing_is p q i (member.Pass o ∷ ms) = missing_is p q i ms
missing_is p q i (member.Field w t ∷ ms) = missing_is p q i ms
missing_is p q i (member.Func f ∷ ms) = missing_by p q i f ms (q f) refl (λ j. missing_is p q j ms)

-- ---- programs with a wrong first line

wrong_by : (es : List Entry) (f : Func) (a b : Bool) → classes.is_empty (signature es true f).params ≡ a → classes.wrong_result (signature es true f).result ≡ b
    → (if wrong_program (signature es true f) then breaks rule.P12 f.place else []) ≡ classes.program_faults es f
wrong_by es f true true t u = rw (t, u) refl
wrong_by es f true false t u = rw (t, u) refl
wrong_by es f false b t u = rw t refl

pub wrong_is : (es : List Entry) (f : Func) → (if wrong_program (signature es true f) then breaks rule.P12 f.place else []) ≡ classes.program_faults es f
wrong_is es f = wrong_by es f (classes.is_empty (signature es true f).params) (classes.wrong_result (signature es true f).result) refl refl

pub program_wrong : (es : List Entry) (f : Func) → wrong_program (signature es true f) ≡ true → breaks rule.P12 f.place ≡ classes.program_faults es f
program_wrong es f t = ap (λ b. if b then breaks rule.P12 f.place else []) (sym t) ∙ wrong_is es f

pub program_right : (es : List Entry) (f : Func) → wrong_program (signature es true f) ≡ false → [] ≡ classes.program_faults es f
program_right es f t = ap (λ b. if b then breaks rule.P12 f.place else []) (sym t) ∙ wrong_is es f

-- ---- bases

pub told_base : (es : List Entry) (c : Class) (told : List Refusal) (k : classes.Base) → k ≡ classes.base_of es c
    → (told ++ (dotted es [] c.base).faults) ++ classes.base_faults es c k ≡ told ++ classes.class_faults es c
told_base es c told k e =
    ap (λ z. (told ++ (dotted es [] c.base).faults) ++ classes.base_faults es c z) e
    ∙ append_assoc told (dotted es [] c.base).faults (classes.base_faults es c (classes.base_of es c))

pub programs_missing : (c : Class) (told s t : List Refusal) (a b : Bool) (ms ns : List Member) → ms ≡ c.members → a ≡ has_named classes.is_approval ms
    → s ≡ told ++ missing_told c.name.place a → ns ≡ c.members → b ≡ has_named classes.is_clear ns → t ≡ s ++ missing_told c.name.place b
    → t ≡ told ++ classes.missing_programs c
programs_missing c told s t a b ms ns is e d js f h =
    then_two told s t (classes.missing c.name.place (classes.first_from 0 classes.is_approval (classes.functions c.members)))
    (classes.missing c.name.place (classes.first_from 0 classes.is_clear (classes.functions c.members)))
    (d ∙ ap (λ z. told ++ missing_told c.name.place z) (e ∙ ap (has_named classes.is_approval) is) ∙ ap (λ z. told ++ z) (missing_is c.name.place classes.is_approval 0 c.members))
    (h ∙ ap (λ z. s ++ missing_told c.name.place z) (f ∙ ap (has_named classes.is_clear) js) ∙ ap (λ z. s ++ z) (missing_is c.name.place classes.is_clear 0 c.members))
