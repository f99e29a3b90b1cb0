-- The first parameter of a function of a class, and the others.
use Rattle.std.proofs.Common.{◌≡◌, ◌-◌, ◌≤◌, List, [], ◌∷◌, length, take, drop, get_or, Bool, true, false, refl, sym, ap, ◌∙◌, Some, None}
use Rattle.py_grammar.specs.declared.module.Param.{Param}
use Rattle.source_names.specs.Things.{is_myself}
use Rattle.source_headers.specs.Headers.{Divided, divided, divided_when}
use Rattle.source_headers.proofs.Behind.{first_and_behind}

-- what the first parameter decides
pub divided_first : (ps : List Param) (p : Param) → p ≡ get_or ps 0 p → 1 ≤ length ps → divided true ps ≡ divided_when (is_myself p.name.name) p (take (length ps - 1) (drop 1 ps))
divided_first ps p is low = ap (divided true) (first_and_behind ps p is low)

pub divided_by : (ps : List Param) (p : Param) (b : Bool) → p ≡ get_or ps 0 p → 1 ≤ length ps → is_myself p.name.name ≡ b → divided true ps ≡ divided_when b p (take (length ps - 1) (drop 1 ps))
divided_by ps p b is low t = divided_first ps p is low ∙ ap (λ v. divided_when v p (take (length ps - 1) (drop 1 ps))) t

pub myself_there : (ps : List Param) (p : Param) → p ≡ get_or ps 0 p → 1 ≤ length ps → is_myself p.name.name ≡ true → (divided true ps).myself ≡ Some p
myself_there ps p is low t = ap (λ (d : Divided). d.myself) (divided_by ps p true is low t)

pub myself_absent : (ps : List Param) (p : Param) → p ≡ get_or ps 0 p → 1 ≤ length ps → is_myself p.name.name ≡ false → (divided true ps).myself ≡ None
myself_absent ps p is low t = ap (λ (d : Divided). d.myself) (divided_by ps p false is low t)

pub others_behind : (ps : List Param) (p : Param) → p ≡ get_or ps 0 p → 1 ≤ length ps → is_myself p.name.name ≡ true → take (length ps - 1) (drop 1 ps) ≡ (divided true ps).others
others_behind ps p is low t = ap (λ (d : Divided). d.others) (sym (divided_by ps p true is low t))

pub others_all : (ps : List Param) (p : Param) → p ≡ get_or ps 0 p → 1 ≤ length ps → is_myself p.name.name ≡ false → ps ≡ (divided true ps).others
others_all ps p is low t = first_and_behind ps p is low ∙ ap (λ (d : Divided). d.others) (sym (divided_by ps p false is low t))

pub none_myself : (ps : List Param) → length ps ≡ 0 → (divided true ps).myself ≡ None
none_myself [] h = refl
none_myself (p ∷ ps) h = cc

pub none_others : (ps : List Param) → length ps ≡ 0 → ps ≡ (divided true ps).others
none_others [] h = refl
none_others (p ∷ ps) h = cc
