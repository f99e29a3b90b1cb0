-- Names behind points, with what was told before.
use Rattle.std.proofs.Common.{◌≡◌, ℕ, ◌-◌, ◌≤◌, List, [], ◌∷◌, ◌++◌, length, take, drop, get_or, sym, ap, ◌∙◌, append_assoc, append-nil}
use Rattle.puya_base.specs.declared.source.Refusal.{Refusal}
use Rattle.py_grammar.specs.declared.word.Word.{Word}
use Rattle.source_names.specs.declared.named.Thing.{Thing}
use Rattle.source_names.proofs.Behind.{first_and_behind}
use Rattle.source_names.specs.declared.named.Entry.{Entry}
use Rattle.source_names.specs.Things.{Found, stands_for, member_of, members_of, first_name, dotted}

-- what was told of a name stands before what is told of the names behind it
told_before : (fs : List Refusal) (t : Thing) (ws : List Word)
    → members_of (record { faults = fs; thing = t }) ws ≡ record { faults = fs ++ (members_of (stands_for t) ws).faults; thing = (members_of (stands_for t) ws).thing }
told_before fs t [] = ap (λ (z : List Refusal). record { faults = z; thing = t }) (sym (append-nil fs))
told_before fs t (w ∷ ws) =
    let m = member_of [] t w in
    let on = told_before m.faults m.thing ws in
    told_before (fs ++ m.faults) m.thing ws
    ∙ ap (λ z. record { faults = z; thing = (members_of (stands_for m.thing) ws).thing }) (append_assoc fs m.faults (members_of (stands_for m.thing) ws).faults)
    ∙ ap (λ (g : Found). record { faults = fs ++ g.faults; thing = g.thing }) (sym on)

-- what is told of a first name, and then of the names behind it
pub told_first : (told : List Refusal) (f : Found) (ws : List Word) → (told ++ f.faults) ++ (members_of (stands_for f.thing) ws).faults ≡ told ++ (members_of f ws).faults
told_first told f ws =
    append_assoc told f.faults (members_of (stands_for f.thing) ws).faults
    ∙ ap (λ (g : Found). told ++ g.faults) (sym (told_before f.faults f.thing ws))

pub thing_first : (f : Found) (ws : List Word) → (members_of (stands_for f.thing) ws).thing ≡ (members_of f ws).thing
thing_first f ws = ap (λ (g : Found). g.thing) (sym (told_before f.faults f.thing ws))

-- one name behind a point, and then the names behind it
pub told_step : (told : List Refusal) (t : Thing) (w : Word) (ws : List Word)
    → (told ++ (member_of [] t w).faults) ++ (members_of (stands_for (member_of [] t w).thing) ws).faults ≡ told ++ (members_of (stands_for t) (w ∷ ws)).faults
told_step told t w ws = told_first told (member_of [] t w) ws

pub thing_step : (t : Thing) (w : Word) (ws : List Word)
    → (members_of (stands_for (member_of [] t w).thing) ws).thing ≡ (members_of (stands_for t) (w ∷ ws)).thing
thing_step t w ws = thing_first (member_of [] t w) ws

pub told_next : (xs : List Word) (w : Word) (told told' all : List Refusal) (t t' : Thing) → w ≡ get_or xs 0 w → 1 ≤ length xs
    → told' ≡ told ++ (member_of [] t w).faults → t' ≡ (member_of [] t w).thing
    → told ++ (members_of (stands_for t) xs).faults ≡ all → told' ++ (members_of (stands_for t') (take (length xs - 1) (drop 1 xs))).faults ≡ all
told_next xs w told told' all t t' is low d e f =
    let ys = take (length xs - 1) (drop 1 xs) in
    ap (λ z. z ++ (members_of (stands_for t') ys).faults) d
    ∙ ap (λ u. (told ++ (member_of [] t w).faults) ++ (members_of (stands_for u) ys).faults) e
    ∙ told_step told t w ys
    ∙ ap (λ zs. told ++ (members_of (stands_for t) zs).faults) (sym (first_and_behind xs w is low))
    ∙ f

pub thing_next : (xs : List Word) (w : Word) (t t' all : Thing) → w ≡ get_or xs 0 w → 1 ≤ length xs
    → t' ≡ (member_of [] t w).thing → (members_of (stands_for t) xs).thing ≡ all → (members_of (stands_for t') (take (length xs - 1) (drop 1 xs))).thing ≡ all
thing_next xs w t t' all is low e f =
    let ys = take (length xs - 1) (drop 1 xs) in
    ap (λ u. (members_of (stands_for u) ys).thing) e
    ∙ thing_step t w ys
    ∙ ap (λ zs. (members_of (stands_for t) zs).thing) (sym (first_and_behind xs w is low))
    ∙ f

-- a first name, and then all behind it
pub told_dotted : (es : List Entry) (vs : List (List ℕ)) (xs : List Word) (w : Word) (told a b : List Refusal) (t : Thing) → w ≡ get_or xs 0 w → 1 ≤ length xs
    → a ≡ told ++ (first_name es vs w).faults → t ≡ (first_name es vs w).thing
    → b ≡ a ++ (members_of (stands_for t) (take (length xs - 1) (drop 1 xs))).faults → b ≡ told ++ (dotted es vs xs).faults
told_dotted es vs xs w told a b t is low d e f =
    let ys = take (length xs - 1) (drop 1 xs) in
    f
    ∙ ap (λ z. z ++ (members_of (stands_for t) ys).faults) d
    ∙ ap (λ u. (told ++ (first_name es vs w).faults) ++ (members_of (stands_for u) ys).faults) e
    ∙ told_first told (first_name es vs w) ys
    ∙ ap (λ zs. told ++ (dotted es vs zs).faults) (sym (first_and_behind xs w is low))

pub thing_dotted : (es : List Entry) (vs : List (List ℕ)) (xs : List Word) (w : Word) (t u : Thing) → w ≡ get_or xs 0 w → 1 ≤ length xs
    → t ≡ (first_name es vs w).thing → u ≡ (members_of (stands_for t) (take (length xs - 1) (drop 1 xs))).thing → u ≡ (dotted es vs xs).thing
thing_dotted es vs xs w t u is low e f =
    let ys = take (length xs - 1) (drop 1 xs) in
    f
    ∙ ap (λ v. (members_of (stands_for v) ys).thing) e
    ∙ thing_first (first_name es vs w) ys
    ∙ ap (λ zs. (dotted es vs zs).thing) (sym (first_and_behind xs w is low))
