-- The first of the rules that are told, and of those that functions break on their paths.
use Rattle.std.proofs.Common.{◌≡◌, ℕ, zero, suc, ◌-◌, ◌<◌, ◌≤◌, ◌⊎◌, inl, inr, List, [], ◌∷◌, ◌++◌, Option, Some, None, length, take, drop, get_or, refl, sym, ap, ◌∙◌, subst, arith}
use Rattle.std.specs.Prelude.{Contains, slice_get}
use Rattle.std.specs.List.{slice_index_or}
use Rattle.std.proofs.lemmas.List.{take_all}
use Rattle.std.proofs.lemmas.List.Elements.{Contains-append_cases, Contains-append_left, Contains-append_right}
use Rattle.puya_base.specs.declared.source.Place.{Place}
use Rattle.puya_base.specs.declared.source.Refusal.{Refusal}
use Rattle.path_rules.specs.declared.note.Note.{Note}
use Rattle.path_rules.specs.Order.{earlier_refusal, precedes}
use Rattle.path_rules.specs.Rules.{ComesFirst, IsBroken, IsFirst}
use Rattle.path_rules.proofs.Firsts.{least_either, least_iff}
use Rattle.path_rules.proofs.RefusalOrder.{comes_itself, refusal_test}
use Rattle.type_check.specs.Functions.{end_of, notes_of}
use Rattle.type_check.specs.Firsts.{BreaksSome, IsFirstOf, first_in}
use Rattle.type_check.specs.Whole.{BreaksOnPaths, Placed}

-- ---- those that are told

at_one : (x r : Refusal) (k : ℕ) → k < 1 → slice_index_or (x ∷ []) k r ≡ r → x ≡ r
at_one x r zero h e = e
at_one x r (suc k) h e = absurd (omega arith)

one_only : (x r : Refusal) → Contains (x ∷ []) r → x ≡ r
one_only x r c = at_one x r c.0 c.1 c.2

the_one : (x : Refusal) → Contains (x ∷ []) x
the_one x = (0, omega arith, refl)

no_item : (r : Refusal) → Contains {X = Refusal} [] r → ⊥
no_item r c = let h = c.1 in absurd (omega arith)

single : (x : Refusal) → IsFirst (Contains (x ∷ [])) (Some x)
single x = (the_one x, λ b c. subst (λ z. ComesFirst x z) (one_only x b c) (comes_itself x))

pub first_told : (P : Refusal → Type 0) (a : Option Refusal) (rs : List Refusal) → IsFirst P a → IsFirst (λ r. P r ⊎ Contains rs r) (first_in a rs)
first_told P a [] h = least_iff ComesFirst P (λ r. P r ⊎ Contains [] r) (λ r p. inl p) (λ r k. elim k [ inl p ↦ p | inr c ↦ absurd (no_item r c) ]) a h
first_told P a (x ∷ rs) h =
    least_iff ComesFirst (λ r. (P r ⊎ Contains (x ∷ []) r) ⊎ Contains rs r) (λ r. P r ⊎ Contains (x ∷ rs) r)
    (λ r k. elim k [
      | inl j ↦ elim j [ inl p ↦ inl p | inr c ↦ inr (Contains-append_left (x ∷ []) rs r c) ]
      | inr c ↦ inr (Contains-append_right (x ∷ []) rs r c)
    ])
    (λ r k. elim k [
      | inl p ↦ inl (inl p)
      | inr c ↦ elim (Contains-append_cases (x ∷ []) rs r c) [ inl d ↦ inl (inr d) | inr d ↦ inr d ]
    ])
    (first_in (earlier_refusal a (Some x)) rs)
    (first_told (λ r. P r ⊎ Contains (x ∷ []) r) (earlier_refusal a (Some x)) rs
    (least_either ComesFirst precedes refusal_test P (Contains (x ∷ [])) a (Some x) h (single x)))

-- the first of some that are told, before those behind it
pub told_first : (rs : List Refusal) (d : Refusal) (a b all : Option Refusal) → 1 ≤ length rs → b ≡ earlier_refusal a (Some (get_or rs 0 d))
    → first_in a rs ≡ all → first_in b (take (length rs - 1) (drop 1 rs)) ≡ all
told_first [] d a b all low e h = absurd (omega (arith, low))
told_first (r ∷ rs) d a b all low e h =
    ap (λ z. first_in b z) (take_all (length (r ∷ rs) - 1) rs (omega arith)) ∙ ap (λ z. first_in z rs) e ∙ h

-- ---- those that functions break on their paths

itself_first : (a : Option Refusal) → IsFirst (λ r. a ≡ Some r) a
itself_first None = λ r e. let f : None ≡ Some r = e in cc
itself_first (Some q) = (refl, λ b e. let f : q ≡ b = cc in subst (λ z. ComesFirst q z) f (comes_itself q))

none_broken : (r : Refusal) → BreaksSome [] r → ⊥
none_broken r b = let e : None ≡ Some b.1 = b.2 in cc

first_some : (p : Placed) (ps : List Placed) (r : Refusal) → BreaksOnPaths p r → BreaksSome (p ∷ ps) r
first_some p ps r h = (0, p, refl, h)

later_some : (p : Placed) (ps : List Placed) (r : Refusal) → BreaksSome ps r → BreaksSome (p ∷ ps) r
later_some p ps r b = (suc b.0, b.1, b.2, b.3)

some_at : (p : Placed) (ps : List Placed) (r : Refusal) (i : ℕ) (q : Placed) → slice_get (p ∷ ps) i ≡ Some q → BreaksOnPaths q r → BreaksOnPaths p r ⊎ BreaksSome ps r
some_at p ps r zero q e h = let f : q ≡ p = cc in inl (subst (λ z. BreaksOnPaths z r) f h)
some_at p ps r (suc i) q e h = inr (i, q, e, h)

some_cases : (p : Placed) (ps : List Placed) (r : Refusal) → BreaksSome (p ∷ ps) r → BreaksOnPaths p r ⊎ BreaksSome ps r
some_cases p ps r b = some_at p ps r b.0 b.1 b.2 b.3

some_left : (ps qs : List Placed) (r : Refusal) → BreaksSome ps r → BreaksSome (ps ++ qs) r
some_left [] qs r b = absurd (none_broken r b)
some_left (p ∷ ps) qs r b = elim (some_cases p ps r b) [ inl h ↦ first_some p (ps ++ qs) r h | inr c ↦ later_some p (ps ++ qs) r (some_left ps qs r c) ]

some_right : (ps qs : List Placed) (r : Refusal) → BreaksSome qs r → BreaksSome (ps ++ qs) r
some_right [] qs r b = b
some_right (p ∷ ps) qs r b = later_some p (ps ++ qs) r (some_right ps qs r b)

some_either : (ps qs : List Placed) (r : Refusal) → BreaksSome (ps ++ qs) r → BreaksSome ps r ⊎ BreaksSome qs r
some_either [] qs r b = inr b
some_either (p ∷ ps) qs r b = elim (some_cases p (ps ++ qs) r b) [
  | inl h ↦ inl (first_some p ps r h)
  | inr c ↦ elim (some_either ps qs r c) [ inl d ↦ inl (later_some p ps r d) | inr d ↦ inr d ]
]

-- no function
pub first_of_none : (a : Option Refusal) → IsFirstOf a [] a
first_of_none a =
    least_iff ComesFirst (λ r. a ≡ Some r) (λ r. (a ≡ Some r) ⊎ BreaksSome [] r) (λ r e. inl e) (λ r k. elim k [ inl e ↦ e | inr b ↦ absurd (none_broken r b) ]) a (itself_first a)

-- one function
first_of_one : (a b : Option Refusal) (p : Placed) → IsFirst (BreaksOnPaths p) b → IsFirstOf a (p ∷ []) (earlier_refusal a b)
first_of_one a b p h =
    least_iff ComesFirst (λ r. (a ≡ Some r) ⊎ BreaksOnPaths p r) (λ r. (a ≡ Some r) ⊎ BreaksSome (p ∷ []) r)
    (λ r k. elim k [ inl e ↦ inl e | inr c ↦ inr (first_some p [] r c) ])
    (λ r k. elim k [ inl e ↦ inl e | inr c ↦ elim (some_cases p [] r c) [ inl d ↦ inr d | inr d ↦ absurd (none_broken r d) ] ])
    (earlier_refusal a b)
    (least_either ComesFirst precedes refusal_test (λ r. a ≡ Some r) (BreaksOnPaths p) a b (itself_first a) h)

-- a function that has these notes and ends there
pub first_placed : (a b c : Option Refusal) (p : Placed) (notes : List Note) (end : Option Place) → notes ≡ notes_of p.scope p.inside p.signature p.function
    → end ≡ end_of p.signature p.function → IsFirst (IsBroken notes end) b → c ≡ earlier_refusal a b → IsFirstOf a (p ∷ []) c
first_placed a b c p notes end d e h k =
    let broken : IsFirst (BreaksOnPaths p) b =
    subst (λ o. IsFirst (IsBroken (notes_of p.scope p.inside p.signature p.function) o) b) e (subst (λ ns. IsFirst (IsBroken ns end) b) d h) in
    subst (λ z. IsFirstOf a (p ∷ []) z) (sym k) (first_of_one a b p broken)

-- some functions and then others
through_by : (a : Option Refusal) (ps qs : List Placed) (b c : Option Refusal) → IsFirstOf a ps b → IsFirstOf b qs c → IsFirstOf a (ps ++ qs) c
through_by a ps qs None None h k = λ r j. elim j [
  | inl e ↦ h r (inl e)
  | inr s ↦ elim (some_either ps qs r s) [ inl d ↦ h r (inr d) | inr d ↦ k r (inr d) ]
]
through_by a ps qs None (Some c) h k = (
  elim k.0 [ inl e ↦ (let f : None ≡ Some c = e in cc) | inr d ↦ inr (some_right ps qs c d) ],
  λ r j. elim j [
    | inl e ↦ absurd (h r (inl e))
    | inr s ↦ elim (some_either ps qs r s) [ inl d ↦ absurd (h r (inr d)) | inr d ↦ k.1 r (inr d) ]
  ],
)
through_by a ps qs (Some b) None h k = absurd (k b (inl refl))
through_by a ps qs (Some b) (Some c) h k = (
  elim k.0 [
    | inl e ↦ (let f : b ≡ c = cc in subst (λ z. (a ≡ Some z) ⊎ BreaksSome (ps ++ qs) z) f (elim h.0 [ inl g ↦ inl g | inr d ↦ inr (some_left ps qs b d) ]))
    | inr d ↦ inr (some_right ps qs c d)
  ],
  λ r j. elim j [
    | inl e ↦ refusal_test.through c b r (k.1 b (inl refl)) (h.1 r (inl e))
    | inr s ↦ elim (some_either ps qs r s) [ inl d ↦ refusal_test.through c b r (k.1 b (inl refl)) (h.1 r (inr d)) | inr d ↦ k.1 r (inr d) ]
  ],
)

pub first_of_more : (a b c : Option Refusal) (ps qs : List Placed) → IsFirstOf a ps b → IsFirstOf b qs c → IsFirstOf a (ps ++ qs) c
first_of_more a b c ps qs h k = through_by a ps qs b c h k
