-- Offsets past 65,535 need no exact count.
use Rattle.std.proofs.Common.{◌≡◌, ◌∙◌, ℕ, suc, ◌+◌, ◌<◌, ◌≤◌, min, Bool, true, false, cond, ltb, List, [], ◌∷◌, ◌++◌, length, drop, get_or, Option, Some, None, refl, sym, ap, subst, arith, inl, inr, ◌⊎◌, drop-cons, append_assoc}
use Rattle.std.specs.Prelude.{◌&&◌, slice_get}
use Rattle.std.proofs.lemmas.Bool.{cases_lt, lt-ltb, le-ltb, ltb-true, and_parts, cond-true, cond-false}
use Rattle.std.specs.Int.{w16, to_be_bytes}
use Rattle.arc4_types.specs.declared.placed.Placed.{Placed}
use Rattle.arc4_types.specs.declared.placed.Placed.TheVariants.{Here, Later}
use Rattle.arc4_types.specs.Encoding.{in_head, head_size, heads, tails, offsets_fit, joined}

pub cap_more : (a b c : ℕ) → min (min (a + b) 65536 + c) 65536 ≡ min (a + (b + c)) 65536
cap_more a b c = omega arith

same_test : (n m : ℕ) → min n 65536 ≡ min m 65536 → ltb n 65536 ≡ ltb m 65536
same_test n m e =
    elim (cases_lt n 65536) [
      | inl l ↦ lt-ltb n 65536 l ∙ sym (lt-ltb m 65536 (omega arith))
      | inr l ↦ le-ltb n 65536 l ∙ sym (le-ltb m 65536 (omega arith))
    ]

pub fits_capped : (ps : List Placed) (n m : ℕ) → min n 65536 ≡ min m 65536 → offsets_fit n ps ≡ offsets_fit m ps
fits_capped [] n m e = refl
fits_capped (Here b ∷ ps) n m e = fits_capped ps n m e
fits_capped (Later b ∷ ps) n m e =
    let t = same_test n m e in
    let r = fits_capped ps (n + length b) (m + length b) (omega arith) in
    ap (λ x. x && offsets_fit (n + length b) ps) t ∙ ap (λ x. ltb m 65536 && x) r

pub heads_capped : (ps : List Placed) (n m : ℕ) → min n 65536 ≡ min m 65536 → offsets_fit n ps ≡ true → heads n ps ≡ heads m ps
heads_capped [] n m e f = refl
heads_capped (Here b ∷ ps) n m e f = ap (λ x. b ++ x) (heads_capped ps n m e f)
heads_capped (Later b ∷ ps) n m e f =
    let t = and_parts (ltb n 65536) (offsets_fit (n + length b) ps) f in
    let l = ltb-true n 65536 t.0 in
    let s : n ≡ m = omega arith in
    ap (λ x. heads x (Later b ∷ ps)) s

pub fits_min : (ps : List Placed) (n : ℕ) → offsets_fit (min n 65536) ps ≡ offsets_fit n ps
fits_min ps n = fits_capped ps (min n 65536) n (omega arith)

pub heads_min : (ps : List Placed) (n : ℕ) → offsets_fit n ps ≡ true → heads (min n 65536) ps ≡ heads n ps
heads_min ps n f = heads_capped ps (min n 65536) n (omega arith) (fits_min ps n ∙ f)

at_later : (ps : List Placed) (i : ℕ) (p : Placed) (b : List ℕ) → i < length ps → p ≡ get_or ps i p → p ≡ Later b → drop i ps ≡ Later b ∷ drop (i + 1) ps
at_later ps i p b h e l =
    let s : suc i ≡ i + 1 = omega arith in
    drop-cons ps i p h ∙ ap (λ (q : Placed). q ∷ drop (suc i) ps) (sym e ∙ l) ∙ ap (λ k. Later b ∷ drop k ps) s

-- one more offset fits
pub fit_later : (ps : List Placed) (i n m : ℕ) (p : Placed) (b : List ℕ) (t : Bool) → i < length ps → p ≡ get_or ps i p → p ≡ Later b → n < 65536 → m ≡ min (n + length b) 65536
    → offsets_fit n (drop i ps) ≡ t → offsets_fit m (drop (i + 1) ps) ≡ t
fit_later ps i n m p b t h e l lt c f =
    let g : offsets_fit n (Later b ∷ drop (i + 1) ps) ≡ t = subst (λ (qs : List Placed). offsets_fit n qs ≡ t) (at_later ps i p b h e l) f in
    let k : offsets_fit (n + length b) (drop (i + 1) ps) ≡ t = subst (λ x. (x && offsets_fit (n + length b) (drop (i + 1) ps)) ≡ t) (lt-ltb n 65536 lt) g in
    ap (λ x. offsets_fit x (drop (i + 1) ps)) c ∙ fits_min (drop (i + 1) ps) (n + length b) ∙ k

pub head_later : (ps : List Placed) (i n m : ℕ) (p : Placed) (b out more whole : List ℕ) → i < length ps → p ≡ get_or ps i p → p ≡ Later b → m ≡ min (n + length b) 65536
    → offsets_fit n (drop i ps) ≡ true → more ≡ out ++ to_be_bytes w16 n → out ++ heads n (drop i ps) ≡ whole
    → (offsets_fit m (drop (i + 1) ps) ≡ true) × (more ++ heads m (drop (i + 1) ps) ≡ whole)
head_later ps i n m p b out more whole h e l c f o w =
    let a = at_later ps i p b h e l in
    let g : offsets_fit n (Later b ∷ drop (i + 1) ps) ≡ true = subst (λ (qs : List Placed). offsets_fit n qs ≡ true) a f in
    let t = and_parts (ltb n 65536) (offsets_fit (n + length b) (drop (i + 1) ps)) g in
    let fm : offsets_fit m (drop (i + 1) ps) ≡ true = ap (λ x. offsets_fit x (drop (i + 1) ps)) c ∙ fits_min (drop (i + 1) ps) (n + length b) ∙ t.1 in
    let hm : heads m (drop (i + 1) ps) ≡ heads (n + length b) (drop (i + 1) ps) = ap (λ x. heads x (drop (i + 1) ps)) c ∙ heads_min (drop (i + 1) ps) (n + length b) t.1 in
    let v : out ++ (to_be_bytes w16 n ++ heads (n + length b) (drop (i + 1) ps)) ≡ whole = subst (λ (qs : List Placed). out ++ heads n qs ≡ whole) a w in
    (fm, ap (λ x. more ++ x) hm ∙ ap (λ (x : List ℕ). x ++ heads (n + length b) (drop (i + 1) ps)) o ∙ append_assoc out (to_be_bytes w16 n) (heads (n + length b) (drop (i + 1) ps)) ∙ v)
