-- What a merge of two lists of variables says of each variable.
use Rattle.std.proofs.lemmas.List.{take_all}
use Rattle.std.proofs.Common.{◌≡◌, ℕ, suc, ◌-◌, ◌<◌, ◌≤◌, ◌⊎◌, inl, inr, ◌++◌, length, take, append_assoc, length-drop, Bool, true, false, List, [], ◌∷◌, map, drop, refl, sym, ◌∙◌, ap, subst, arith}
use Rattle.std.specs.Prelude.{if◌then◌else◌, ◌==◌, nat_lt}
use Rattle.std.proofs.lemmas.Bool.{ltb-true, ltb-false, eqb-true, ne_eqb, cond-true, cond-false, cond_both}
use Rattle.path_rules.specs.declared.summary.Exits.{Exits}
use Rattle.path_rules.specs.declared.summary.Effect.{Effect}
use Rattle.path_rules.specs.declared.summary.Touched.{Touched}
use Rattle.path_rules.specs.declared.summary.Frame.{Frame}
use Rattle.path_rules.specs.declared.summary.Frame.TheVariants.{Arm, If, Loop}
use Rattle.path_rules.specs.declared.merging.Next.{Next}
use Rattle.path_rules.specs.NextOf.{next_of}
use Rattle.path_rules.specs.Summaries.{untouched, behind, others_behind, left_alone, right_alone, both_named, merged_with, merged, in_frame, others_in_frame, touched_in_frame, Rises, effect_in}

-- ---- rising lists

pub rises_more : (m n : ℕ) (ts : List Touched) → m ≤ n → Rises n ts → Rises m ts
rises_more m n [] h k = tt
rises_more m n (t ∷ ts) h k = let l = k.0 in (omega arith, k.1)

pub absent : (o : Exits) (x n : ℕ) (ts : List Touched) → x < n → Rises n ts → effect_in o x ts ≡ untouched o
absent o x n [] h k = refl
absent o x n (t ∷ ts) h k =
    let l = k.0 in
    let ne : x ≡ t.variable → ⊥ = λ (e : x ≡ t.variable). omega arith in
    let b : x < suc t.variable = omega arith in
    cond-false (x == t.variable) t.effect (effect_in o x ts) (ne_eqb x t.variable ne) ∙ absent o x (suc t.variable) ts b k.1

right_rises : (a b : Exits) (n : ℕ) (us : List Touched) → Rises n us → Rises n (map (right_alone a b) us)
right_rises a b n [] h = tt
right_rises a b n (u ∷ us) h = (h.0, right_rises a b (suc u.variable) us h.1)

with_rises : (a b : Exits) (t : Touched) (rest : List Touched → List Touched) → ((us : List Touched) → Rises (suc t.variable) us → Rises (suc t.variable) (rest us)) → (us : List Touched) (n : ℕ) → n ≤ t.variable → Rises n us → Rises n (merged_with a b t rest us)
with_rises a b t rest k [] n h r = (h, k [] tt)
with_rises a b t rest k (u ∷ us) n h r =
    cond_both (nat_lt t.variable u.variable) (left_alone a b t ∷ rest (u ∷ us)) (if nat_lt u.variable t.variable then right_alone a b u ∷ merged_with a b t rest us else both_named a t u ∷ rest us) (λ l. Rises n l)
    (λ e. let lt = ltb-true t.variable u.variable e in let le : suc t.variable ≤ u.variable = omega arith in (h, k (u ∷ us) (le, r.1)))
    (λ e. cond_both (nat_lt u.variable t.variable) (right_alone a b u ∷ merged_with a b t rest us) (both_named a t u ∷ rest us) (λ l. Rises n l)
    (λ f. let lt = ltb-true u.variable t.variable f in let le : suc u.variable ≤ t.variable = omega arith in (r.0, with_rises a b t rest k us (suc u.variable) le r.1))
    (λ f. let ge = ltb-false t.variable u.variable e in let le = ltb-false u.variable t.variable f in let l : suc t.variable ≤ suc u.variable = omega arith in (h, k us (rises_more (suc t.variable) (suc u.variable) us l r.1))))

pub merged_rises : (a b : Exits) (ts us : List Touched) (n : ℕ) → Rises n ts → Rises n us → Rises n (merged a b ts us)
merged_rises a b [] us n h k = right_rises a b n us k
merged_rises a b (t ∷ ts) us n h k = with_rises a b t (merged a b ts) (λ vs r. merged_rises a b ts vs (suc t.variable) h.1 r) us n h.0 k

-- ---- looking up

if_is : (c : Bool) (p q r : Effect) → (c ≡ true → p ≡ r) → (c ≡ false → q ≡ r) → (if c then p else q) ≡ r
if_is true p q r h k = h refl
if_is false p q r h k = k refl

behind_of : (on : Bool) (p q r s : Effect) → p ≡ q → r ≡ s → behind on p r ≡ behind on q s
behind_of on p q r s e f = ap (λ z. behind on z r) e ∙ ap (λ z. behind on q z) f

untouched_by : (g l b c : Bool) (o : Exits) → let a : Exits = record { goes = g; leaves = l; breaks = b; continues = c } in untouched (others_behind a o) ≡ behind g (untouched a) (untouched o)
untouched_by true l b c o = refl
untouched_by false l b c o = refl

pub untouched_behind : (a b : Exits) → untouched (others_behind a b) ≡ behind a.goes (untouched a) (untouched b)
untouched_behind a b = untouched_by a.goes a.leaves a.breaks a.continues b

module _ (a b : Exits) (x : ℕ) where
  right_at : (us : List Touched) → effect_in (others_behind a b) x (map (right_alone a b) us) ≡ behind a.goes (untouched a) (effect_in b x us)
  right_at [] = untouched_behind a b
  right_at (u ∷ us) =
      if_is (x == u.variable) (behind a.goes (untouched a) u.effect) (effect_in (others_behind a b) x (map (right_alone a b) us)) (behind a.goes (untouched a) (effect_in b x (u ∷ us)))
      (λ e. ap (λ z. behind a.goes (untouched a) z) (sym (cond-true (x == u.variable) u.effect (effect_in b x us) e)))
      (λ e. right_at us ∙ ap (λ z. behind a.goes (untouched a) z) (sym (cond-false (x == u.variable) u.effect (effect_in b x us) e)))

  with_at : (t : Touched) (ts : List Touched) → Rises (suc t.variable) ts → (rest : List Touched → List Touched)
      → ((us : List Touched) (n : ℕ) → Rises n us → effect_in (others_behind a b) x (rest us) ≡ behind a.goes (effect_in a x ts) (effect_in b x us))
      → (us : List Touched) (n : ℕ) → Rises n us → effect_in (others_behind a b) x (merged_with a b t rest us) ≡ behind a.goes (effect_in a x (t ∷ ts)) (effect_in b x us)
  with_at t ts up rest k [] n r =
      if_is (x == t.variable) (behind a.goes t.effect (untouched b)) (effect_in (others_behind a b) x (rest [])) (behind a.goes (effect_in a x (t ∷ ts)) (untouched b))
      (λ e. ap (λ z. behind a.goes z (untouched b)) (sym (cond-true (x == t.variable) t.effect (effect_in a x ts) e)))
      (λ e. k [] 0 tt ∙ ap (λ z. behind a.goes z (untouched b)) (sym (cond-false (x == t.variable) t.effect (effect_in a x ts) e)))
  with_at t ts up rest k (u ∷ us) n r =
      let o = others_behind a b in
      let here = effect_in a x (t ∷ ts) in
      let there = effect_in b x (u ∷ us) in
      let t_yes = λ (e : (x == t.variable) ≡ true). sym (cond-true (x == t.variable) t.effect (effect_in a x ts) e) in
      let t_no = λ (e : (x == t.variable) ≡ false). sym (cond-false (x == t.variable) t.effect (effect_in a x ts) e) in
      let u_yes = λ (e : (x == u.variable) ≡ true). sym (cond-true (x == u.variable) u.effect (effect_in b x us) e) in
      let u_no = λ (e : (x == u.variable) ≡ false). sym (cond-false (x == u.variable) u.effect (effect_in b x us) e) in
      cond_both (nat_lt t.variable u.variable) (left_alone a b t ∷ rest (u ∷ us)) (if nat_lt u.variable t.variable then right_alone a b u ∷ merged_with a b t rest us else both_named a t u ∷ rest us) (λ l. effect_in o x l ≡ behind a.goes here there)
      (λ lt. if_is (x == t.variable) (behind a.goes t.effect (untouched b)) (effect_in o x (rest (u ∷ us))) (behind a.goes here there)
      (λ e.
      let is = eqb-true x t.variable e in
      let less = ltb-true t.variable u.variable lt in
      let below : x < u.variable = omega arith in
      let from : u.variable ≤ u.variable = omega arith in
      behind_of a.goes t.effect here (untouched b) there (t_yes e) (sym (absent b x u.variable (u ∷ us) below (from, r.1))))
      (λ e. k (u ∷ us) n r ∙ behind_of a.goes (effect_in a x ts) here there there (t_no e) refl))
      (λ ge. cond_both (nat_lt u.variable t.variable) (right_alone a b u ∷ merged_with a b t rest us) (both_named a t u ∷ rest us) (λ l. effect_in o x l ≡ behind a.goes here there)
      (λ lt. if_is (x == u.variable) (behind a.goes (untouched a) u.effect) (effect_in o x (merged_with a b t rest us)) (behind a.goes here there)
      (λ e.
      let is = eqb-true x u.variable e in
      let less = ltb-true u.variable t.variable lt in
      let below : x < t.variable = omega arith in
      let from : t.variable ≤ t.variable = omega arith in
      behind_of a.goes (untouched a) here u.effect there (sym (absent a x t.variable (t ∷ ts) below (from, up))) (u_yes e))
      (λ e. with_at t ts up rest k us (suc u.variable) r.1 ∙ behind_of a.goes here here (effect_in b x us) there refl (u_no e)))
      (λ le.
      let more = ltb-false t.variable u.variable ge in
      let less = ltb-false u.variable t.variable le in
      let same : t.variable ≡ u.variable = omega arith in
      if_is (x == t.variable) (behind a.goes t.effect u.effect) (effect_in o x (rest us)) (behind a.goes here there)
      (λ e. behind_of a.goes t.effect here u.effect there (t_yes e) (u_yes (subst (λ n. (x == n) ≡ true) same e)))
      (λ e. k us (suc u.variable) r.1 ∙ behind_of a.goes (effect_in a x ts) here (effect_in b x us) there (t_no e) (u_no (subst (λ n. (x == n) ≡ false) same e)))))

  pub merged_at : (ts : List Touched) (m : ℕ) → Rises m ts → (us : List Touched) (n : ℕ) → Rises n us → effect_in (others_behind a b) x (merged a b ts us) ≡ behind a.goes (effect_in a x ts) (effect_in b x us)
  merged_at [] m h us n r = right_at us
  merged_at (t ∷ ts) m h us n r = with_at t ts h.1 (merged a b ts) (λ vs k q. merged_at ts (suc t.variable) h.1 vs k q) us n r

-- ---- in a frame

pub untouched_in_frame : (f : Frame) (o : Exits) → untouched (others_in_frame f o) ≡ in_frame f (untouched o)
untouched_in_frame (Arm always) o = refl
untouched_in_frame If o = refl
untouched_in_frame Loop o = refl

pub frame_rises : (f : Frame) (n : ℕ) (ts : List Touched) → Rises n ts → Rises n (map (touched_in_frame f) ts)
frame_rises f n [] h = tt
frame_rises f n (t ∷ ts) h = (h.0, frame_rises f (suc t.variable) ts h.1)

pub frame_at : (f : Frame) (o : Exits) (x : ℕ) (ts : List Touched) → effect_in (others_in_frame f o) x (map (touched_in_frame f) ts) ≡ in_frame f (effect_in o x ts)
frame_at f o x [] = untouched_in_frame f o
frame_at f o x (t ∷ ts) =
    if_is (x == t.variable) (in_frame f t.effect) (effect_in (others_in_frame f o) x (map (touched_in_frame f) ts)) (in_frame f (effect_in o x (t ∷ ts)))
    (λ e. ap (in_frame f) (sym (cond-true (x == t.variable) t.effect (effect_in o x ts) e)))
    (λ e. frame_at f o x ts ∙ ap (in_frame f) (sym (cond-false (x == t.variable) t.effect (effect_in o x ts) e)))

-- ---- one step of a merge

pub merged-none : (a b : Exits) (ts : List Touched) → merged a b ts [] ≡ map (left_alone a b) ts
merged-none a b [] = refl
merged-none a b (t ∷ ts) = ap (λ l. left_alone a b t ∷ l) (merged-none a b ts)

by_tests : (a b : Exits) (t : Touched) (ts : List Touched) (u : Touched) (us : List Touched) (c d : Bool)
    → let n : Next = if c then record { touched = left_alone a b t; first = 1; second = 0 } else (if d then record { touched = right_alone a b u; first = 0; second = 1 } else record { touched = both_named a t u; first = 1; second = 1 }) in
    (if c then left_alone a b t ∷ merged a b ts (u ∷ us) else (if d then right_alone a b u ∷ merged_with a b t (merged a b ts) us else both_named a t u ∷ merged a b ts us))
    ≡ n.touched ∷ merged a b (drop n.first (t ∷ ts)) (drop n.second (u ∷ us))
by_tests a b t ts u us true d = refl
by_tests a b t ts u us false true = refl
by_tests a b t ts u us false false = refl

pub merged-next : (a b : Exits) (t : Touched) (ts : List Touched) (u : Touched) (us : List Touched) → merged a b (t ∷ ts) (u ∷ us) ≡ (next_of a b t u).touched ∷ merged a b (drop (next_of a b t u).first (t ∷ ts)) (drop (next_of a b t u).second (u ∷ us))
merged-next a b t ts u us = by_tests a b t ts u us (nat_lt t.variable u.variable) (nat_lt u.variable t.variable)

none_behind : (ts : List Touched) → ts ++ [] ≡ ts
none_behind [] = refl
none_behind (t ∷ ts) = ap (λ l. t ∷ l) (none_behind ts)

-- where one of the lists has come to its end
pub merged-ends : (a b : Exits) (ts us : List Touched) → (ts ≡ []) ⊎ (us ≡ []) → merged a b ts us ≡ map (left_alone a b) ts ++ map (right_alone a b) us
merged-ends a b [] us h = refl
merged-ends a b (t ∷ ts) [] h = merged-none a b (t ∷ ts) ∙ sym (none_behind (map (left_alone a b) (t ∷ ts)))
merged-ends a b (t ∷ ts) (u ∷ us) (inl e) = absurd (cc)
merged-ends a b (t ∷ ts) (u ∷ us) (inr e) = absurd (cc)

pub the_rest : (i : ℕ) (ts : List Touched) → take (length ts - i) (drop i ts) ≡ drop i ts
the_rest i ts = take_all (length ts - i) (drop i ts) (omega (arith, length-drop i ts))

pub finished : (a b : Exits) (into mid end whole ts us : List Touched) → (ts ≡ []) ⊎ (us ≡ []) → into ++ merged a b ts us ≡ whole → mid ≡ into ++ map (left_alone a b) ts → end ≡ mid ++ map (right_alone a b) us → end ≡ whole
finished a b into mid end whole ts us h e f g =
    g ∙ ap (λ z. z ++ map (right_alone a b) us) f ∙ append_assoc into (map (left_alone a b) ts) (map (right_alone a b) us) ∙ ap (λ z. into ++ z) (sym (merged-ends a b ts us h)) ∙ e
