-- Rows combined piece by piece.
use Rattle.std.proofs.Common.{◌≡◌, ◌≢◌, ℕ, ◌+◌, ◌-◌, ◌%◌, ◌^◌, ◌<◌, ◌≤◌, Bool, true, false, ◌||◌, not, List, [], ◌∷◌, map, length, get_or, eqb, cond, refl, ap, sym, ◌∙◌, inl, inr, arith, w64, eqb-true, eq-eqb, ne_eqb}
use Rattle.std.proofs.lemmas.Bool.{cases_lt, cases_eq}
use Rattle.std.proofs.lemmas.List.{ext_get_or}
use Rattle.std.specs.Simd.Lanes.{zip2, chunk, put_chunk, mask_l, top}
use Rattle.std.proofs.lemmas.Simd.{length-chunk, length-zip2, length-put_chunk, get_or-chunk, get_or-zip2, get_or-put_chunk_at, get_or-put_chunk_below, get_or-put_chunk_above, mask_l-mod, tops_compared}
use Rattle.bit_lanes.specs.Lanes.{Combined}

pub zip2-map_right : {X Y Z W : Type 0} (f : X → Y → Z) (g : W → Y) (xs : List X) (ws : List W) → zip2 f xs (map g ws) ≡ zip2 (λ x w. f x (g w)) xs ws
zip2-map_right f g [] ws = refl
zip2-map_right f g (x ∷ xs) [] = refl
zip2-map_right f g (x ∷ xs) (w ∷ ws) = ap (λ zs. f x (g w) ∷ zs) (zip2-map_right f g xs ws)

-- nothing was combined yet
pub combined_none : (f : ℕ → ℕ → ℕ) (start : ℕ) (old other : List ℕ) → Combined f start start old other old false
combined_none f start old other = record {
  long = refl;
  inside = λ k from to. absurd (omega arith);
  before = λ k _. refl;
  after = λ k _. refl;
  differs = λ no. absurd (cc no);
  stays = λ _. refl;
}

-- two neighbouring stretches, one after the other
module _ (f : ℕ → ℕ → ℕ) (start middle end : ℕ) (old other between new : List ℕ) (first second : Bool)
    (a : Combined f start middle old other between first) (b : Combined f middle end between other new second)
    (low : start ≤ middle) (high : middle ≤ end) where
  same_between : new ≡ old → between ≡ old
  same_between same = ext_get_or 0 between old a.long (λ i _. elim (cases_lt i middle) [
    | inl lt ↦ sym (b.before i lt) ∙ ap (λ l. get_or l i 0) same
    | inr ge ↦ a.after i ge
  ])

  pub combined_on : Combined f start end old other new (first || second)
  combined_on = record {
    long = b.long ∙ a.long;
    inside = λ k from to. elim (cases_lt k middle) [
      | inl lt ↦ b.before k lt ∙ a.inside k from lt
      | inr ge ↦ b.inside k ge to ∙ ap (λ n. f n (get_or other k 0)) (a.after k ge)
    ];
    before = λ k lt. b.before k (omega arith) ∙ a.before k lt;
    after = λ k ge. b.after k ge ∙ a.after k (omega arith);
    differs = differs first second (λ yes. a.differs yes) (λ yes. b.differs yes);
    stays = stays first second (λ no. a.stays no) (λ no. b.stays no);
  }
    where
      differs : (p q : Bool) → (p ≡ true → between ≢ old) → (q ≡ true → new ≢ between) → (p || q) ≡ true → new ≢ old
      differs true q x y is same = x refl (same_between same)
      differs false true x y is same = y refl (same ∙ sym (same_between same))
      differs false false x y is same = absurd (cc is)

      stays : (p q : Bool) → (p ≡ false → between ≡ old) → (q ≡ false → new ≡ between) → (p || q) ≡ false → new ≡ old
      stays true q x y is = absurd (cc is)
      stays false true x y is = absurd (cc is)
      stays false false x y is = y refl ∙ x refl

-- one group, loaded, combined and stored
pub combined_group : (f : ℕ → ℕ → ℕ) (n at : ℕ) (old other new group : List ℕ) (changed : Bool)
    → at + n ≤ length old → length other ≡ length old
    → group ≡ zip2 f (chunk at n old) (chunk at n other) → new ≡ put_chunk at old group
    → (changed ≡ true → group ≢ chunk at n old) → (changed ≡ false → group ≡ chunk at n old)
    → Combined f at (at + n) old other new changed
combined_group f n at old other new group changed room even made stored differs stays =
    let old_long = length-chunk at n old room in
    let other_long = length-chunk at n other (omega arith) in
    let long : length group ≡ n = ap length made ∙ length-zip2 f (chunk at n old) (chunk at n other) (omega arith) ∙ old_long in
    let inside : (k : ℕ) → at ≤ k → k < at + n → get_or new k 0 ≡ get_or group (k - at) 0 = λ k from to.
    let back : at + (k - at) ≡ k = omega arith in
    ap (λ l. get_or l k 0) stored ∙ ap (λ j. get_or (put_chunk at old group) j 0) (sym back) ∙ get_or-put_chunk_at at old group (k - at) 0 (omega arith) (omega arith)
    in
    let loaded : (xs : List ℕ) (k : ℕ) → at ≤ k → k < at + n → get_or (chunk at n xs) (k - at) 0 ≡ get_or xs k 0 = λ xs k from to.
    get_or-chunk at n xs (k - at) 0 (omega arith) ∙ ap (λ j. get_or xs j 0) (omega arith)
    in
    let before : (k : ℕ) → k < at → get_or new k 0 ≡ get_or old k 0 = λ k lt. ap (λ l. get_or l k 0) stored ∙ get_or-put_chunk_below at old group k 0 lt in
    let after : (k : ℕ) → at + n ≤ k → get_or new k 0 ≡ get_or old k 0 = λ k ge. ap (λ l. get_or l k 0) stored ∙ get_or-put_chunk_above at old group k 0 (omega arith) in
    let same_length : length new ≡ length old = ap length stored ∙ length-put_chunk at old group in
    record {
      long = same_length;
      inside = λ k from to.
          inside k from to ∙ ap (λ l. get_or l (k - at) 0) made
          ∙ get_or-zip2 f (chunk at n old) (chunk at n other) (k - at) 0 0 0 (omega arith) (omega arith)
          ∙ (λ i. f (loaded old k from to i) (loaded other k from to i));
      before = before;
      after = after;
      differs = λ yes same. differs yes (ext_get_or 0 group (chunk at n old) (omega arith) (λ i lt.
          let place : at + i - at ≡ i = omega arith in
          ap (λ j. get_or group j 0) (sym place) ∙ sym (inside (at + i) (omega arith) (omega arith))
          ∙ ap (λ l. get_or l (at + i) 0) same ∙ sym (get_or-chunk at n old i 0 (omega arith))));
      stays = λ no. ext_get_or 0 new old same_length (λ k _. elim (cases_lt k at) [
        | inl lt ↦ before k lt
        | inr ge ↦ elim (cases_lt k (at + n)) [
          | inl lt ↦ inside k ge lt ∙ ap (λ l. get_or l (k - at) 0) (stays no) ∙ loaded old k ge lt
          | inr past ↦ after k past
        ]
      ]);
    }

-- the lanes in which two vectors differ, as the bits of a number
abbrev differing : List ℕ → List ℕ → ℕ
differing xs ys = mask_l (zip2 (λ a b. not (eqb a b)) xs ys)

-- a lane and the rest are those of the other, where that one is equal or not
lane_on : (x y : ℕ) (xs ys : List ℕ) → (differing xs ys ≡ 0 → xs ≡ ys) → (b : Bool) → eqb x y ≡ b → differing (x ∷ xs) (y ∷ ys) ≡ 0 → x ∷ xs ≡ y ∷ ys
lane_on x y xs ys onward true is none =
    let rest : differing xs ys ≡ 0 = let whole = rw is at none in omega arith in
    λ i. eqb-true x y is i ∷ onward rest i
lane_on x y xs ys onward false is none = absurd (let whole = rw is at none in omega arith)

no_lane_differs : (xs ys : List ℕ) → length xs ≡ length ys → differing xs ys ≡ 0 → xs ≡ ys
no_lane_differs [] [] even none = refl
no_lane_differs [] (y ∷ ys) even none = absurd (omega arith)
no_lane_differs (x ∷ xs) [] even none = absurd (omega arith)
no_lane_differs (x ∷ xs) (y ∷ ys) even none = lane_on x y xs ys (no_lane_differs xs ys (omega arith)) (eqb x y) refl none

same_lanes : (xs : List ℕ) → differing xs xs ≡ 0
same_lanes [] = refl
same_lanes (x ∷ xs) = rw (eq-eqb x x refl, same_lanes xs) refl

-- what `!=` of two vectors of at most 64 lanes says
pub groups_differ : (xs ys : List ℕ) → length xs ≡ length ys → length ys ≤ 64 → (changed : Bool)
    → changed ≡ not (eqb (mask_l (map (top 63) (zip2 (λ a b. cond (not (eqb a b)) (2 ^ 64 - 1) 0) xs ys)) % 2 ^ 64) 0)
    → (changed ≡ true → xs ≢ ys) × (changed ≡ false → xs ≡ ys)
groups_differ xs ys even small changed is =
    let mask : mask_l (map (top 63) (zip2 (λ a b. cond (not (eqb a b)) (2 ^ 64 - 1) 0) xs ys)) % 2 ^ 64 ≡ differing xs ys =
    ap (λ ms. mask_l ms % 2 ^ 64) (tops_compared w64 (λ a b. not (eqb a b)) xs ys)
    ∙ mask_l-mod (zip2 (λ a b. not (eqb a b)) xs ys) 64 (omega (arith, length-zip2 (λ a b. not (eqb a b)) xs ys even)) in
    let flag : changed ≡ not (eqb (differing xs ys) 0) = is ∙ ap (λ n. not (eqb n 0)) mask in (
      λ yes same. let none : differing xs ys ≡ 0 = ap (λ l. differing l ys) same ∙ same_lanes ys in
          absurd (let clash : changed ≡ false = flag ∙ ap not (eq-eqb _ _ none) in cc (yes, clash)),
      λ no. no_lane_differs xs ys even (elim (cases_eq (differing xs ys) 0) [
        | inl none ↦ none
        | inr some ↦ absurd (let clash : changed ≡ true = flag ∙ ap not (ne_eqb _ _ some) in cc (no, clash))
      ]),
    )
