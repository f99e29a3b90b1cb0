-- What stands at a key's place in a list of entries whose keys rise, and what an edit there does.
use Rattle.std.proofs.Common.{ℕ, zero, suc, ◌+◌, ◌<◌, ◌≤◌, ◌≡◌, Bool, true, false, cond, T, List, [], ◌∷◌, ◌&&◌, length, get_or, set, Option, Some, None, option_map, slice_get, refl, sym, ap, subst, ◌∙◌, arith}
use Rattle.std.specs.List.{insert, remove}
use Rattle.std.specs.List.Sorted.{IsNonDecreasingBy}
use Rattle.std.proofs.lemmas.List.{get_or_default}
use Rattle.std.specs.Ordering.{ordering_index, ordering_reverse, is_lt, is_eq, eq_by_cmp}
use Rattle.std.specs.Cmp.{IsTotalOrder}
use Rattle.std.specs.declared.cmp.Ordering.{Ordering}
use Rattle.std.specs.declared.cmp.Ordering.TheVariants.{Less, Equal, Greater}
use Rattle.std.specs.FinMap.{FinMap, IsAntisymmetric, find, put, is_sorted, get, entries, from_sorted, insert as map_insert, remove as map_remove, entries_sorted, same_entries_map, same_map, entries-insert, entries-from_sorted, get-from_sorted, get-remove, get_tied, len, len-entries, empty as map_empty, empty_of_len}
use Rattle.std.specs.FinMap.Entries.{below_all, by_order}
use Rattle.avm_state.specs.Places.{IsFound, IsGap}

both : (a b : Bool) → T a → T b → T (a && b)
both true b p q = q
both false b p q = p

first : (a b : Bool) → T (a && b) → T a
first true b p = tt
first false b p = p

second : (a b : Bool) → T (a && b) → T b
second true b p = p
second false b p = absurd p

is_less : (o : Ordering) → T (is_lt o) → o ≡ Less
is_less Less p = refl
is_less Equal p = absurd p
is_less Greater p = absurd p

equal : (r : Ordering) → T (is_eq r) → r ≡ Equal
equal Less p = absurd p
equal Equal p = refl
equal Greater p = absurd p

index_least : (r : Ordering) → ordering_index r ≤ 0 → r ≡ Less
index_least Less p = refl
index_least Equal p = absurd (omega arith)
index_least Greater p = absurd (omega arith)

index_most : (r : Ordering) → 2 ≤ ordering_index r → r ≡ Greater
index_most Less p = absurd (omega arith)
index_most Equal p = absurd (omega arith)
index_most Greater p = refl

module _ {K : Type 0} {R : K → K → Ordering} (o : IsTotalOrder R) where
  turn_less : (x y : K) → R x y ≡ Less → R y x ≡ Greater
  turn_less x y e = o.antisymm y x ∙ ap ordering_reverse e

  turn_greater : (x y : K) → R x y ≡ Greater → R y x ≡ Less
  turn_greater x y e = o.antisymm y x ∙ ap ordering_reverse e

  turn_equal : (x y : K) → R x y ≡ Equal → R y x ≡ Equal
  turn_equal x y e = o.antisymm y x ∙ ap ordering_reverse e

  -- x below y, and y tied with k: k is above x
  above_tied : (x y k : K) → R x y ≡ Less → R y k ≡ Equal → R k x ≡ Greater
  above_tied x y k l e = sym (o.congr y k x e) ∙ turn_less x y l

  -- two keys that both tie with q tie with each other
  tied : (q x y : K) → R q x ≡ Equal → R q y ≡ Equal → R x y ≡ Equal
  tied q x y a b = sym (o.congr q x y a) ∙ b

  -- the lower key compares no higher with a third
  index_below : (x y k : K) → R x y ≡ Less → (r s : Ordering) → R x k ≡ r → R y k ≡ s → ordering_index r ≤ ordering_index s
  index_below x y k l Less s a b = omega arith
  index_below x y k l Equal Less a b = absurd (subst (λ t. T (is_eq t)) (sym a ∙ o.trans x y k l b) tt)
  index_below x y k l Equal Equal a b = omega arith
  index_below x y k l Equal Greater a b = omega arith
  index_below x y k l Greater Less a b = absurd (subst (λ t. T (is_lt t)) (sym (o.trans x y k l b) ∙ a) tt)
  index_below x y k l Greater Equal a b = absurd (subst (λ t. T (is_lt t)) (sym l ∙ turned ∙ a) tt)
    where
      turned : R x y ≡ R x k
      turned = o.antisymm x y ∙ ap ordering_reverse (o.congr y k x b) ∙ sym (o.antisymm x k)
  index_below x y k l Greater Greater a b = omega arith

module _ {K X : Type 0} {R : K → K → Ordering} (o : IsTotalOrder R) where
  pub found_get : (k : K) (es : List (K × X)) (i : ℕ) (d : K × X) → IsFound R k es i → find R k es ≡ Some (get_or es i d).1
  found_get k [] i d h = absurd h
  found_get k (e ∷ es) zero d h = ap (λ r. cond (is_eq r) (Some e.1) (find R k es)) h
  found_get k (e ∷ es) (suc i) d h = ap (λ r. cond (is_eq r) (Some e.1) (find R k es)) h.0 ∙ found_get k es i d h.1

  pub found_within : (k : K) (es : List (K × X)) (i : ℕ) → IsFound R k es i → i < length es
  found_within k [] i h = absurd h
  found_within k (e ∷ es) zero h = omega arith
  found_within k (e ∷ es) (suc i) h = omega (arith, found_within k es i h.1)

  pub found_put : (k : K) (v : X) (es : List (K × X)) (i : ℕ) (d : K × X) → IsFound R k es i → put R k v es ≡ set es i ((get_or es i d).0, v)
  found_put k v [] i d h = absurd h
  found_put k v (e ∷ es) zero d h = ap (λ r. by_order r ((k, v) ∷ e ∷ es) ((e.0, v) ∷ es) (e ∷ put R k v es)) h
  found_put k v (e ∷ es) (suc i) d h = ap (λ r. by_order r ((k, v) ∷ e ∷ es) ((e.0, v) ∷ es) (e ∷ put R k v es)) h.0 ∙ ap (λ t. e ∷ t) (found_put k v es i d h.1)

  pub gap_put : (k : K) (v : X) (es : List (K × X)) (i : ℕ) → IsGap R k es i → put R k v es ≡ insert es i (k, v)
  gap_put k v [] zero h = refl
  gap_put k v [] (suc i) h = absurd h
  gap_put k v (e ∷ es) zero h = ap (λ r. by_order r ((k, v) ∷ e ∷ es) ((e.0, v) ∷ es) (e ∷ put R k v es)) h
  gap_put k v (e ∷ es) (suc i) h = ap (λ r. by_order r ((k, v) ∷ e ∷ es) ((e.0, v) ∷ es) (e ∷ put R k v es)) h.0 ∙ ap (λ t. e ∷ t) (gap_put k v es i h.1)

  pub gap_within : (k : K) (es : List (K × X)) (i : ℕ) → IsGap R k es i → i ≤ length es
  gap_within k [] zero h = omega arith
  gap_within k [] (suc i) h = absurd h
  gap_within k (e ∷ es) zero h = omega arith
  gap_within k (e ∷ es) (suc i) h = omega (arith, gap_within k es i h.1)

  -- a key below the first is not found
  less_none : (q : K) (es : List (K × X)) → T (below_all R q es) → find R q es ≡ None
  less_none q [] h = refl
  less_none q (e ∷ es) h = ap (λ r. cond (is_eq r) (Some e.1) (find R q es)) (is_less _ (first _ _ h)) ∙ less_none q es (second _ _ h)

  -- what is below x, or tied o with it, is below all that is above x
  below_less : (q x : K) (es : List (K × X)) → R q x ≡ Less → T (below_all R x es) → T (below_all R q es)
  below_less q x [] e h = tt
  below_less q x (f ∷ es) e h = both _ _ (subst (λ r. T (is_lt r)) (sym (o.trans q x f.0 e (is_less _ (first _ _ h)))) tt) (below_less q x es e (second _ _ h))

  below_tied : (q x : K) (es : List (K × X)) → R q x ≡ Equal → T (below_all R x es) → T (below_all R q es)
  below_tied q x [] e h = tt
  below_tied q x (f ∷ es) e h = both _ _ (subst (λ r. T (is_lt r)) (sym (o.congr q x f.0 e)) (first _ _ h)) (below_tied q x es e (second _ _ h))

  pub gap_none : (k : K) (es : List (K × X)) (i : ℕ) → T (is_sorted R es) → IsGap R k es i → find R k es ≡ None
  gap_none k [] zero s h = refl
  gap_none k [] (suc i) s h = absurd h
  gap_none k (e ∷ es) zero s h = ap (λ r. cond (is_eq r) (Some e.1) (find R k es)) h ∙ less_none k es (below_less k e.0 es h (first _ _ s))
  gap_none k (e ∷ es) (suc i) s h = ap (λ r. cond (is_eq r) (Some e.1) (find R k es)) h.0 ∙ gap_none k es i (second _ _ s) h.1

  below_remove : (x : K) (es : List (K × X)) (i : ℕ) → T (below_all R x es) → T (below_all R x (remove es i))
  below_remove x [] zero h = tt
  below_remove x [] (suc i) h = tt
  below_remove x (e ∷ es) zero h = second _ _ h
  below_remove x (e ∷ es) (suc i) h = both _ _ (first _ _ h) (below_remove x es i (second _ _ h))

  pub sorted_remove : (es : List (K × X)) (i : ℕ) → T (is_sorted R es) → T (is_sorted R (remove es i))
  sorted_remove [] zero s = tt
  sorted_remove [] (suc i) s = tt
  sorted_remove (e ∷ es) zero s = second _ _ s
  sorted_remove (e ∷ es) (suc i) s = both _ _ (below_remove e.0 es i (first _ _ s)) (sorted_remove es i (second _ _ s))

  swapped_none : (a b : Bool) (y z : Option X) → (T a → ¬ (T b)) → cond b y (cond a None z) ≡ cond a None (cond b y z)
  swapped_none true true y z apart = absurd (apart tt tt)
  swapped_none true false y z apart = refl
  swapped_none false b y z apart = refl

  first_removed : (q : K) (e : K × X) (es : List (K × X)) (r : Ordering) → R q e.0 ≡ r → T (below_all R e.0 es) → find R q es ≡ cond (is_eq r) None (cond (is_eq r) (Some e.1) (find R q es))
  first_removed q e es Less t s = refl
  first_removed q e es Equal t s = less_none q es (below_tied q e.0 es t s)
  first_removed q e es Greater t s = refl

  pub find-remove : (k q : K) (es : List (K × X)) (i : ℕ) → T (is_sorted R es) → IsFound R k es i → find R q (remove es i) ≡ cond (eq_by_cmp R q k) None (find R q es)
  find-remove k q [] i s h = absurd h
  find-remove k q (e ∷ es) zero s h =
      first_removed q e es (R q e.0) refl (first _ _ s)
      ∙ ap (λ r. cond (is_eq r) None (find R q (e ∷ es))) (o.antisymm q e.0 ∙ ap ordering_reverse (sym (o.congr k e.0 q h)) ∙ sym (o.antisymm q k))
  find-remove k q (e ∷ es) (suc i) s h =
      ap (cond (eq_by_cmp R q e.0) (Some e.1)) (find-remove k q es i (second _ _ s) h.1)
      ∙ swapped_none (eq_by_cmp R q k) (eq_by_cmp R q e.0) (Some e.1) (find R q es) (λ a b. subst (λ r. T (is_eq r)) (sym (tied o q k e.0 (equal _ a) (equal _ b)) ∙ h.0) tt)

  -- what a binary search by the key finds
  below_at : (x : K) (es : List (K × X)) (i : ℕ) (d : K × X) → T (below_all R x es) → i < length es → R x (get_or es i d).0 ≡ Less
  below_at x [] i d h l = absurd (omega arith)
  below_at x (e ∷ es) zero d h l = is_less _ (first _ _ h)
  below_at x (e ∷ es) (suc i) d h l = below_at x es i d (second _ _ h) (omega arith)

  found_from : (k : K) (es : List (K × X)) (i : ℕ) → T (is_sorted R es) → i < length es → ((d : K × X) → R (get_or es i d).0 k ≡ Equal) → IsFound R k es i
  found_from k [] i s l h = absurd (omega arith)
  found_from k (e ∷ es) zero s l h = turn_equal o e.0 k (h e)
  found_from k (e ∷ es) (suc i) s l h = (above_tied o e.0 _ k (below_at e.0 es i e (first _ _ s) (omega arith)) (h e), found_from k es i (second _ _ s) (omega arith) (λ d. h d))

  gap_from : (k : K) (es : List (K × X)) (i : ℕ) → i ≤ length es → ((j : ℕ) (d : K × X) → j < i → R (get_or es j d).0 k ≡ Less) → ((j : ℕ) (d : K × X) → i ≤ j → j < length es → R (get_or es j d).0 k ≡ Greater) → IsGap R k es i
  gap_from k [] zero l lo hi = tt
  gap_from k [] (suc i) l lo hi = absurd (omega arith)
  gap_from k (e ∷ es) zero l lo hi = turn_greater o e.0 k (hi 0 e (omega arith) (omega arith))
  gap_from k (e ∷ es) (suc i) l lo hi = (turn_less o e.0 k (lo 0 e (omega arith)), gap_from k es i (omega arith) (λ j d a. lo (suc j) d (omega arith)) (λ j d a b. hi (suc j) d (omega arith) (omega arith)))

  rising : (k : K) (es : List (K × X)) → T (is_sorted R es) → IsNonDecreasingBy (λ e. ordering_index (R e.0 k)) es
  rising k [] s i j d a b = absurd (omega arith)
  rising k (e ∷ es) s zero zero d a b = omega arith
  rising k (e ∷ es) s zero (suc j) d a b = index_below o e.0 _ k (below_at e.0 es j d (first _ _ s) (omega arith)) (R e.0 k) (R (get_or es j d).0 k) refl refl
  rising k (e ∷ es) s (suc i) zero d a b = absurd (omega arith)
  rising k (e ∷ es) s (suc i) (suc j) d a b = rising k es (second _ _ s) i j d (omega arith) (omega arith)

  -- the keys before a place are below k, and those from a place on above it
  abbrev pub AllLess : K → List (K × X) → ℕ → Type 0
  AllLess k es n = (j : ℕ) (d : K × X) → j < n → R (get_or es j d).0 k ≡ Less

  abbrev pub AllGreater : K → List (K × X) → ℕ → Type 0
  AllGreater k es n = (j : ℕ) (d : K × X) → n ≤ j → j < length es → R (get_or es j d).0 k ≡ Greater

  pub less_upto : (k : K) (es : List (K × X)) → T (is_sorted R es) → (i : ℕ) (e : K × X) → i < length es → e ≡ get_or es i e → R e.0 k ≡ Less → AllLess k es (i + 1)
  less_upto k es s i e l is h j d a =
      let there : get_or es i d ≡ e = get_or_default es i d e l ∙ sym is in
      let high : ordering_index (R (get_or es i d).0 k) ≡ 0 = ap (λ (x : K × X). ordering_index (R x.0 k)) there ∙ ap ordering_index h in
      index_least _ (omega (arith, rising k es s j i d (omega arith) l))

  pub greater_from : (k : K) (es : List (K × X)) → T (is_sorted R es) → (i : ℕ) (e : K × X) → i < length es → e ≡ get_or es i e → R e.0 k ≡ Greater → AllGreater k es i
  greater_from k es s i e l is h j d a b =
      let there : get_or es i d ≡ e = get_or_default es i d e l ∙ sym is in
      let low : ordering_index (R (get_or es i d).0 k) ≡ 2 = ap (λ (x : K × X). ordering_index (R x.0 k)) there ∙ ap ordering_index h in
      index_most _ (omega (arith, rising k es s i j d a b))

  pub found_at : (k : K) (es : List (K × X)) → T (is_sorted R es) → (i : ℕ) (e : K × X) → i < length es → e ≡ get_or es i e → R e.0 k ≡ Equal → IsFound R k es i
  found_at k es s i e l is h = found_from k es i s l (λ d. ap (λ (x : K × X). R x.0 k) (get_or_default es i d e l ∙ sym is) ∙ h)

  pub gap_at : (k : K) (es : List (K × X)) → (i : ℕ) → i ≤ length es → AllLess k es i → AllGreater k es i → IsGap R k es i
  gap_at k es i l lo hi = gap_from k es i l lo hi

pub get_at : {A : Type 0} (es : List A) (i : ℕ) (e : A) → i < length es → e ≡ get_or es i e → slice_get es i ≡ Some e
get_at [] i e l is = absurd (omega arith)
get_at (f ∷ es) zero e l is = ap Some (sym is)
get_at (f ∷ es) (suc i) e l is = get_at es i e (omega arith) is

-- the maps of such lists
module _ {K X : Type 0} {R : K → K → Ordering} (o : IsTotalOrder R) where
  pub map_get_found : (es : List (K × X)) → T (is_sorted R es) → (k : K) (i : ℕ) (d : K × X) → IsFound R k es i → get (from_sorted {R = R} es) k ≡ Some (get_or es i d).1
  map_get_found es s k i d h = get-from_sorted R es k s ∙ found_get o k es i d h

  pub map_get_gap : (es : List (K × X)) → T (is_sorted R es) → (k : K) (i : ℕ) → IsGap R k es i → get (from_sorted {R = R} es) k ≡ None
  map_get_gap es s k i h = get-from_sorted R es k s ∙ gap_none o k es i s h

  put_entries : (es : List (K × X)) → T (is_sorted R es) → (k : K) (v : X) → entries (map_insert (from_sorted {R = R} es) k v) ≡ put R k v es
  put_entries es s k v = entries-insert o (from_sorted es) k v ∙ ap (put R k v) (entries-from_sorted R es s)

  pub sorted_put : (es : List (K × X)) → T (is_sorted R es) → (k : K) (v : X) → T (is_sorted R (put R k v es))
  sorted_put es s k v = subst (λ l. T (is_sorted R l)) (put_entries es s k v) (entries_sorted (map_insert (from_sorted es) k v))

  pub map_put : (es : List (K × X)) → T (is_sorted R es) → (k : K) (v : X) → from_sorted {R = R} (put R k v es) ≡ map_insert (from_sorted es) k v
  map_put es s k v = same_entries_map _ _ (entries-from_sorted R (put R k v es) (sorted_put es s k v) ∙ sym (put_entries es s k v))

  pub sorted_set : (es : List (K × X)) → T (is_sorted R es) → (k : K) (v : X) (i : ℕ) (d : K × X) → IsFound R k es i → T (is_sorted R (set es i ((get_or es i d).0, v)))
  sorted_set es s k v i d h = subst (λ l. T (is_sorted R l)) (found_put o k v es i d h) (sorted_put es s k v)

  pub map_set : (es : List (K × X)) → T (is_sorted R es) → (k : K) (v : X) (i : ℕ) (d : K × X) → IsFound R k es i → from_sorted {R = R} (set es i ((get_or es i d).0, v)) ≡ map_insert (from_sorted es) k v
  map_set es s k v i d h = sym (ap from_sorted (found_put o k v es i d h)) ∙ map_put es s k v

  pub sorted_insert : (es : List (K × X)) → T (is_sorted R es) → (k : K) (v : X) (i : ℕ) → IsGap R k es i → T (is_sorted R (insert es i (k, v)))
  sorted_insert es s k v i h = subst (λ l. T (is_sorted R l)) (gap_put o k v es i h) (sorted_put es s k v)

  pub map_insert_gap : (es : List (K × X)) → T (is_sorted R es) → (k : K) (v : X) (i : ℕ) → IsGap R k es i → from_sorted {R = R} (insert es i (k, v)) ≡ map_insert (from_sorted es) k v
  map_insert_gap es s k v i h = sym (ap from_sorted (gap_put o k v es i h)) ∙ map_put es s k v

  pub map_remove_found : IsAntisymmetric R → (es : List (K × X)) → T (is_sorted R es) → (k : K) (i : ℕ) → IsFound R k es i → from_sorted {R = R} (remove es i) ≡ map_remove (from_sorted es) k
  map_remove_found same es s k i h = same_map o same _ _ (λ q.
      get-from_sorted R (remove es i) q (sorted_remove o es i s)
      ∙ find-remove o k q es i s h
      ∙ sym (get-remove o (from_sorted es) k q ∙ ap (cond (eq_by_cmp R q k) None) (get-from_sorted R es q s)))

  none_if_tied : (m : FinMap R X) (k q : K) → get m k ≡ None → (r : Ordering) → R q k ≡ r → get m q ≡ cond (is_eq r) None (get m q)
  none_if_tied m k q none Less t = refl
  none_if_tied m k q none Equal t = sym (get_tied o m q k t) ∙ none
  none_if_tied m k q none Greater t = refl

  pub map_remove_gap : IsAntisymmetric R → (es : List (K × X)) → T (is_sorted R es) → (k : K) (i : ℕ) → IsGap R k es i → from_sorted {R = R} es ≡ map_remove (from_sorted es) k
  map_remove_gap same es s k i h = same_map o same _ _ (λ q. none_if_tied (from_sorted es) k q (map_get_gap es s k i h) (R q k) refl ∙ sym (get-remove o (from_sorted es) k q))

  pub sorted_set_at : (es : List (K × X)) → T (is_sorted R es) → (k : K) (v : X) (i : ℕ) (e : K × X) → e ≡ get_or es i e → IsFound R k es i → T (is_sorted R (set es i (e.0, v)))
  sorted_set_at es s k v i e is h = subst (λ (x : K × X). T (is_sorted R (set es i (x.0, v)))) (sym is) (sorted_set es s k v i e h)

  pub map_set_at : (es : List (K × X)) → T (is_sorted R es) → (k : K) (v : X) (i : ℕ) (e : K × X) → e ≡ get_or es i e → IsFound R k es i → from_sorted {R = R} (set es i (e.0, v)) ≡ map_insert (from_sorted es) k v
  map_set_at es s k v i e is h = subst (λ (x : K × X). from_sorted {R = R} (set es i (x.0, v)) ≡ map_insert (from_sorted es) k v) (sym is) (map_set es s k v i e h)

  -- the length, and the entry at a place
  pub map_len : (es : List (K × X)) → T (is_sorted R es) → len (from_sorted {R = R} es) ≡ length es
  map_len es s = len-entries (from_sorted es) ∙ ap length (entries-from_sorted R es s)

  pub map_at : {B : Type 0} (f : K × X → B) (es : List (K × X)) → T (is_sorted R es) → (i : ℕ) (e : K × X) → i < length es → e ≡ get_or es i e → option_map f (slice_get (entries (from_sorted {R = R} es)) i) ≡ Some (f e)
  map_at f es s i e l is = ap (λ (t : List (K × X)). option_map f (slice_get t i)) (entries-from_sorted R es s) ∙ ap (option_map f) (get_at es i e l is)

-- a map of no entries is the empty map
pub map_none : {K X : Type 0} (R : K → K → Ordering) → from_sorted {K = K} {X = X} {R = R} [] ≡ map_empty
map_none R = empty_of_len _ (len-entries _ ∙ ap length (entries-from_sorted R [] tt))

module _ {K X : Type 0} where
  -- the entry that stands there, written back
  pub set_same : (es : List (K × X)) (i : ℕ) (e : K × X) → e ≡ get_or es i e → set es i e ≡ es
  set_same [] i e is = refl
  set_same (f ∷ es) zero e is = ap (λ x. x ∷ es) is
  set_same (f ∷ es) (suc i) e is = ap (λ t. f ∷ t) (set_same es i e is)
