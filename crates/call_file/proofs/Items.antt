-- Walks over the items of a list.
use Rattle.std.proofs.Common.{ℕ, suc, ◌+◌, ◌-◌, ◌<◌, ◌≤◌, ◌≡◌, Bool, true, false, cond, List, [], ◌∷◌, ◌++◌, length, map, drop, get_or, Option, Some, None, option_map, refl, sym, ap, ◌∙◌, append_assoc, arith, add-one}
use Rattle.std.specs.Prelude.{option_and_then, nat_le}
use Rattle.std.proofs.Math.Seq.{drop-cons}
use Rattle.std.proofs.lemmas.Bool.Decides.{nat_tests}
use Rattle.serde_json.specs.Data.{Data}
use Rattle.serde_json.specs.Find.{as_array}
use Rattle.serde_json.specs.View.{view, items_of, items_view}
use Rattle.serde_json.specs.declared.value.Value.{Value}
use Rattle.avm_state.specs.Steps.{total_length}
use Rattle.avm_state.specs.LedgerState.{LedgerState}
use Rattle.call_file.specs.Forms.{kept, list_of, items_within, before, each, two, three, pair, triple}
use Rattle.call_file.specs.Loads.{load}

list_of_items : (ds : List Data) → list_of (items_of ds) ≡ ds
list_of_items [] = refl
list_of_items (d ∷ ds) = ap (λ (x : List Data). d ∷ x) (list_of_items ds)

-- an array's items
pub array_list : (d : Data) (vs : List Value) → as_array d ≡ Some (items_view vs) → option_map list_of (as_array d) ≡ Some (map view vs)
array_list d vs e = ap (option_map list_of) e ∙ ap Some (list_of_items (map view vs))

length_map : {A B : Type 0} (f : A → B) (xs : List A) → length (map f xs) ≡ length xs
length_map f [] = refl
length_map f (x ∷ xs) = let h = length_map f xs in omega arith

pub few_items : (most : ℕ) (d : Data) (vs : List Value) → as_array d ≡ Some (items_view vs) → length vs ≤ most → items_within most d ≡ Some (map view vs)
few_items most d vs e h =
    let size = length_map view vs in
    let t : nat_le (length (map view vs)) most ≡ true = grind (arith, nat_tests) in
    ap (kept (λ ds. nat_le (length ds) most)) (array_list d vs e) ∙ ap (λ (b : Bool). cond b (Some (map view vs)) None) t

pub many_items : (most : ℕ) (d : Data) (vs : List Value) → as_array d ≡ Some (items_view vs) → most < length vs → items_within most d ≡ None
many_items most d vs e h =
    let size = length_map view vs in
    let t : nat_le (length (map view vs)) most ≡ false = grind (arith, nat_tests) in
    ap (kept (λ ds. nat_le (length ds) most)) (array_list d vs e) ∙ ap (λ (b : Bool). cond b (Some (map view vs)) None) t

drop_more : {A : Type 0} (xs : List A) (i : ℕ) (x : A) → i < length xs → x ≡ get_or xs i x → drop i xs ≡ x ∷ drop (i + 1) xs
drop_more {A} xs i x h e = rw add-one (drop-cons xs i x h ∙ ap (λ (y : A). y ∷ drop (suc i) xs) (sym e))

-- the items of a walk from a place on
pub from_place : (vs : List Value) (i : ℕ) (v : Value) → i < length vs → v ≡ get_or vs i v → map view (drop i vs) ≡ view v ∷ map view (drop (i + 1) vs)
from_place vs i v h e = ap (map view) (drop_more vs i v h e)

pub each_more : {A : Type 0} (reads : Data → Option A) (list : List A) (d : Data) (ds : List Data) (a : A) → reads d ≡ Some a → option_map (λ rest. list ++ rest) (each reads (d ∷ ds)) ≡ option_map (λ rest. (list ++ a ∷ []) ++ rest) (each reads ds)
each_more {A} reads list d ds a e = ap (λ (o : Option A). option_map (λ rest. list ++ rest) (option_and_then (before (each reads ds)) o)) e ∙ inside (each reads ds)
  where
    inside : (o : Option (List A)) → option_map (λ rest. list ++ rest) (before o a) ≡ option_map (λ rest. (list ++ a ∷ []) ++ rest) o
    inside None = refl
    inside (Some rest) = ap Some (sym (append_assoc list (a ∷ []) rest))

pub each_none : {A : Type 0} (reads : Data → Option A) (list : List A) (d : Data) (ds : List Data) → reads d ≡ None → option_map (λ rest. list ++ rest) (each reads (d ∷ ds)) ≡ None
each_none {A} reads list d ds e = ap (λ (o : Option A). option_map (λ rest. list ++ rest) (option_and_then (before (each reads ds)) o)) e

pub load_more : (put : LedgerState → Data → Option LedgerState) (old : LedgerState) (d : Data) (ds : List Data) (new : LedgerState) → put old d ≡ Some new → load put old (d ∷ ds) ≡ load put new ds
load_more put old d ds new e = ap (option_and_then (λ l. load put l ds)) e

pub load_none : (put : LedgerState → Data → Option LedgerState) (old : LedgerState) (d : Data) (ds : List Data) → put old d ≡ None → load put old (d ∷ ds) ≡ None
load_none put old d ds e = ap (option_and_then (λ l. load put l ds)) e

two_other : (ds : List Data) → (length ds ≡ 2 → ⊥) → two ds ≡ None
two_other [] h = refl
two_other (a ∷ []) h = refl
two_other (a ∷ b ∷ []) h = absurd (h refl)
two_other (a ∷ b ∷ c ∷ ds) h = refl

three_other : (ds : List Data) → (length ds ≡ 3 → ⊥) → three ds ≡ None
three_other [] h = refl
three_other (a ∷ []) h = refl
three_other (a ∷ b ∷ []) h = refl
three_other (a ∷ b ∷ c ∷ []) h = absurd (h refl)
three_other (a ∷ b ∷ c ∷ d ∷ ds) h = refl

pub no_pair : (d : Data) (vs : List Value) → as_array d ≡ Some (items_view vs) → (length vs ≡ 2 → ⊥) → pair d ≡ None
no_pair d vs e h = let size = length_map view vs in ap (option_and_then two) (array_list d vs e) ∙ two_other (map view vs) (λ s. h (omega arith))

pub no_triple : (d : Data) (vs : List Value) → as_array d ≡ Some (items_view vs) → (length vs ≡ 3 → ⊥) → triple d ≡ None
no_triple d vs e h = let size = length_map view vs in ap (option_and_then three) (array_list d vs e) ∙ three_other (map view vs) (λ s. h (omega arith))

pub total_more : (xs : List (List ℕ)) (i : ℕ) (x : List ℕ) (left : ℕ) → i < length xs → x ≡ get_or xs i x → length x ≤ left → nat_le (total_length (drop i xs)) left ≡ nat_le (total_length (drop (i + 1) xs)) (left - length x)
total_more xs i x left h e fits = ap (λ (l : List (List ℕ)). nat_le (total_length l) left) (drop_more xs i x h e) ∙ less (length x) (total_length (drop (i + 1) xs)) left fits
  where
    less : (a b n : ℕ) → a ≤ n → nat_le (a + b) n ≡ nat_le b (n - a)
    less a b n h = grind (arith, nat_tests)

pub total_over : (xs : List (List ℕ)) (i : ℕ) (x : List ℕ) (left : ℕ) → i < length xs → x ≡ get_or xs i x → left < length x → nat_le (total_length (drop i xs)) left ≡ false
total_over xs i x left h e over = ap (λ (l : List (List ℕ)). nat_le (total_length l) left) (drop_more xs i x h e) ∙ more (length x) (total_length (drop (i + 1) xs)) left over
  where
    more : (a b n : ℕ) → n < a → nat_le (a + b) n ≡ false
    more a b n h = grind (arith, nat_tests)
