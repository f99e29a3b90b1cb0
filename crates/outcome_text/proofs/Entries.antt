-- Lines of the entries of a map, one entry after another.
use Rattle.std.proofs.Common.{◌≡◌, ℕ, zero, suc, ◌+◌, ◌≤◌, ◌<◌, List, [], ◌∷◌, ◌++◌, length, take, slice_get, option_map, Some, sym, ap, subst, ◌∙◌, arith}
use Rattle.std.specs.List.{flat_map}
use Rattle.std.proofs.lemmas.List.{take_all, append_assoc, append-nil}

same_some : {X : Type 0} (a b : X) → Some a ≡ Some b → a ≡ b
same_some a b e = cc

-- lines of the entries up to one and with it
with_entry : {X : Type 0} (f : X → List ℕ) (xs : List X) (i : ℕ) (e : X) → slice_get xs i ≡ Some e
    → flat_map f (take (suc i) xs) ≡ flat_map f (take i xs) ++ f e
with_entry f [] i e found = absurd (cc found)
with_entry f (x ∷ xs) zero e found = append-nil (f x) ∙ ap f (same_some x e found)
with_entry f (x ∷ xs) (suc i) e found =
    ap (λ t. f x ++ t) (with_entry f xs i e found) ∙ sym (append_assoc (f x) (flat_map f (take i xs)) (f e))

next_is : (i : ℕ) → suc i ≡ i + 1
next_is i = omega arith

-- a text that has the lines of the entries up to one, and then that one's
pub one_more : {X : Type 0} (f : X → List ℕ) (xs : List X) (i : ℕ) (e : X) (before text new : List ℕ) → slice_get xs i ≡ Some e
    → text ≡ before ++ flat_map f (take i xs) → new ≡ text ++ f e → new ≡ before ++ flat_map f (take (i + 1) xs)
one_more f xs i e before text new found is next = subst (λ k. new ≡ before ++ flat_map f (take k xs)) (next_is i)
    (next ∙ ap (λ t. t ++ f e) is ∙ append_assoc before (flat_map f (take i xs)) (f e) ∙ ap (λ t. before ++ t) (sym (with_entry f xs i e found)))

-- a text that has the lines of all entries
pub all_of : {X : Type 0} (f : X → List ℕ) (xs : List X) (i : ℕ) (before text : List ℕ) → length xs ≤ i
    → text ≡ before ++ flat_map f (take i xs) → text ≡ before ++ flat_map f xs
all_of f xs i before text last is = is ∙ ap (λ t. before ++ flat_map f t) (take_all i xs last)

-- an entry by its key and its value
pub entry_of : {K X : Type 0} (xs : List (K × X)) (i : ℕ) (k : K) (x : X) → option_map (λ e. e.0) (slice_get xs i) ≡ Some k
    → option_map (λ e. e.1) (slice_get xs i) ≡ Some x → slice_get xs i ≡ Some (k, x)
entry_of [] i k x key value = absurd (cc key)
entry_of (e ∷ xs) zero k x key value =
    ap Some (λ i. (same_some e.0 k key i, same_some e.1 x value i))
entry_of (e ∷ xs) (suc i) k x key value = entry_of xs i k x key value

-- an entry by an account, a key of its own and its value
pub entry_of_account : {K L X : Type 0} (xs : List ((K × L) × X)) (i : ℕ) (k : K) (l : L) (x : X) → option_map (λ e. e.0.0) (slice_get xs i) ≡ Some k
    → option_map (λ e. e.0.1) (slice_get xs i) ≡ Some l → option_map (λ e. e.1) (slice_get xs i) ≡ Some x → slice_get xs i ≡ Some ((k, l), x)
entry_of_account [] i k l x account key value = absurd (cc account)
entry_of_account (e ∷ xs) zero k l x account key value =
    ap Some (λ i. ((same_some e.0.0 k account i, same_some e.0.1 l key i), same_some e.1 x value i))
entry_of_account (e ∷ xs) (suc i) k l x account key value = entry_of_account xs i k l x account key value
