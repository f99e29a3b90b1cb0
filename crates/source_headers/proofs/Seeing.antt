-- Names that were seen, as a set keeps them.
use Rattle.std.proofs.Common.{◌≡◌, ℕ, ◌-◌, ◌≤◌, length, take, drop, get_or, List, [], ◌∷◌, ◌++◌, Bool, true, false, refl, sym, ap, ◌∙◌, append_assoc}
use Rattle.std.specs.Prelude.{bytes_eq, if◌then◌else◌}
use Rattle.std.proofs.lemmas.Slice.Eq.{bytes_eq-Decides}
use Rattle.puya_base.specs.declared.source.Rule.TheVariants as rule
use Rattle.puya_base.specs.declared.source.Refusal.{Refusal}
use Rattle.py_grammar.specs.declared.word.Word.{Word}
use Rattle.source_names.specs.Faults.{breaks}
use Rattle.source_names.specs.Lookups.{is_seen, with_name}
use Rattle.source_headers.specs.Headers.{again, twice}
use Rattle.source_headers.proofs.Behind.{first_and_behind}

seen_last : (s : List ℕ) (seen : List (List ℕ)) (m n : List ℕ) (v w : Bool) → bytes_eq s n ≡ v → bytes_eq m n ≡ w
    → is_seen n (seen ++ m ∷ []) ≡ (if bytes_eq m n then true else is_seen n seen)
    → is_seen n ((s ∷ seen) ++ m ∷ []) ≡ (if bytes_eq m n then true else is_seen n (s ∷ seen))
seen_last s seen m n true true t u rest = rw (t, u) refl
seen_last s seen m n true false t u rest = rw (t, u) refl
seen_last s seen m n false true t u rest = rw t rest
seen_last s seen m n false false t u rest = rw t rest

is_seen-append : (seen : List (List ℕ)) (m n : List ℕ) → is_seen n (seen ++ m ∷ []) ≡ (if bytes_eq m n then true else is_seen n seen)
is_seen-append [] m n = refl
is_seen-append (s ∷ seen) m n = seen_last s seen m n (bytes_eq s n) (bytes_eq m n) refl refl (is_seen-append seen m n)

old_name : (seen : List (List ℕ)) (m n : List ℕ) (v : Bool) → bytes_eq m n ≡ v → is_seen m seen ≡ true → is_seen n seen ≡ (if bytes_eq m n then true else is_seen n seen)
old_name seen m n true t h = rw t (ap (λ z. is_seen z seen) (sym ((bytes_eq-Decides m n).0 t)) ∙ h)
old_name seen m n false t h = rw t refl

with_by : (seen : List (List ℕ)) (m n : List ℕ) (v : Bool) → is_seen m seen ≡ v → is_seen n (with_name seen m) ≡ is_seen n (m ∷ seen)
unfolding with_name
with_by seen m n true t = rw t (old_name seen m n (bytes_eq m n) refl t)
with_by seen m n false t = rw t (is_seen-append seen m n)

-- a set keeps each name once, and tells the same of every name
pub seen_with : (seen : List (List ℕ)) (m n : List ℕ) → is_seen n (with_name seen m) ≡ is_seen n (m ∷ seen)
seen_with seen m n = with_by seen m n (is_seen m seen) refl

twice_same : (a b : List (List ℕ)) (ws : List Word) → ((n : List ℕ) → is_seen n a ≡ is_seen n b) → twice a ws ≡ twice b ws
twice_same a b [] h = refl
twice_same a b (w ∷ ws) h =
    rw (h w.name) (ap (λ t. (if is_seen w.name b then breaks rule.P10 w.place else []) ++ t) (twice_same (w.name ∷ a) (w.name ∷ b) ws (λ n. ap (λ r. if bytes_eq w.name n then true else r) (h n))))

-- the names of a row one after the other
pub again-twice : (seen : List (List ℕ)) (w : Word) (ws : List Word) → again seen w.name w.place ++ twice (with_name seen w.name) ws ≡ twice seen (w ∷ ws)
unfolding again
again-twice seen w ws = ap (λ t. again seen w.name w.place ++ t) (twice_same (with_name seen w.name) (w.name ∷ seen) ws (seen_with seen w.name))

-- what was told, the first name, and then the names behind it
pub told_again : (told : List Refusal) (seen : List (List ℕ)) (w : Word) (ws : List Word)
    → (told ++ again seen w.name w.place) ++ twice (with_name seen w.name) ws ≡ told ++ twice seen (w ∷ ws)
told_again told seen w ws = append_assoc told (again seen w.name w.place) (twice (with_name seen w.name) ws) ∙ ap (λ z. told ++ z) (again-twice seen w ws)

-- a name among others, and then those behind it
pub twice_behind : {A : Type 0} (names : List A → List Word) (xs : List A) (x : A) (w : Word) (told more all : List Refusal) (seen seen' : List (List ℕ))
    → x ≡ get_or xs 0 x → 1 ≤ length xs → ((ys : List A) → w ∷ names ys ≡ names (x ∷ ys))
    → more ≡ told ++ again seen w.name w.place → seen' ≡ with_name seen w.name
    → told ++ twice seen (names xs) ≡ all → more ++ twice seen' (names (take (length xs - 1) (drop 1 xs))) ≡ all
twice_behind names xs x w told more all seen seen' is low cons d e h =
    let ys = take (length xs - 1) (drop 1 xs) in
    ap (λ z. z ++ twice seen' (names ys)) d
    ∙ ap (λ z. (told ++ again seen w.name w.place) ++ twice z (names ys)) e
    ∙ told_again told seen w (names ys)
    ∙ ap (λ z. told ++ twice seen z) (cons ys)
    ∙ ap (λ zs. told ++ twice seen (names zs)) (sym (first_and_behind xs x is low))
    ∙ h
