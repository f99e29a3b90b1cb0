-- Which names are seen: those of targets, one list of them after another.
use Rattle.std.proofs.Common.{◌≡◌, ℕ, List, [], ◌∷◌, ◌++◌, Bool, true, false, map, refl, sym, ap, ◌∙◌, append_assoc}
use Rattle.std.specs.Prelude.{◌&&◌, if◌then◌else◌, bytes_eq}
use Rattle.std.proofs.lemmas.Slice.Eq.{bytes_eq-Decides}
use Rattle.py_grammar.specs.declared.word.Word.{Word}
use Rattle.puya_base.specs.declared.source.Refusal.{Refusal}
use Rattle.source_names.specs.declared.named.Entry.{Entry}
use Rattle.source_headers.specs.Headers.{all_clashes, clashes}
use Rattle.source_names.specs.Lookups.{is_seen}
use Rattle.source_names.specs.Things.{is_myself}
use Rattle.source_names.specs.Lookups.{with_name}
use Rattle.meaning_rules.specs.declared.scope.Local.{Local}
use Rattle.statement_check.specs.Noting.{noted, target_local}
use Rattle.statement_check.specs.Targets.{first_ones}

-- the same names are seen
pub record SeeAlike (s t : List (List ℕ)) : Type 0 where
  pub at : (n : List ℕ) → is_seen n s ≡ is_seen n t

pub alike_itself : (s : List (List ℕ)) → SeeAlike s s
alike_itself s = record { at = λ n. refl }

abbrev with_first : Bool → Bool → Bool
with_first b rest = if b then true else rest

last_by : (n m : List ℕ) (s : List (List ℕ)) (w : List ℕ) (b d : Bool) → bytes_eq m n ≡ d → is_seen n (s ++ w ∷ []) ≡ with_first b (is_seen n s)
    → is_seen n ((m ∷ s) ++ w ∷ []) ≡ with_first b (is_seen n (m ∷ s))
last_by n m s w true true f rest = rw f refl
last_by n m s w false true f rest = rw f refl
last_by n m s w b false f rest = rw f rest

seen_last : (n : List ℕ) (s : List (List ℕ)) (w : List ℕ) → is_seen n (s ++ w ∷ []) ≡ with_first (bytes_eq w n) (is_seen n s)
seen_last n [] w = refl
seen_last n (m ∷ s) w = last_by n m s w (bytes_eq w n) (bytes_eq m n) refl (seen_last n s w)

seen_before : (n w : List ℕ) (s : List (List ℕ)) (b : Bool) → is_seen w s ≡ true → bytes_eq w n ≡ b → is_seen n s ≡ with_first b (is_seen n s)
seen_before n w s true h e = ap (λ m. is_seen m s) (sym ((bytes_eq-Decides w n).0 e)) ∙ h
seen_before n w s false h e = refl

seen_with_by : (n : List ℕ) (s : List (List ℕ)) (w : List ℕ) (d : Bool) → is_seen w s ≡ d → is_seen n (with_name s w) ≡ with_first (bytes_eq w n) (is_seen n s)
unfolding with_name
seen_with_by n s w true h = rw h (seen_before n w s (bytes_eq w n) h refl)
seen_with_by n s w false h = rw h (seen_last n s w)

pub seen_with : (n : List ℕ) (s : List (List ℕ)) (w : List ℕ) → is_seen n (with_name s w) ≡ is_seen n (w ∷ s)
seen_with n s w = seen_with_by n s w (is_seen w s) refl

alike_first : (s t : List (List ℕ)) (w : List ℕ) → SeeAlike s t → SeeAlike (w ∷ s) (w ∷ t)
alike_first s t w h = record { at = λ n. ap (λ z. with_first (bytes_eq w n) z) (h.at n) }

alike_with : (s t : List (List ℕ)) (w : List ℕ) → SeeAlike s t → SeeAlike (with_name s w) (with_name t w)
alike_with s t w h = record { at = λ n. seen_with n s w ∙ ap (λ z. with_first (bytes_eq w n) z) (h.at n) ∙ sym (seen_with n t w) }

front_or_end : (s : List (List ℕ)) (w : List ℕ) → SeeAlike (w ∷ s) (with_name s w)
front_or_end s w = record { at = λ n. sym (seen_with n s w) }

seen_already : (s : List (List ℕ)) (n : List ℕ) → is_seen n s ≡ true → with_name s n ≡ s
unfolding with_name
seen_already s n h = rw h refl

module _ (inside : Bool) where
  first_by : (s t : List (List ℕ)) (w : Word) (ws : List Word) (b d : Bool) → is_seen w.name s ≡ b → is_seen w.name t ≡ b → (inside && is_myself w.name) ≡ d
      → first_ones inside s ws ≡ first_ones inside t ws → first_ones inside (w.name ∷ s) ws ≡ first_ones inside (w.name ∷ t) ws
      → first_ones inside s (w ∷ ws) ≡ first_ones inside t (w ∷ ws)
  first_by s t w ws true d e f g same more = rw (e, f) same
  first_by s t w ws false true e f g same more = rw (e, f, g) same
  first_by s t w ws false false e f g same more = rw (e, f, g) (ap (λ z. w ∷ z) more)

  pub first_alike : (s t : List (List ℕ)) (ws : List Word) → SeeAlike s t → first_ones inside s ws ≡ first_ones inside t ws
  first_alike s t [] h = refl
  first_alike s t (w ∷ ws) h =
      first_by s t w ws (is_seen w.name s) (inside && is_myself w.name) refl (sym (h.at w.name)) refl
      (first_alike s t ws h) (first_alike (w.name ∷ s) (w.name ∷ t) ws (alike_first s t w.name h))

  noted_by : (s t : List (List ℕ)) (w : Word) (ws : List Word) (d : Bool) → (inside && is_myself w.name) ≡ d → SeeAlike (noted inside s ws) (noted inside t ws)
      → SeeAlike (noted inside (with_name s w.name) ws) (noted inside (with_name t w.name) ws) → SeeAlike (noted inside s (w ∷ ws)) (noted inside t (w ∷ ws))
  noted_by s t w ws true g same more = rw g same
  noted_by s t w ws false g same more = rw g more

  noted_alike : (s t : List (List ℕ)) (ws : List Word) → SeeAlike s t → SeeAlike (noted inside s ws) (noted inside t ws)
  noted_alike s t [] h = h
  noted_alike s t (w ∷ ws) h =
      noted_by s t w ws (inside && is_myself w.name) refl (noted_alike s t ws h) (noted_alike (with_name s w.name) (with_name t w.name) ws (alike_with s t w.name h))

  more_by : (s : List (List ℕ)) (w : Word) (xs ys : List Word) (d : Bool) → (inside && is_myself w.name) ≡ d
      → noted inside s (xs ++ ys) ≡ noted inside (noted inside s xs) ys
      → noted inside (with_name s w.name) (xs ++ ys) ≡ noted inside (noted inside (with_name s w.name) xs) ys
      → noted inside s (w ∷ (xs ++ ys)) ≡ noted inside (noted inside s (w ∷ xs)) ys
  more_by s w xs ys true g same more = rw g same
  more_by s w xs ys false g same more = rw g more

  pub noted-append : (s : List (List ℕ)) (xs ys : List Word) → noted inside s (xs ++ ys) ≡ noted inside (noted inside s xs) ys
  noted-append s [] ys = refl
  noted-append s (w ∷ xs) ys = more_by s w xs ys (inside && is_myself w.name) refl (noted-append s xs ys) (noted-append (with_name s w.name) xs ys)

  join_by : (s : List (List ℕ)) (w : Word) (xs ys : List Word) (b d : Bool) → is_seen w.name s ≡ b → (inside && is_myself w.name) ≡ d
      → first_ones inside s (xs ++ ys) ≡ first_ones inside s xs ++ first_ones inside (noted inside s xs) ys
      → first_ones inside (w.name ∷ s) (xs ++ ys) ≡ first_ones inside (w.name ∷ s) xs ++ first_ones inside (noted inside (w.name ∷ s) xs) ys
      → first_ones inside s (w ∷ (xs ++ ys)) ≡ first_ones inside s (w ∷ xs) ++ first_ones inside (noted inside s (w ∷ xs)) ys
  join_by s w xs ys true true e g same more = rw (e, g) same
  join_by s w xs ys true false e g same more = rw (e, g, seen_already s w.name e) same
  join_by s w xs ys false true e g same more = rw (e, g) same
  join_by s w xs ys false false e g same more =
      rw (e, g)
      (ap (λ z. w ∷ z) more
      ∙ ap (λ z. w ∷ (first_ones inside (w.name ∷ s) xs ++ z))
      (first_alike (noted inside (w.name ∷ s) xs) (noted inside (with_name s w.name) xs) ys (noted_alike (w.name ∷ s) (with_name s w.name) xs (front_or_end s w.name))))

  pub first-append : (s : List (List ℕ)) (xs ys : List Word) → first_ones inside s (xs ++ ys) ≡ first_ones inside s xs ++ first_ones inside (noted inside s xs) ys
  first-append s [] ys = refl
  first-append s (w ∷ xs) ys =
      join_by s w xs ys (is_seen w.name s) (inside && is_myself w.name) refl refl (first-append s xs ys) (first-append (w.name ∷ s) xs ys)

clashes-append : (es : List Entry) (xs ys : List Word) → all_clashes es (xs ++ ys) ≡ all_clashes es xs ++ all_clashes es ys
clashes-append es [] ys = refl
clashes-append es (w ∷ xs) ys = ap (λ z. clashes es w ++ z) (clashes-append es xs ys) ∙ sym (append_assoc (clashes es w) (all_clashes es xs) (all_clashes es ys))

locals-append : (xs ys : List Word) → map target_local (xs ++ ys) ≡ map target_local xs ++ map target_local ys
locals-append [] ys = refl
locals-append (w ∷ xs) ys = ap (λ z. target_local w ∷ z) (locals-append xs ys)

-- what is told of targets and then of others, and which variables they are
pub told_then : (inside : Bool) (es : List Entry) (s : List (List ℕ)) (xs ys : List Word) (a b d : List Refusal) → b ≡ a ++ all_clashes es (first_ones inside s xs)
    → d ≡ b ++ all_clashes es (first_ones inside (noted inside s xs) ys) → d ≡ a ++ all_clashes es (first_ones inside s (xs ++ ys))
told_then inside es s xs ys a b d h k =
    k ∙ ap (λ z. z ++ all_clashes es (first_ones inside (noted inside s xs) ys)) h
    ∙ append_assoc a (all_clashes es (first_ones inside s xs)) (all_clashes es (first_ones inside (noted inside s xs) ys))
    ∙ ap (λ z. a ++ z) (sym (ap (all_clashes es) (first-append inside s xs ys) ∙ clashes-append es (first_ones inside s xs) (first_ones inside (noted inside s xs) ys)))

pub locals_then : (inside : Bool) (s : List (List ℕ)) (xs ys : List Word) (a b d : List Local) → b ≡ a ++ map target_local (first_ones inside s xs)
    → d ≡ b ++ map target_local (first_ones inside (noted inside s xs) ys) → d ≡ a ++ map target_local (first_ones inside s (xs ++ ys))
locals_then inside s xs ys a b d h k =
    k ∙ ap (λ z. z ++ map target_local (first_ones inside (noted inside s xs) ys)) h
    ∙ append_assoc a (map target_local (first_ones inside s xs)) (map target_local (first_ones inside (noted inside s xs) ys))
    ∙ ap (λ z. a ++ z) (sym (ap (map target_local) (first-append inside s xs ys) ∙ locals-append (first_ones inside s xs) (first_ones inside (noted inside s xs) ys)))
