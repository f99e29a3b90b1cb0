-- The names of parameters, as they are seen one after the other.
use Rattle.std.proofs.Common.{◌≡◌, ℕ, List, [], ◌∷◌, Bool, true, false, refl, ap, ◌∙◌}
use Rattle.std.specs.Prelude.{if◌then◌else◌, bytes_eq}
use Rattle.py_grammar.specs.declared.word.Word.{Word}
use Rattle.source_names.specs.Lookups.{is_seen, with_name}
use Rattle.statement_check.specs.Noting.{with_names}
use Rattle.statement_check.specs.Targets.{first_ones}
use Rattle.statement_check.proofs.Seeing.{first_alike, seen_with}

abbrev either : Bool → Bool → Bool
either b c = if b then true else c

either_first : (a b c : Bool) → either a (either b c) ≡ either (either b a) c
either_first true true c = refl
either_first true false c = refl
either_first false true c = refl
either_first false false c = refl

either_none : (a : Bool) → either a false ≡ a
either_none true = refl
either_none false = refl

seen_names : (n : List ℕ) (s ns : List (List ℕ)) → is_seen n (with_names s ns) ≡ either (is_seen n ns) (is_seen n s)
seen_names n s [] = refl
seen_names n s (m ∷ ms) =
    seen_names n (with_name s m) ms
    ∙ ap (either (is_seen n ms)) (seen_with n s m)
    ∙ either_first (is_seen n ms) (bytes_eq m n) (is_seen n s)

-- names that are noted one after the other are seen as the list of them
pub first_with_names : (inside : Bool) (s ns : List (List ℕ)) (ws : List Word) → s ≡ with_names [] ns → first_ones inside s ws ≡ first_ones inside ns ws
first_with_names inside s ns ws h =
    ap (λ z. first_ones inside z ws) h
    ∙ first_alike inside (with_names [] ns) ns ws (record { at = λ n. seen_names n [] ns ∙ either_none (is_seen n ns) })
