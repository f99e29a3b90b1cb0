-- The packages that words name.
use Rattle.std.proofs.Common.{◌≡◌, ◌≤◌, List, [], ◌∷◌, length, get_or, refl, ap, ◌∙◌, arith}
use Rattle.std.specs.Prelude.{bytes_eq, codes, if◌then◌else◌}
use Rattle.py_grammar.specs.declared.word.Word.{Word}
use Rattle.source_headers.specs.Modules.{algopy_arc4, another, package_of, package_when}

pub no_word : (ws : List Word) → length ws ≡ 0 → another ≡ package_of ws
no_word [] h = refl
no_word (w ∷ ws) h = cc

pub one_word : (ws : List Word) (w : Word) → w ≡ get_or ws 0 w → length ws ≡ 1
    → package_when (bytes_eq w.name (codes "algopy")) (bytes_eq w.name (codes "typing")) ≡ package_of ws
one_word [] w is h = absurd (omega (arith, h))
one_word (v ∷ []) w is h = ap (λ (x : Word). package_when (bytes_eq x.name (codes "algopy")) (bytes_eq x.name (codes "typing"))) is
one_word (v ∷ u ∷ ws) w is h = absurd (omega (arith, h))

pub two_words : (ws : List Word) (w v : Word) → w ≡ get_or ws 0 w → v ≡ get_or ws 1 v → length ws ≡ 2
    → (if bytes_eq w.name (codes "algopy") then (if bytes_eq v.name (codes "arc4") then algopy_arc4 else another) else another) ≡ package_of ws
two_words [] w v is at h = absurd (omega (arith, h))
two_words (x ∷ []) w v is at h = absurd (omega (arith, h))
two_words (x ∷ y ∷ []) w v is at h =
    ap (λ (z : Word). if bytes_eq z.name (codes "algopy") then (if bytes_eq v.name (codes "arc4") then algopy_arc4 else another) else another) is
    ∙ ap (λ (z : Word). if bytes_eq x.name (codes "algopy") then (if bytes_eq z.name (codes "arc4") then algopy_arc4 else another) else another) at
two_words (x ∷ y ∷ z ∷ ws) w v is at h = absurd (omega (arith, h))

pub more_words : (ws : List Word) → 3 ≤ length ws → another ≡ package_of ws
more_words [] h = absurd (omega (arith, h))
more_words (x ∷ []) h = absurd (omega (arith, h))
more_words (x ∷ y ∷ []) h = absurd (omega (arith, h))
more_words (x ∷ y ∷ z ∷ ws) h = refl
