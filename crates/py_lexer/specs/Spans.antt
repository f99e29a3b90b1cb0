-- Where tokens stand: in order, each at the place of its first byte, and the end last.
use Rattle.std.specs.Prelude.{◌≡◌, ℕ, ◌≤◌, List, [], ◌∷◌}
use Rattle.py_lexer.specs.declared.token.TokenKind.TheVariants.{End}
use Rattle.py_lexer.specs.declared.token.Token.{Token}
use Rattle.py_lexer.specs.Bytes.{Text}
use Rattle.py_lexer.specs.Scan.{place_of}

-- tokens stand one behind the other between two bytes of the source, and each is the slice between its start and its end
abbrev pub InOrder : ℕ → ℕ → List Token → Type 0
InOrder from end [] = from ≤ end
InOrder from end (t ∷ ts) = (from ≤ t.start) × (t.start ≤ t.end) × InOrder t.end end ts

-- each token of a source stands at the place of its first byte, counted from behind so many bytes
abbrev pub InPlace : ℕ → Text → List Token → Type 0
InPlace begin source [] = Unit {0}
InPlace begin source (t ∷ ts) = (t.place ≡ place_of begin source t.start) × InPlace begin source ts

-- End stands last, and only there
abbrev pub EndsOnce : List Token → Type 0
EndsOnce [] = ⊥
EndsOnce (t ∷ []) = t.kind ≡ End
EndsOnce (t ∷ u ∷ ts) = (t.kind ≡ End → ⊥) × EndsOnce (u ∷ ts)
