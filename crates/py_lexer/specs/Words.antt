-- Blanks, names, keywords and marks (Python reference 2.1.9, 2.3, 2.3.1, 2.5, 2.6; ASCII alone).
use Rattle.std.specs.Prelude.{ℕ, Bool, true, false, ◌||◌, if◌then◌else◌, ◌==◌, List, [], ◌∷◌, length, map}
use Rattle.std.specs.Char.{is_ascii_alphanumeric}
use Rattle.std.specs.List.{starts_with}
use Rattle.std.specs.Str.{bytes_eq}
use Rattle.std.proofs.Common.{eqb}
use Rattle.py_lexer.specs.Bytes.{Text}
use Rattle.py_lexer.specs.declared.words.TheConstants.{MARKS, KEYWORDS}

-- a letter, a digit or _
abbrev pub is_name_byte : ℕ → Bool
is_name_byte b = is_ascii_alphanumeric b || b == 95

abbrev pub is_space : ℕ → Bool
is_space b = b == 32

-- a space or a tab
abbrev pub is_blank : ℕ → Bool
is_blank b = b == 32 || b == 9

unfoldable pub marks : List Text
marks = map (λ m. m.now) MARKS

unfoldable pub keywords : List Text
keywords = map (λ m. m.now) KEYWORDS

-- the length of the first text of a table that the text begins with, or 0
abbrev pub front_len : List Text → Text → ℕ
front_len [] z = 0
front_len (m ∷ ms) z = if starts_with eqb z m then length m else front_len ms z

-- the text is one of a table
abbrev pub is_one_of : List Text → Text → Bool
is_one_of [] t = false
is_one_of (m ∷ ms) t = if bytes_eq m t then true else is_one_of ms t
