-- Words are longest: where the text reads in two ways, a token is the longest string that makes one, read from left to right
-- (Python reference, chapter 2, Lexical analysis).
use Rattle.std.specs.Prelude.{◌≡◌, ℕ, ◌≤◌, ◌<◌, Bool, true, false, ◌&&◌, length, take, drop}
use Rattle.std.specs.List.{list_all}
use Rattle.py_lexer.specs.Bytes.{Text}
use Rattle.py_lexer.specs.Words.{is_name_byte, marks, keywords, is_one_of}
use Rattle.py_lexer.specs.Numbers.{number_value, is_decimal}
use Rattle.py_lexer.specs.Pieces.{begins_digit, begins_point, is_none, piece_at}
use Rattle.py_lexer.specs.Lines.{is_token, kind_of}
use Rattle.py_lexer.specs.declared.token.TokenKind.{TokenKind}
use Rattle.py_lexer.specs.declared.token.TokenKind.TheVariants.{Name, Keyword, Number, Str, BytesLit, Mark, Newline, Indent, Dedent, End}

-- some letters, digits and _
abbrev pub IsRun : Text → Type 0
IsRun t = (1 ≤ length t) × (list_all is_name_byte t ≡ true)

-- the text has the form of a word of the kind: a run that begins with no digit is a name or a keyword, one that begins with a
-- digit is a number's, and the marks and the keywords are listed
abbrev pub IsWord : TokenKind → Text → Type 0
IsWord Name t = IsRun t × (begins_digit t ≡ false) × (is_one_of keywords t ≡ false)
IsWord Keyword t = is_one_of keywords t ≡ true
IsWord Number t = IsRun t × (begins_digit t ≡ true)
IsWord Mark t = is_one_of marks t ≡ true
IsWord Str t = ⊥
IsWord BytesLit t = ⊥
IsWord Newline t = ⊥
IsWord Indent t = ⊥
IsWord Dedent t = ⊥
IsWord End t = ⊥

-- a number has a value, and no point behind a decimal one makes it a float; the text and the rest decide
abbrev pub IsInteger : Text → Text → Type 0
IsInteger t rest = (is_none (number_value t) ≡ false) × ((begins_point rest && is_decimal t) ≡ false)

-- the first so many bytes of a text are a word of the kind, and no longer front of the text is a word
pub record IsLongest (kind : TokenKind) (n : ℕ) (z : Text) : Type 0 where
  pub within : n ≤ length z
  pub word : IsWord kind (take n z)
  pub longest : (other : TokenKind) (m : ℕ) → n < m → m ≤ length z → IsWord other (take m z) → ⊥
  pub integer : kind ≡ Number → IsInteger (take n z) (drop n z)

-- names, keywords, numbers and marks are words; a literal is none
abbrev pub is_word : TokenKind → Bool
is_word Name = true
is_word Keyword = true
is_word Number = true
is_word Mark = true
is_word Str = false
is_word BytesLit = false
is_word Newline = false
is_word Indent = false
is_word Dedent = false
is_word End = false

-- each token that stands at the front of a text as a name, a keyword, a number or a mark is the longest word there
abbrev pub WordsAreLongest : Type 0
WordsAreLongest = (z : Text) → is_token (piece_at z).what ≡ true → is_word (kind_of (piece_at z).what) ≡ true → IsLongest (kind_of (piece_at z).what) (piece_at z).len z
