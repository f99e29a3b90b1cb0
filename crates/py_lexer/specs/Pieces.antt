-- The longest piece of a text at its front: a token, or what stands between tokens (Python reference 2.1, 2.3 to 2.6).
use Rattle.std.specs.Prelude.{ℕ, ◌≤◌, zero, suc, ◌+◌, ◌-◌, Bool, true, false, ◌&&◌, ◌||◌, if◌then◌else◌, ◌==◌, nat_lt, [], ◌∷◌, length, take, drop, Option, Some, None}
use Rattle.std.specs.Char.{is_ascii_digit}
use Rattle.std.specs.List.{prefix_len}
use Rattle.puya_base.specs.declared.source.Rule.{Rule}
use Rattle.puya_base.specs.declared.source.Rule.TheVariants.{P04, P05}
use Rattle.py_lexer.specs.Bytes.{Text, line_end_len}
use Rattle.py_lexer.specs.Words.{is_name_byte, is_blank, marks, keywords, front_len, is_one_of}
use Rattle.py_lexer.specs.Numbers.{number_value, is_decimal}
use Rattle.py_lexer.specs.Literals.{quotes_len, closing_len, flaw_at, has_prefix}
use Rattle.py_lexer.specs.declared.token.TokenKind.{TokenKind}
use Rattle.py_lexer.specs.declared.token.TokenKind.TheVariants.{Name, Keyword, Number, Str, BytesLit, Mark, Newline, Indent, Dedent, End}
use Rattle.py_lexer.specs.declared.pieces.What.{What}
use Rattle.py_lexer.specs.declared.pieces.What.TheVariants.{Blanks, Skip, LineEnd, Open, Close, Word, Flawed, Wrong}
use Rattle.py_lexer.specs.declared.pieces.Piece.{Piece}

abbrev pub word : TokenKind → ℕ → Piece
word kind n = record { what = Word kind; len = n }

abbrev pub wrong : Rule → Piece
wrong rule = record { what = Wrong rule; len = 1 }

abbrev pub skip : ℕ → Piece
skip n = record { what = Skip; len = n }

-- how far into a piece its flaw stands
abbrev pub flaw_of : What → ℕ
flaw_of Blanks = 0
flaw_of Skip = 0
flaw_of LineEnd = 0
flaw_of Open = 0
flaw_of Close = 0
flaw_of (Word kind) = 0
flaw_of (Flawed kind flaw) = flaw
flaw_of (Wrong rule) = 0

-- a piece has bytes, and all of them in the text
abbrev pub FitsIn : Piece → Text → Type 0
FitsIn p z = (1 ≤ p.len) × (p.len ≤ length z) × (flaw_of p.what ≤ p.len)

-- the number of bytes up to the next line end
abbrev pub comment_len : Text → ℕ
comment_len [] = 0
comment_len (b ∷ z) = if line_end_len (b ∷ z) == 0 then suc (comment_len z) else 0

-- a backslash joins the next line where a line end follows
abbrev pub join_piece : Text → Piece
join_piece z = if line_end_len (drop 1 z) == 0 then wrong P04 else skip (1 + line_end_len (drop 1 z))

abbrev pub is_bytes : TokenKind → Bool
is_bytes BytesLit = true
is_bytes Name = false
is_bytes Keyword = false
is_bytes Number = false
is_bytes Str = false
is_bytes Mark = false
is_bytes Newline = false
is_bytes Indent = false
is_bytes Dedent = false
is_bytes End = false

-- a closed literal, whose contents begin behind so many bytes
abbrev pub closed_literal : TokenKind → ℕ → Text → ℕ → Piece
closed_literal kind opening z n =
    if nat_lt (flaw_at (is_bytes kind) z) (length z) then record { what = Flawed kind (opening + flaw_at (is_bytes kind) z); len = n } else word kind n

abbrev pub literal_by : TokenKind → ℕ → Text → Text → Option ℕ → Piece
literal_by kind opening quotes rest None = wrong P04
literal_by kind opening quotes rest (Some closed) = closed_literal kind opening (take (closed - length quotes) rest) (opening + closed)

-- a literal whose quotes begin behind a prefix of so many bytes
abbrev pub literal_piece : TokenKind → ℕ → Text → Piece
literal_piece kind prefix z =
    let quotes = take (quotes_len (drop prefix z)) (drop prefix z) in
    let opening = prefix + quotes_len (drop prefix z) in
    literal_by kind opening quotes (drop opening z) (closing_len quotes (drop opening z))

-- A run of so many letters, digits and _ that begins with no digit: a name, a keyword, or a bytes literal's prefix; any other
-- name right before a quote is no token.
abbrev pub name_piece : ℕ → Text → Piece
name_piece n z =
    if is_one_of keywords (take n z) then word Keyword n
    else if quotes_len (drop n z) == 0 then word Name n
    else if n == 1 && has_prefix z then literal_piece BytesLit 1 z
    else wrong P04

abbrev pub is_none : Option ℕ → Bool
is_none None = true
is_none (Some n) = false

abbrev pub begins_point : Text → Bool
begins_point [] = false
begins_point (b ∷ z) = b == 46

-- a run of so many that begins with a digit: a number, where it is one and no point makes it a float
abbrev pub number_piece : ℕ → Text → Piece
number_piece n z =
    if begins_point (drop n z) && is_decimal (take n z) || is_none (number_value (take n z)) then wrong P05 else word Number n

abbrev pub mark_by : ℕ → Piece
mark_by zero = wrong P04
mark_by (suc n) = word Mark (suc n)

abbrev pub begins_digit : Text → Bool
begins_digit [] = false
begins_digit (b ∷ z) = is_ascii_digit b

-- a mark; a point right before a digit begins a float
abbrev pub mark_piece : Text → Piece
mark_piece [] = wrong P04
mark_piece (b ∷ z) =
    if b == 46 && begins_digit z then wrong P05
    else if b == 40 || b == 91 then record { what = Open; len = 1 }
    else if b == 41 || b == 93 then record { what = Close; len = 1 }
    else mark_by (front_len marks (b ∷ z))

abbrev pub other_piece : Text → Piece
other_piece [] = wrong P04
other_piece (b ∷ z) = if b == 35 then skip (comment_len (b ∷ z)) else if b == 92 then join_piece (b ∷ z) else mark_piece (b ∷ z)

-- a piece of a line that is no blank
abbrev pub line_piece : Text → Piece
line_piece [] = wrong P04
line_piece (b ∷ z) =
    let run = prefix_len is_name_byte (b ∷ z) in
    if nat_lt 0 run then (if is_ascii_digit b then number_piece run (b ∷ z) else name_piece run (b ∷ z))
    else if quotes_len (b ∷ z) == 0 then other_piece (b ∷ z)
    else literal_piece Str 0 (b ∷ z)

-- the longest piece at the front of a text
abbrev pub piece_at : Text → Piece
piece_at z =
    if nat_lt 0 (prefix_len is_blank z) then record { what = Blanks; len = prefix_len is_blank z }
    else if nat_lt 0 (line_end_len z) then record { what = LineEnd; len = line_end_len z }
    else line_piece z
