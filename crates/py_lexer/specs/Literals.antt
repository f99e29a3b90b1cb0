-- String and bytes literals: where they close, and what they stand for (Python reference 2.4.1; Unicode, chapter 3: UTF-8).
use Rattle.std.specs.Prelude.{ℕ, zero, suc, ◌+◌, ◌-◌, ◌*◌, ◌/◌, ◌%◌, Bool, true, false, not, ◌&&◌, ◌||◌, if◌then◌else◌, ◌==◌, nat_le, nat_lt, [], ◌∷◌, ◌++◌, length, take, drop, Option, Some, None}
use Rattle.std.specs.List.{starts_with}
use Rattle.std.proofs.Common.{eqb}
use Rattle.py_lexer.specs.Bytes.{Text}
use Rattle.py_lexer.specs.Numbers.{digit_value}
use Rattle.py_lexer.specs.declared.literals.Character.{Character}
use Rattle.py_lexer.specs.declared.literals.Character.TheVariants.{One, Two}

abbrev pub is_quote : ℕ → Bool
is_quote b = b == 39 || b == 34

-- the length of the opening quotes at the front: three alike, or one; or 0
abbrev pub quotes_len : Text → ℕ
quotes_len [] = 0
quotes_len (a ∷ []) = if is_quote a then 1 else 0
quotes_len (a ∷ b ∷ []) = if is_quote a then 1 else 0
quotes_len (a ∷ b ∷ c ∷ z) = if is_quote a then (if a == b && a == c then 3 else 1) else 0

abbrev pub one_more : Option ℕ → Option ℕ
one_more None = None
one_more (Some n) = Some (suc n)

-- The length of a text up to and with its closing quotes. A single quote closes within its line; a backslash takes the byte
-- behind it with it, and the flag says that one stands right before.
abbrev pub closing_from : Text → Bool → Text → Option ℕ
closing_from quotes escaped [] = None
closing_from quotes escaped (b ∷ z) =
    if b == 10 && length quotes == 1 then None
    else if not escaped && starts_with eqb (b ∷ z) quotes then Some (length quotes)
    else one_more (closing_from quotes (not escaped && b == 92) z)

abbrev pub closing_len : Text → Text → Option ℕ
closing_len quotes z = closing_from quotes false z

-- the character of a number below 256, in UTF-8
abbrev pub in_utf8 : ℕ → ℕ → Character
in_utf8 len code = if nat_lt code 128 then One len code else Two len (192 + code / 64) (128 + code % 64)

abbrev pub pair : Option ℕ → Option ℕ → Option ℕ
pair (Some high) (Some low) = Some (high * 16 + low)
pair (Some high) None = None
pair None low = None

-- the number that two hexadecimal digits write
abbrev pub hex_pair : ℕ → ℕ → Option ℕ
hex_pair high low = pair (digit_value high) (digit_value low)

abbrev pub numbered_by : Bool → Option ℕ → Option Character
numbered_by bytes None = None
numbered_by bytes (Some code) = Some (if bytes then One 4 code else in_utf8 4 code)

-- \xHH: a byte in a bytes literal, the character with this number in a text
abbrev pub numbered : Bool → ℕ → ℕ → Option Character
numbered bytes high low = numbered_by bytes (hex_pair high low)

-- \xHH by the bytes behind the x
abbrev pub hex_escape : Bool → Text → Option Character
hex_escape bytes [] = None
hex_escape bytes (high ∷ []) = None
hex_escape bytes (high ∷ low ∷ z) = numbered bytes high low

-- an escape by the bytes behind the backslash
abbrev pub escape : Bool → Text → Option Character
escape bytes [] = None
escape bytes (b ∷ z) =
    if b == 110 then Some (One 2 10)
    else if b == 114 then Some (One 2 13)
    else if b == 116 then Some (One 2 9)
    else if b == 120 then hex_escape bytes z
    else if b == 92 || b == 39 || b == 34 then Some (One 2 b)
    else None

abbrev pub begins_line_feed : Text → Bool
begins_line_feed [] = false
begins_line_feed (b ∷ z) = b == 10

-- The character at the front of a literal's contents: an escape, a line end, which is LF, or a byte; in a bytes literal ASCII.
abbrev pub character_at : Bool → Text → Option Character
character_at bytes [] = None
character_at bytes (b ∷ z) =
    if b == 92 then escape bytes z
    else if b == 13 && begins_line_feed z then Some (One 2 10)
    else if bytes && nat_le 128 b then None
    else Some (One 1 b)

abbrev pub character_len : Character → ℕ
character_len (One len b) = len
character_len (Two len b c) = len

abbrev pub character_bytes : Character → Text
character_bytes (One len b) = b ∷ []
character_bytes (Two len b c) = b ∷ c ∷ []

-- What contents stand for, and whether they are characters to their end; of the first character so many bytes are behind us.
abbrev pub read_from : Bool → ℕ → Text → Text × Bool
read_from bytes left [] = ([], true)
read_from bytes (suc left) (b ∷ z) = read_from bytes left z
read_from bytes zero (b ∷ z) =
    elim (character_at bytes (b ∷ z)) [ None ↦ ([], false) | Some u ↦ (character_bytes u ++ (read_from bytes (character_len u - 1) z).0, (read_from bytes (character_len u - 1) z).1) ]

-- the place of the first byte of contents at which no character stands, or the length
abbrev pub flaw_from : Bool → ℕ → Text → ℕ
flaw_from bytes left [] = 0
flaw_from bytes (suc left) (b ∷ z) = suc (flaw_from bytes left z)
flaw_from bytes zero (b ∷ z) = elim (character_at bytes (b ∷ z)) [ None ↦ 0 | Some u ↦ suc (flaw_from bytes (character_len u - 1) z) ]

abbrev pub flaw_at : Bool → Text → ℕ
flaw_at bytes z = flaw_from bytes 0 z

-- the prefix of a bytes literal
abbrev pub has_prefix : Text → Bool
has_prefix [] = false
has_prefix (b ∷ z) = b == 98 || b == 66

-- what stands between the quotes of a literal without a prefix
abbrev pub contents : Text → Text
contents z = take (length z - quotes_len z - quotes_len z) (drop (quotes_len z) z)

-- what a literal's text stands for, and whether it holds characters alone
abbrev pub literal_value : Text → Text × Bool
literal_value z = if has_prefix z then read_from true 0 (contents (drop 1 z)) else read_from false 0 (contents z)
