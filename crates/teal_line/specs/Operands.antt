-- Immediates as words: numbers, byte strings and labels (TEAL text).
use Rattle.std.specs.Prelude.{ℕ, ℤ, pos, negsuc, neg_ℤ, ◌+◌, ◌-◌, ◌*◌, ◌==◌, ◌||◌, ◌&&◌, nat_le, nat_lt, Bool, false, if◌then◌else◌, List, [], ◌∷◌, ◌++◌, codes, Option, Some, None, option_and_then, option_map, Result, Ok, Err}
use Rattle.std.specs.List.{list_all}
use Rattle.std.specs.Fmt.{decimal}
use Rattle.hex.specs.Hex.{encode_lower, decode_of, hex_digit_value}
use Rattle.hex.specs.declared.error.FromHexError.{FromHexError}

abbrev pub is_between : ℕ → ℕ → ℕ → Bool
is_between low high b = nat_le low b && nat_le b high

abbrev pub is_digit : ℕ → Bool
is_digit b = is_between 48 57 b

-- a letter, a digit or one of `_`, `@`, `.` and `-`
abbrev pub is_label_byte : ℕ → Bool
is_label_byte b =
    is_digit b || is_between 65 90 b || is_between 97 122 b || (b == 95) || (b == 64) || (b == 46) || (b == 45)

abbrev pub is_some_label : List ℕ → Bool
is_some_label [] = false
is_some_label (b ∷ bs) = list_all is_label_byte (b ∷ bs)

-- what stands behind `0x`
abbrev pub behind_0x : List ℕ → Option (List ℕ)
behind_0x [] = None
behind_0x (a ∷ []) = None
behind_0x (a ∷ b ∷ bs) = if (a == 48) && (b == 120) then Some bs else None

abbrev pub decimal_digit : ℕ → Option ℕ
decimal_digit b = if is_digit b then Some (b - 48) else None

-- the value of digits in a base, behind what gave the value so far
abbrev pub value_in : ℕ → (ℕ → Option ℕ) → ℕ → List ℕ → Option ℕ
value_in base digit value [] = Some value
value_in base digit value (b ∷ bs) = option_and_then (λ d. value_in base digit (value * base + d) bs) (digit b)

-- the value of a digit in base 16 or 10
abbrev pub digit_in : ℕ → ℕ → Option ℕ
digit_in base b = if base == 16 then hex_digit_value b else decimal_digit b

-- digits, of which there is one at least
abbrev pub some_value : ℕ → (ℕ → Option ℕ) → List ℕ → Option ℕ
some_value base digit [] = None
some_value base digit (b ∷ bs) = value_in base digit 0 (b ∷ bs)

-- a zero before further digits
abbrev pub is_padded : List ℕ → Bool
is_padded [] = false
is_padded (b ∷ []) = false
is_padded (b ∷ c ∷ bs) = b == 48

-- decimal digits with no leading zero
abbrev pub decimal_value : List ℕ → Option ℕ
decimal_value w = if is_padded w then None else some_value 10 decimal_digit w

-- `0x` and hexadecimal digits, or decimal digits
abbrev pub whole_value : Option (List ℕ) → List ℕ → Option ℕ
whole_value (Some digits) w = some_value 16 hex_digit_value digits
whole_value None w = decimal_value w

abbrev pub below : ℕ → Option ℕ → Option ℕ
below bound None = None
below bound (Some n) = if nat_lt n bound then Some n else None

-- the number that a word says, below a bound
abbrev pub number_said : ℕ → List ℕ → Option ℕ
number_said bound w = below bound (whole_value (behind_0x w) w)

-- a number of 8 bits in two's complement: a `-` may stand before decimal digits
abbrev pub signed_said : List ℕ → Option ℤ
signed_said [] = None
signed_said (b ∷ bs) =
    if b == 45 then option_map (λ n. neg_ℤ (pos n)) (below 129 (decimal_value bs)) else option_map pos (number_said 128 (b ∷ bs))

abbrev pub digits_said : Result (List ℕ) FromHexError → Option (List ℕ)
digits_said (Ok bytes) = Some bytes
digits_said (Err e) = None

-- a byte before the rest
abbrev pub byte_then : Option ℕ → Option (List ℕ) → Option (List ℕ)
byte_then None rest = None
byte_then (Some b) rest = option_map (λ bs. b ∷ bs) rest

-- what stands for a byte behind a backslash, but for `x`
abbrev pub escaped_byte : ℕ → Option ℕ
escaped_byte b =
    if b == 92 then Some 92 else if b == 34 then Some 34 else if b == 110 then Some 10 else if b == 114 then Some 13 else if b == 116 then Some 9 else None

abbrev pub pair_value : Option ℕ → Option ℕ → Option ℕ
pair_value None low = None
pair_value (Some h) None = None
pair_value (Some h) (Some l) = Some (h * 16 + l)

-- nothing stands behind the closing quote
abbrev pub ended : List ℕ → Option (List ℕ)
ended [] = Some []
ended (b ∷ bs) = None

-- the bytes of a quoted text from behind its opening quote, which ends with its closing one
abbrev mutual
  pub unquoted : List ℕ → Option (List ℕ)
  unquoted [] = None
  unquoted (b ∷ bs) = if b == 34 then ended bs else if b == 92 then escaped bs else byte_then (Some b) (unquoted bs)

  -- behind a backslash
  pub escaped : List ℕ → Option (List ℕ)
  escaped [] = None
  escaped (b ∷ bs) = if b == 120 then hex_escaped bs else byte_then (escaped_byte b) (unquoted bs)

  -- behind `\x`: two hexadecimal digits
  pub hex_escaped : List ℕ → Option (List ℕ)
  hex_escaped [] = None
  hex_escaped (h ∷ []) = None
  hex_escaped (h ∷ l ∷ bs) = byte_then (pair_value (hex_digit_value h) (hex_digit_value l)) (unquoted bs)

-- the byte that stands at the front of a quoted text's rest, behind how many bytes it takes there
abbrev pub behind_bytes : ℕ → Option ℕ → Option (ℕ × ℕ)
behind_bytes n None = None
behind_bytes n (Some b) = Some (n, b)

abbrev pub escape_at : List ℕ → Option (ℕ × ℕ)
escape_at [] = None
escape_at (b ∷ []) = if b == 120 then None else behind_bytes 2 (escaped_byte b)
escape_at (b ∷ h ∷ []) = if b == 120 then None else behind_bytes 2 (escaped_byte b)
escape_at (b ∷ h ∷ l ∷ bs) = if b == 120 then behind_bytes 4 (pair_value (hex_digit_value h) (hex_digit_value l)) else behind_bytes 2 (escaped_byte b)

abbrev pub byte_at : List ℕ → Option (ℕ × ℕ)
byte_at [] = None
byte_at (b ∷ bs) = if b == 92 then escape_at bs else Some (1, b)

abbrev pub quoted_said : List ℕ → Option (List ℕ)
quoted_said [] = None
quoted_said (b ∷ bs) = if b == 34 then unquoted bs else None

abbrev pub bytes_by : Option (List ℕ) → List ℕ → Option (List ℕ)
bytes_by (Some digits) w = digits_said (decode_of digits)
bytes_by None w = quoted_said w

-- the bytes that a word says: `0x` and an even number of hexadecimal digits, or a quoted text
unfoldable pub bytes_said : List ℕ → Option (List ℕ)
bytes_said w = bytes_by (behind_0x w) w

-- how a number, a signed one and bytes are printed
abbrev pub signed_word : ℤ → List ℕ
signed_word (pos n) = decimal n
signed_word (negsuc n) = 45 ∷ decimal (n + 1)

abbrev pub bytes_word : List ℕ → List ℕ
bytes_word b = codes "0x" ++ encode_lower b
