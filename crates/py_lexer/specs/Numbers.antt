-- Integer literals and their values (Python reference 2.4.5).
use Rattle.std.specs.Prelude.{ℕ, ◌+◌, ◌-◌, ◌*◌, ◌^◌, Bool, true, false, not, ◌&&◌, ◌||◌, if◌then◌else◌, ◌==◌, nat_le, nat_lt, [], ◌∷◌, Option, Some, None}
use Rattle.py_lexer.specs.Bytes.{Text}

abbrev pub is_between : ℕ → ℕ → ℕ → Bool
is_between low high b = nat_le low b && nat_le b high

-- the value of a digit of at most sixteen
abbrev pub digit_value : ℕ → Option ℕ
digit_value b =
    if is_between 48 57 b then Some (b - 48)
    else if is_between 97 102 b then Some (b - 97 + 10)
    else if is_between 65 70 b then Some (b - 65 + 10)
    else None

abbrev pub below : ℕ → Option ℕ → Option ℕ
below base None = None
below base (Some d) = if nat_lt d base then Some d else None

-- the value of a digit of the base
abbrev pub digit_in : ℕ → ℕ → Option ℕ
digit_in base b = below base (digit_value b)

-- the value where it is below 2^64
abbrev pub fitting : ℕ → Option ℕ
fitting n = if nat_lt n (2 ^ 64) then Some n else None

abbrev pub if_fitting : Option ℕ → Option ℕ
if_fitting None = None
if_fitting (Some n) = fitting n

-- a _ right behind a digit
abbrev pub joins : ℕ → Bool → Bool
joins b after = b == 95 && after

-- The number that is written by these digits of the base, with single _ between them, behind what gave the value so far;
-- the flag says that a digit stands right before.
abbrev pub written : ℕ → ℕ → Bool → Text → Option ℕ
written base value after [] = if after then Some value else None
written base value after (b ∷ z) =
    if joins b after then written base value false z
    else elim (digit_in base b) [ None ↦ None | Some d ↦ written base (value * base + d) true z ]

-- digits of the base with single _ between them, below 2^64
abbrev pub digits : ℕ → Text → Option ℕ
digits base z = if_fitting (written base 0 false z)

abbrev pub without_underscore : Text → Text
without_underscore [] = []
without_underscore (b ∷ z) = if b == 95 then z else b ∷ z

-- digits behind a prefix, which a _ may follow
abbrev pub prefixed : ℕ → Text → Option ℕ
prefixed base z = digits base (without_underscore z)

abbrev pub begins_zero : Text → Bool
begins_zero [] = false
begins_zero (b ∷ z) = b == 48

abbrev pub unless_padded : Bool → Option ℕ → Option ℕ
unless_padded zero None = None
unless_padded zero (Some n) = if zero && not (n == 0) then None else Some n

-- a decimal number without a leading zero, or zeros alone
abbrev pub decimal : Text → Option ℕ
decimal z = unless_padded (begins_zero z) (digits 10 z)

-- the base that the letter of a prefix names, or 0
abbrev pub base_of : ℕ → ℕ
base_of b = if b == 120 || b == 88 then 16 else if b == 111 || b == 79 then 8 else if b == 98 || b == 66 then 2 else 0

-- the value of a number's text, from 0 to 2^64-1
abbrev pub number_value : Text → Option ℕ
number_value [] = decimal []
number_value (a ∷ []) = decimal (a ∷ [])
number_value (a ∷ b ∷ z) = if a == 48 && not (base_of b == 0) then prefixed (base_of b) z else decimal (a ∷ b ∷ z)

-- the text has no prefix that names a base
abbrev pub is_decimal : Text → Bool
is_decimal [] = true
is_decimal (a ∷ []) = true
is_decimal (a ∷ b ∷ z) = is_between 48 57 b || b == 95
