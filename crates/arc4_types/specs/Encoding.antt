-- The encoding of values (ARC-4, "Encoding").
use Rattle.std.specs.Prelude.{ℕ, zero, suc, ◌+◌, ◌/◌, ◌^◌, ◌==◌, ◌&&◌, nat_lt, Bool, true, false, if◌then◌else◌, List, [], ◌∷◌, ◌++◌, length, drop, Option, Some, None, option_map, option_and_then}
use Rattle.std.proofs.Math.ListN.{replicate}
use Rattle.std.specs.Int.{Width, w8, w16, to_be_bytes, byte_len}
use Rattle.arc4_types.specs.declared.form.Form.{Form}
use Rattle.arc4_types.specs.declared.placed.Placed.{Placed}
use Rattle.arc4_types.specs.declared.placed.Placed.TheVariants.{Here, Later}
use Rattle.arc4_types.specs.Types.{Ty, Tys, uint, byte, flag, text, address, array, fixed, tuple, no_types, a_type, width_of}
use Rattle.arc4_types.specs.Values.{Val, number, truth, bytes, parts, items_of}
use Rattle.arc4_types.specs.Groups.{form_of, Part, Group, octet, static, dynamic, covered, groups}

-- what a value of a type is written as, where it has an encoding
abbrev pub Codes : Type 0
Codes = Val → Option (List ℕ)

-- bools as a number, the first with this weight and each with half of that before it
abbrev pub packed_from : ℕ → List Bool → ℕ
packed_from w [] = 0
packed_from w (b ∷ bs) = (if b then w else 0) + packed_from (w / 2) bs

-- the byte of up to eight bools, the first in the highest bit
abbrev pub packed : List Bool → ℕ
packed bs = packed_from 128 bs

-- the bool that a value is
abbrev pub flag_in : Val → Option Bool
flag_in (truth b) = Some b
flag_in (number n) = None
flag_in (bytes b) = None
flag_in (parts vs) = None

abbrev pub with_flag : Option Bool → Option (List Bool) → Option (List Bool)
with_flag None bs = None
with_flag (Some b) bs = option_map (λ bs. b ∷ bs) bs

-- the first so many values, which are bools
abbrev pub flags_of : ℕ → List Val → Option (List Bool)
flags_of zero vs = Some []
flags_of (suc k) [] = None
flags_of (suc k) (v ∷ vs) = with_flag (flag_in v) (flags_of k vs)

-- the encoding of the first value, as it stands there
abbrev pub first_coded : Codes → (List ℕ → Placed) → List Val → Option Placed
first_coded code stands [] = None
first_coded code stands (v ∷ vs) = option_map stands (code v)

-- what stands in the head first
abbrev pub first_placed : Group Codes → List Val → Option Placed
first_placed (octet k) vs = option_map (λ bs. Here (packed bs ∷ [])) (flags_of k vs)
first_placed (static code) vs = first_coded code (λ b. Here b) vs
first_placed (dynamic code) vs = first_coded code (λ b. Later b) vs

-- the encodings of the parts, each where it stands: as many values as parts
abbrev pub placed : List (Group Codes) → List Val → Option (List Placed)
placed [] [] = Some []
placed [] (v ∷ vs) = None
placed (g ∷ gs) vs = option_and_then (λ p. option_map (λ ps. p ∷ ps) (placed gs (drop (covered g) vs))) (first_placed g vs)

-- how many bytes of the head are a part's
abbrev pub in_head : Placed → ℕ
in_head (Here b) = length b
in_head (Later b) = 2

abbrev pub head_size : List Placed → ℕ
head_size [] = 0
head_size (p ∷ ps) = in_head p + head_size ps

-- the head, where the next tail begins there
abbrev pub heads : ℕ → List Placed → List ℕ
heads at [] = []
heads at (Here b ∷ ps) = b ++ heads at ps
heads at (Later b ∷ ps) = to_be_bytes w16 at ++ heads (at + length b) ps

abbrev pub tails : List Placed → List ℕ
tails [] = []
tails (Here b ∷ ps) = tails ps
tails (Later b ∷ ps) = b ++ tails ps

-- no offset passes 65,535
abbrev pub offsets_fit : ℕ → List Placed → Bool
offsets_fit at [] = true
offsets_fit at (Here b ∷ ps) = offsets_fit at ps
offsets_fit at (Later b ∷ ps) = nat_lt at 65536 && offsets_fit (at + length b) ps

-- the head, then the tails in order with no gap
abbrev pub joined : List Placed → Option (List ℕ)
joined ps = if offsets_fit (head_size ps) ps then Some (heads (head_size ps) ps ++ tails ps) else None

-- the values of the parts of a tuple
abbrev pub row_coding : List (Part Codes) → List Val → Option (List ℕ)
row_coding ps vs = option_and_then joined (placed (groups 0 ps) vs)

-- a number that fits, the high byte first
abbrev pub number_coding : Width → Codes
number_coding w (number n) = if nat_lt n (256 ^ byte_len w) then Some (to_be_bytes w n) else None
number_coding w (truth b) = None
number_coding w (bytes b) = None
number_coding w (parts vs) = None

-- a bool alone: 80 or 00
abbrev pub flag_coding : Codes
flag_coding (truth b) = Some (packed (b ∷ []) ∷ [])
flag_coding (number n) = None
flag_coding (bytes b) = None
flag_coding (parts vs) = None

-- the count of the bytes, and the bytes
abbrev pub text_coding : Codes
text_coding (bytes b) = if nat_lt (length b) 65536 then Some (to_be_bytes w16 (length b) ++ b) else None
text_coding (number n) = None
text_coding (truth b) = None
text_coding (parts vs) = None

abbrev pub address_coding : Codes
address_coding (bytes b) = if length b == 32 then Some b else None
address_coding (number n) = None
address_coding (truth b) = None
address_coding (parts vs) = None

abbrev pub tuple_coding : List (Part Codes) → Codes
tuple_coding ps (parts vs) = row_coding ps (items_of vs)
tuple_coding ps (number n) = None
tuple_coding ps (truth b) = None
tuple_coding ps (bytes b) = None

-- the count of the parts, and the parts as in a tuple
abbrev pub counted_coding : Part Codes → List Val → Option (List ℕ)
counted_coding p vs =
    if nat_lt (length vs) 65536
    then option_map (λ b. to_be_bytes w16 (length vs) ++ b) (row_coding (replicate (length vs) p) vs)
    else None

abbrev pub array_coding : Part Codes → Codes
array_coding p (parts vs) = counted_coding p (items_of vs)
array_coding p (number n) = None
array_coding p (truth b) = None
array_coding p (bytes b) = None

abbrev mutual
  -- the encoding of a value, or none
  pub coding : Ty → Codes
  coding (uint bits) v = number_coding (width_of bits) v
  coding byte v = number_coding w8 v
  coding flag v = flag_coding v
  coding text v = text_coding v
  coding address v = address_coding v
  coding (array t) v = array_coding (record { form = form_of t; code = coding t }) v
  coding (fixed t n) v = tuple_coding (replicate n (record { form = form_of t; code = coding t })) v
  coding (tuple ts) v = tuple_coding (codings ts) v

  pub codings : Tys → List (Part Codes)
  codings no_types = []
  codings (a_type t ts) = record { form = form_of t; code = coding t } ∷ codings ts

-- the encoding, where it has at most so many bytes
abbrev pub within : ℕ → Option (List ℕ) → Option (List ℕ)
within most None = None
within most (Some b) = if nat_lt most (length b) then None else Some b
