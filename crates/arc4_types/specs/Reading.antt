-- Reading a value from bytes, from left to right, up to the first fault (ARC-4, "Encoding").
use Rattle.std.specs.Prelude.{ℕ, zero, suc, ◌-◌, ◌/◌, ◌==◌, nat_lt, nat_le, Bool, true, false, if◌then◌else◌, List, [], ◌∷◌, ◌++◌, length, take, drop, map, Result, Ok, Err, ◌≡◌}
use Rattle.std.proofs.Math.ListN.{replicate}
use Rattle.std.specs.Int.{Width, w8, w16, from_be_bytes, byte_len}
use Rattle.arc4_types.specs.declared.abi_fault.AbiFault.{AbiFault}
use Rattle.arc4_types.specs.declared.abi_fault.AbiFault.TheVariants as fault
use Rattle.arc4_types.specs.Types.{Ty, Tys, uint, byte, flag, text, address, array, fixed, tuple, no_types, a_type, width_of}
use Rattle.arc4_types.specs.Values.{Val, Vals, number, truth, bytes, parts, vals_of}
use Rattle.arc4_types.specs.Groups.{form_of, Part, Group, octet, static, dynamic, groups}

infixl 10 ◌>>=◌
abbrev pub ◌>>=◌ : {A B : Type 0} → Result A AbiFault → (A → Result B AbiFault) → Result B AbiFault
(Ok x) >>= f = f x
(Err e) >>= f = Err e

-- what is read of the bytes, with the bytes behind it, or the first fault
abbrev pub Reads : Type 0 → Type 0
Reads A = List ℕ → Result (A × List ℕ) AbiFault

-- what was read, made into another thing
abbrev pub mapped : {A B : Type 0} → (A → B) → Result (A × List ℕ) AbiFault → Result (B × List ℕ) AbiFault
mapped f (Ok x) = Ok (f x.0, x.1)
mapped f (Err e) = Err e

-- so many bytes
abbrev pub taken : ℕ → Reads (List ℕ)
taken n bs = if nat_lt (length bs) n then Err fault.Length else Ok (take n bs, drop n bs)

-- a number, the high byte first
abbrev pub number_at : Width → Reads ℕ
number_at w bs = mapped (from_be_bytes w) (taken (byte_len w) bs)

-- so many bools of a byte, the first of this weight; no other bit is set
abbrev pub unpacked : ℕ → ℕ → ℕ → Result (List Bool) AbiFault
unpacked w zero x = if x == 0 then Ok [] else Err fault.Bit
unpacked w (suc k) x = if nat_le w x then (unpacked (w / 2) k (x - w) >>= λ bs. Ok (true ∷ bs)) else (unpacked (w / 2) k x >>= λ bs. Ok (false ∷ bs))

abbrev pub byte_at : Reads ℕ
byte_at [] = Err fault.Length
byte_at (b ∷ bs) = Ok (b, bs)

-- the byte of so many bools
abbrev pub octet_at : ℕ → Reads (List Bool)
octet_at k bs = byte_at bs >>= λ x. (unpacked 128 k x.0 >>= λ flags. Ok (flags, x.1))

-- a bool alone
abbrev pub one_flag : List Bool → Val
one_flag [] = truth false
one_flag (b ∷ bs) = truth b

-- a count of bytes, and the bytes
abbrev pub text_at : Reads (List ℕ)
text_at bs = number_at w16 bs >>= λ n. taken n.0 n.1

-- what a head tells of a part: its value, or the offset of its tail
pub data Told : Type 0 where
  told : Val → Told
  waits : ℕ → Told

abbrev pub flags_told : List Bool → List Told
flags_told flags = map (λ b. told (truth b)) flags

-- what stands in the head first
abbrev pub first_told : Group (Reads Val) → Reads (List Told)
first_told (octet k) bs = mapped flags_told (octet_at k bs)
first_told (static read) bs = mapped (λ v. told v ∷ []) (read bs)
first_told (dynamic read) bs = mapped (λ offset. waits offset ∷ []) (number_at w16 bs)

-- the parts of a head in order
abbrev pub head_at : List (Group (Reads Val)) → Reads (List Told)
head_at [] bs = Ok ([], bs)
head_at (g ∷ gs) bs = first_told g bs >>= λ x. mapped (λ ts. x.0 ++ ts) (head_at gs x.1)

-- the value of a part: where its tail is to come, its offset against the place reached, then the tail.
-- So many bytes stood there from the tuple's start on
abbrev pub tail_at : ℕ → Reads Val → Told → Reads Val
tail_at whole read (told v) bs = Ok (v, bs)
tail_at whole read (waits offset) bs = if offset == whole - length bs then read bs else Err fault.Offset

-- the values of the parts in order
abbrev pub tails_at : ℕ → List (Reads Val) → List Told → Reads (List Val)
tails_at whole reads [] bs = Ok ([], bs)
tails_at whole [] (t ∷ ts) bs = Err fault.Length
tails_at whole (read ∷ reads) (t ∷ ts) bs = tail_at whole read t bs >>= λ x. mapped (λ vs. x.0 ∷ vs) (tails_at whole reads ts x.1)

abbrev pub codes_in : List (Part (Reads Val)) → List (Reads Val)
codes_in ps = map (λ p. p.code) ps

-- the parts of a tuple: the head, then the tails
abbrev pub row_at : List (Part (Reads Val)) → Reads Val
row_at ps bs = head_at (groups 0 ps) bs >>= λ h. mapped (λ vs. parts (vals_of vs)) (tails_at (length bs) (codes_in ps) h.0 h.1)

abbrev mutual
  -- a value of the type at the front of the bytes
  pub reading : Ty → Reads Val
  reading (uint bits) bs = mapped number (number_at (width_of bits) bs)
  reading byte bs = mapped number (number_at w8 bs)
  reading flag bs = mapped one_flag (octet_at 1 bs)
  reading text bs = mapped bytes (text_at bs)
  reading address bs = mapped bytes (taken 32 bs)
  reading (array t) bs = number_at w16 bs >>= λ n. row_at (replicate n.0 (record { form = form_of t; code = reading t })) n.1
  reading (fixed t n) bs = row_at (replicate n (record { form = form_of t; code = reading t })) bs
  reading (tuple ts) bs = row_at (readings ts) bs

  pub readings : Tys → List (Part (Reads Val))
  readings no_types = []
  readings (a_type t ts) = record { form = form_of t; code = reading t } ∷ readings ts

-- no bytes are left over
abbrev pub whole_of : Val × List ℕ → Result Val AbiFault
whole_of x = if length x.1 == 0 then Ok x.0 else Err fault.Length

-- the value that all the bytes are an encoding of, or the first fault
abbrev pub decoding : Ty → List ℕ → Result Val AbiFault
decoding t bs = reading t bs >>= whole_of

-- what a function returned, seen so, is what reading gives, unless memory ran out
abbrev pub Fails : {Y : Type 0} → AbiFault → Result Y AbiFault → Type 0
Fails fault.Length read = read ≡ Err fault.Length
Fails fault.Offset read = read ≡ Err fault.Offset
Fails fault.Bit read = read ≡ Err fault.Bit
Fails fault.Memory read = Unit {0}

abbrev pub Gives : {X Y : Type 0} → (X → Y) → Result X AbiFault → Result Y AbiFault → Type 0
Gives view (Ok x) read = read ≡ Ok (view x)
Gives view (Err e) read = Fails e read
