-- Immediates and their bytes (AVM specification, "Encoding").
use Rattle.std.specs.Prelude.{◌≡◌, ℕ, ℤ, zero, suc, ◌+◌, ◌<◌, ◌^◌, ◌==◌, nat_le, Bool, if◌then◌else◌, IsTrue, List, [], ◌∷◌, ◌++◌, length, take, drop, All, Result, Ok, Err}
use Rattle.std.specs.List.{flat_map, list_any}
use Rattle.std.specs.Int.RustNames.{FitsSigned}
use Rattle.std.specs.Int.{w8, w16, cast_signed, cast_unsigned, from_be_bytes, to_be_bytes}
use Rattle.avm_ops.specs.declared.rows.Fields.{Fields}
use Rattle.avm_ops.specs.declared.rows.Fields.TheVariants as fields
use Rattle.avm_ops.specs.declared.rows.Format.{Format}
use Rattle.avm_ops.specs.declared.rows.Format.TheVariants as format
use Rattle.avm_ops.specs.declared.instr.Imm.{Imm}
use Rattle.avm_ops.specs.declared.instr.Imm.TheVariants.{Nothing, Byte, Two, Signed, Int, Ints, Bytes, Blobs, Jump, Jumps}
use Rattle.avm_ops.specs.declared.imm_fault.ImmFault.{ImmFault}
use Rattle.avm_ops.specs.declared.imm_fault.ImmFault.TheVariants.{Cut, Outside, Overlong, Memory}
use Rattle.avm_ops.specs.Varint.{number_at, number_bytes}

-- what stands at the front of bytes, and how many it takes; or the first fault in the order of reading
abbrev pub Read : Type 0 → Type 0
Read A = Result (A × ℕ) ImmFault

-- with so many bytes before it
abbrev pub behind : {A : Type 0} → ℕ → Read A → Read A
behind used (Err f) = Err f
behind used (Ok p) = Ok (p.0, used + p.1)

-- one reading, then another behind it that may look at the first's value
abbrev pub then_read : {A B : Type 0} → (A → List ℕ → Read B) → List ℕ → Read A → Read B
then_read next bs (Err f) = Err f
then_read next bs (Ok p) = behind p.1 (next p.0 (drop p.1 bs))

-- the same reading, its value passed on
abbrev pub read_as : {A B : Type 0} → (A → B) → Read A → Read B
read_as f (Err e) = Err e
read_as f (Ok p) = Ok (f p.0, p.1)

-- so many in a row
abbrev pub each_in : {A : Type 0} → (List ℕ → Read A) → ℕ → List ℕ → Read (List A)
each_in one zero bs = Ok ([], 0)
each_in one (suc n) bs = then_read (λ x cs. read_as (λ xs. x ∷ xs) (each_in one n cs)) bs (one bs)

abbrev pub byte_in : List ℕ → Read ℕ
byte_in [] = Err Cut
byte_in (b ∷ bs) = Ok (b, 1)

-- so many bytes
abbrev pub bytes_in : ℕ → List ℕ → Read (List ℕ)
bytes_in n bs = if nat_le n (length bs) then Ok (take n bs, n) else Err Cut

-- a length, and as many bytes
abbrev pub sized_in : List ℕ → Read (List ℕ)
sized_in bs = then_read bytes_in bs (number_at bs)

-- an offset of 16 bits in two's complement, the high byte first
abbrev pub jump_in : List ℕ → Read ℤ
jump_in [] = Err Cut
jump_in (high ∷ []) = Err Cut
jump_in (high ∷ low ∷ bs) = Ok (cast_signed w16 (from_be_bytes w16 (high ∷ low ∷ [])), 2)

-- the numbers of the fields
abbrev pub numbers_of : Fields → List ℕ
numbers_of fields.Transaction = 0 ∷ 1 ∷ 5 ∷ 24 ∷ 25 ∷ 27 ∷ []
numbers_of fields.Global = 3 ∷ 6 ∷ 7 ∷ 8 ∷ 9 ∷ []
numbers_of fields.Array = 26 ∷ []

abbrev pub is_field : Fields → ℕ → Bool
is_field fs n = list_any (λ k. n == k) (numbers_of fs)

abbrev pub field_in : Fields → List ℕ → Read ℕ
field_in fs [] = Err Cut
field_in fs (b ∷ bs) = if is_field fs b then Ok (b, 1) else Err (Outside b)

-- the immediates of that form
abbrev pub imm_in : Format → List ℕ → Read Imm
imm_in format.Nothing bs = Ok (Nothing, 0)
imm_in format.Byte bs = read_as Byte (byte_in bs)
imm_in format.Two bs = then_read (λ a cs. read_as (Two a) (byte_in cs)) bs (byte_in bs)
imm_in format.Signed bs = read_as (λ b. Signed (cast_signed w8 b)) (byte_in bs)
imm_in format.Int bs = read_as Int (number_at bs)
imm_in format.Ints bs = read_as Ints (then_read (each_in number_at) bs (number_at bs))
imm_in format.Bytes bs = read_as Bytes (sized_in bs)
imm_in format.Blobs bs = read_as Blobs (then_read (each_in sized_in) bs (number_at bs))
imm_in format.Jump bs = read_as Jump (jump_in bs)
imm_in format.Jumps bs = read_as Jumps (then_read (each_in jump_in) bs (byte_in bs))
imm_in (format.Field fs) bs = read_as Byte (field_in fs bs)
imm_in (format.FieldAndByte fs) bs = then_read (λ a cs. read_as (Two a) (byte_in cs)) bs (field_in fs bs)

abbrev pub sized_bytes : List ℕ → List ℕ
sized_bytes b = number_bytes (length b) ++ b

abbrev pub jump_bytes : ℤ → List ℕ
jump_bytes j = to_be_bytes w16 (cast_unsigned w16 j)

-- how immediates are spelled
abbrev pub imm_bytes : Imm → List ℕ
imm_bytes Nothing = []
imm_bytes (Byte b) = b ∷ []
imm_bytes (Two a b) = a ∷ b ∷ []
imm_bytes (Signed i) = cast_unsigned w8 i ∷ []
imm_bytes (Int n) = number_bytes n
imm_bytes (Ints ns) = number_bytes (length ns) ++ flat_map number_bytes ns
imm_bytes (Bytes b) = sized_bytes b
imm_bytes (Blobs bs) = number_bytes (length bs) ++ flat_map sized_bytes bs
imm_bytes (Jump j) = jump_bytes j
imm_bytes (Jumps js) = length js ∷ flat_map jump_bytes js

-- a number that two's complement of 8 or 16 bits has
abbrev pub IsSigned8 : ℤ → Type 0
IsSigned8 i = FitsSigned w8 i

abbrev pub IsSigned16 : ℤ → Type 0
IsSigned16 j = FitsSigned w16 j

-- a list short enough for its length to be spelled
abbrev pub IsCountable : {A : Type 0} → List A → Type 0
IsCountable xs = length xs < 2 ^ 64

-- immediates of that form, each in its range
abbrev pub IsOf : Format → Imm → Type 0
IsOf format.Nothing Nothing = Unit {0}
IsOf format.Byte (Byte b) = b < 256
IsOf format.Two (Two a b) = (a < 256) × (b < 256)
IsOf format.Signed (Signed i) = IsSigned8 i
IsOf format.Int (Int n) = n < 2 ^ 64
IsOf format.Ints (Ints ns) = IsCountable ns × All (λ n. n < 2 ^ 64) ns
IsOf format.Bytes (Bytes b) = IsCountable b
IsOf format.Blobs (Blobs bs) = IsCountable bs × All IsCountable bs
IsOf format.Jump (Jump j) = IsSigned16 j
IsOf format.Jumps (Jumps js) = (length js < 256) × All IsSigned16 js
IsOf (format.Field fs) (Byte b) = IsTrue (is_field fs b)
IsOf (format.FieldAndByte fs) (Two a b) = IsTrue (is_field fs a) × (b < 256)
IsOf f imm = ⊥

-- what a call answers is the definition's answer, unless memory ran out
abbrev pub ReadsImm : {A : Type 0} → Read A → Read A → Type 0
ReadsImm (Ok x) expected = expected ≡ Ok x
ReadsImm (Err Cut) expected = expected ≡ Err Cut
ReadsImm (Err (Outside b)) expected = expected ≡ Err (Outside b)
ReadsImm (Err Overlong) expected = expected ≡ Err Overlong
ReadsImm (Err Memory) expected = Unit {0}

-- a list of offsets has at most 255
abbrev pub IsShort : Imm → Type 0
IsShort (Jumps js) = length js < 256
IsShort imm = Unit {0}
