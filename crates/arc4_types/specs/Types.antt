-- ARC-4 types as plain data (ARC-4, "Types").
use Rattle.std.specs.Prelude.{ℕ, ◌==◌, Bool, true, false, if◌then◌else◌, List, [], ◌∷◌, map}
use Rattle.std.specs.Int.{Width, w8, w16, w32, w64}
use Rattle.arc4_types.specs.declared.abi.Abi.{Abi}
use Rattle.arc4_types.specs.declared.abi.Abi.TheOpen.{Abi-F}
use Rattle.arc4_types.specs.declared.abi.Abi.TheFolds.{fold-Abi}

mutual
  pub data Ty : Type 0 where
    -- a number of so many bits, of which `byte` is one
    uint : ℕ → Ty
    byte : Ty
    flag : Ty
    -- a string, or an array of `byte`
    text : Ty
    address : Ty
    -- as many parts as the encoding says, or exactly so many
    array : Ty → Ty
    fixed : Ty → ℕ → Ty
    tuple : Tys → Ty

  pub data Tys : Type 0 where
    no_types : Tys
    a_type : Ty → Tys → Tys

abbrev pub tys_of : List Ty → Tys
tys_of [] = no_types
tys_of (t ∷ ts) = a_type t (tys_of ts)

-- the width of a number of so many bits, which are 8, 16, 32 or 64
abbrev pub width_of : ℕ → Width
width_of bits = if bits == 8 then w8 else (if bits == 16 then w16 else (if bits == 32 then w32 else w64))

abbrev pub is_byte : Ty → Bool
is_byte (uint bits) = false
is_byte byte = true
is_byte flag = false
is_byte text = false
is_byte address = false
is_byte (array t) = false
is_byte (fixed t n) = false
is_byte (tuple ts) = false

abbrev pub type_step : Abi-F Ty → Ty
type_step (Abi-F.Uint bits) = uint bits
type_step Abi-F.Byte = byte
type_step Abi-F.Bool = flag
type_step Abi-F.Text = text
type_step Abi-F.Address = address
type_step (Abi-F.Array t) = if is_byte t then text else array t
type_step (Abi-F.Fixed t n) = fixed t n
type_step (Abi-F.Tuple ts) = tuple (tys_of ts)

abbrev pub type_of : Abi → Ty
type_of = fold-Abi Ty type_step

abbrev pub types_of : List Abi → Tys
types_of ts = tys_of (map type_of ts)
