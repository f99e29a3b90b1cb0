-- Types as plain data, and how many scalars their values have.
use Rattle.std.specs.Prelude.{ℕ, ◌+◌, Bool, true, false, ◌&&◌, List, [], ◌∷◌}
use Rattle.awst.specs.declared.ty.Ty.{Ty}
use Rattle.awst.specs.declared.ty.Ty.TheOpen.{Ty-F}
use Rattle.awst.specs.declared.ty.Ty.TheFolds.{fold-Ty}

mutual
  pub data ValueType : Type 0 where
    uint64 : ValueType
    bool : ValueType
    bytes : ValueType
    text : ValueType
    account : ValueType
    nothing : ValueType
    tuple : Types → ValueType

  pub data Types : Type 0 where
    no_types : Types
    a_type : ValueType → Types → Types

abbrev pub types_of : List ValueType → Types
types_of [] = no_types
types_of (t ∷ ts) = a_type t (types_of ts)

-- one layer, with the type of each part in its place
abbrev pub type_layer : Ty-F ValueType → ValueType
type_layer Ty-F.UInt64 = uint64
type_layer Ty-F.Bool = bool
type_layer Ty-F.Bytes = bytes
type_layer Ty-F.Text = text
type_layer Ty-F.Account = account
type_layer Ty-F.Nothing = nothing
type_layer (Ty-F.Tuple parts) = tuple (types_of parts)

abbrev pub type_of : Ty → ValueType
type_of = fold-Ty ValueType type_layer

-- a tuple has the scalars of its parts, None has none, every other value is one
abbrev mutual
  pub scalar_count : ValueType → ℕ
  scalar_count uint64 = 1
  scalar_count bool = 1
  scalar_count bytes = 1
  scalar_count text = 1
  scalar_count account = 1
  scalar_count nothing = 0
  scalar_count (tuple parts) = scalar_total parts

  pub scalar_total : Types → ℕ
  scalar_total no_types = 0
  scalar_total (a_type t ts) = scalar_count t + scalar_total ts

-- the type of a value that can be kept: there is no None in it
abbrev mutual
  pub is_kept : ValueType → Bool
  is_kept uint64 = true
  is_kept bool = true
  is_kept bytes = true
  is_kept text = true
  is_kept account = true
  is_kept nothing = false
  is_kept (tuple parts) = are_kept parts

  pub are_kept : Types → Bool
  are_kept no_types = true
  are_kept (a_type t ts) = is_kept t && are_kept ts
