-- Source types as plain data, and when two are one. A type is the same where it is written alike.
use Rattle.std.specs.Prelude.{ℕ, suc, ◌+◌, nat_le, max, Bool, true, false, ◌&&◌, List, [], ◌∷◌, map, Option, Some, None}
use denote.Enum.Bare.{sameb}
use Rattle.algopy_library.specs.contracts.scalar.Scalar.{the_type}
use Rattle.algopy_library.specs.declared.scalar.Scalar.{Scalar}
use Rattle.algopy_library.specs.declared.scalar.Scalar.TheVariants as scalar
use Rattle.awst.specs.declared.ty.Ty.{Ty}
use Rattle.awst.specs.declared.ty.Ty.TheVariants as ty
use Rattle.source_names.specs.declared.types.SourceType.{SourceType, out-SourceType}
use Rattle.source_names.specs.declared.types.SourceType.TheOpen.{SourceType-F}
use Rattle.source_names.specs.declared.types.SourceType.TheFolds.{fold-SourceType}

mutual
  pub data T : Type 0 where
    one : Scalar → T
    nothing : T
    tuple : Ts → T

  pub data Ts : Type 0 where
    no_types : Ts
    a_type : T → Ts → Ts

abbrev pub ts_of : List T → Ts
ts_of [] = no_types
ts_of (t ∷ ts) = a_type t (ts_of ts)

abbrev pub type_layer : SourceType-F T → T
type_layer (SourceType-F.Scalar s) = one s
type_layer SourceType-F.Nothing = nothing
type_layer (SourceType-F.Tuple ts) = tuple (ts_of ts)

abbrev pub plain : SourceType → T
plain = fold-SourceType T type_layer

abbrev pub plains : List SourceType → Ts
plains ts = ts_of (map plain ts)

abbrev pub same_scalar : Scalar → Scalar → Bool
same_scalar = sameb the_type

abbrev mutual
  pub same : T → T → Bool
  same (one s) (one t) = same_scalar s t
  same nothing nothing = true
  same (tuple ts) (tuple us) = sames ts us
  same _ _ = false

  pub sames : Ts → Ts → Bool
  sames no_types no_types = true
  sames (a_type t ts) (a_type u us) = same t u && sames ts us
  sames _ _ = false

abbrev pub same_type : SourceType → SourceType → Bool
same_type t u = same (plain t) (plain u)

abbrev pub same_types : List SourceType → List SourceType → Bool
same_types ts us = sames (plains ts) (plains us)

-- how deep tuples nest, and how many parts there are in all, each counted as often as it stands
abbrev mutual
  pub levels : T → ℕ
  levels (one s) = 0
  levels nothing = 0
  levels (tuple ts) = suc (most_levels ts)

  pub most_levels : Ts → ℕ
  most_levels no_types = 0
  most_levels (a_type t ts) = max (levels t) (most_levels ts)

abbrev mutual
  pub part_count : T → ℕ
  part_count (one s) = 0
  part_count nothing = 0
  part_count (tuple ts) = all_parts ts

  pub all_parts : Ts → ℕ
  all_parts no_types = 0
  all_parts (a_type t ts) = suc (part_count t) + all_parts ts

-- a tuple type nests at most 32 levels deep and has at most 4096 parts
abbrev pub fits_limits : SourceType → Bool
fits_limits t = nat_le (levels (plain t)) 32 && nat_le (part_count (plain t)) 4096

-- the type of typed trees for a source type
abbrev pub typed_scalar : Scalar → Ty
typed_scalar scalar.UInt64 = ty.UInt64
typed_scalar scalar.Bool = ty.Bool
typed_scalar scalar.Bytes = ty.Bytes
typed_scalar scalar.Text = ty.Text
typed_scalar scalar.Account = ty.Account

abbrev pub typed_layer : SourceType-F Ty → Ty
typed_layer (SourceType-F.Scalar s) = typed_scalar s
typed_layer SourceType-F.Nothing = ty.Nothing
typed_layer (SourceType-F.Tuple ts) = ty.Tuple ts

abbrev pub typed : SourceType → Ty
typed = fold-SourceType Ty typed_layer

abbrev pub scalar_in : T → Option Scalar
scalar_in (one s) = Some s
scalar_in nothing = None
scalar_in (tuple ts) = None

-- the type's scalar, if it is one
abbrev pub scalar_of : SourceType → Option Scalar
scalar_of t = scalar_in (plain t)

abbrev pub nothing_in : T → Bool
nothing_in (one s) = false
nothing_in nothing = true
nothing_in (tuple ts) = false

-- whether it is what a function without a result gives
abbrev pub is_nothing : SourceType → Bool
is_nothing t = nothing_in (plain t)

abbrev pub parts_in : SourceType-F SourceType → Option (List SourceType)
parts_in (SourceType-F.Scalar s) = None
parts_in SourceType-F.Nothing = None
parts_in (SourceType-F.Tuple ts) = Some ts

-- the types of a tuple's parts
abbrev pub tuple_parts : SourceType → Option (List SourceType)
tuple_parts t = parts_in (out-SourceType t)
