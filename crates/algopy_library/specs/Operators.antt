-- Which types have which operators and members (Algorand Python guide, "Types").
use Rattle.std.specs.Prelude.{ℕ, Bool, true, false, if◌then◌else◌, List, codes, bytes_eq, Option, Some, None}
use Rattle.awst.specs.declared.primitive.Primitive.{Primitive}
use Rattle.awst.specs.declared.primitive.Primitive.TheVariants as prim
use Rattle.algopy_library.specs.declared.scalar.Scalar.{Scalar}
use Rattle.algopy_library.specs.declared.scalar.Scalar.TheVariants as scalar
use Rattle.algopy_library.specs.declared.operator.Operator.{Operator}
use Rattle.algopy_library.specs.declared.operator.Operator.TheVariants as op
use Rattle.algopy_library.specs.declared.operator.Operation.{Operation}

abbrev pub gives : Primitive → Scalar → Option Operation
gives p t = Some (record { prim = p; result = t })

-- `==` and `!=`, which each type has
abbrev pub equality : Operator → Option Operation
equality op.Equal = gives prim.Equal scalar.Bool
equality op.NotEqual = gives prim.NotEqual scalar.Bool
equality _ = None

-- Bytes and String also join
abbrev pub joining : Operator → Scalar → Option Operation
joining op.Add t = gives prim.Join t
joining o t = equality o

-- a UInt64 has every operator but `/`
abbrev pub arithmetic : Operator → Option Operation
arithmetic op.Add = gives prim.Add scalar.UInt64
arithmetic op.Sub = gives prim.Sub scalar.UInt64
arithmetic op.Mul = gives prim.Mul scalar.UInt64
arithmetic op.Div = None
arithmetic op.FloorDiv = gives prim.FloorDiv scalar.UInt64
arithmetic op.Mod = gives prim.Mod scalar.UInt64
arithmetic op.Power = gives prim.Power scalar.UInt64
arithmetic op.ShiftLeft = gives prim.ShiftLeft scalar.UInt64
arithmetic op.ShiftRight = gives prim.ShiftRight scalar.UInt64
arithmetic op.BitAnd = gives prim.BitAnd scalar.UInt64
arithmetic op.BitOr = gives prim.BitOr scalar.UInt64
arithmetic op.BitXor = gives prim.BitXor scalar.UInt64
arithmetic op.Less = gives prim.Less scalar.Bool
arithmetic op.Greater = gives prim.Greater scalar.Bool
arithmetic op.AtMost = gives prim.AtMost scalar.Bool
arithmetic op.AtLeast = gives prim.AtLeast scalar.Bool
arithmetic op.Equal = gives prim.Equal scalar.Bool
arithmetic op.NotEqual = gives prim.NotEqual scalar.Bool

-- what an operator does between two values of a type, where the type has it
abbrev pub between : Operator → Scalar → Option Operation
between o scalar.UInt64 = arithmetic o
between o scalar.Bytes = joining o scalar.Bytes
between o scalar.Text = joining o scalar.Text
between o scalar.Bool = equality o
between o scalar.Account = equality o

abbrev pub inverted : Scalar → Option Operation
inverted scalar.UInt64 = gives prim.Invert scalar.UInt64
inverted _ = None

-- what can stand as a condition: a bool, a number (not 0), bytes and a text (not empty)
abbrev pub has_truth : Scalar → Bool
has_truth scalar.Account = false
has_truth _ = true

-- what `log` takes
abbrev pub is_logged : Scalar → Bool
is_logged scalar.Bool = false
is_logged _ = true

abbrev pub only : List ℕ → List ℕ → Option Operation → Option Operation
only m n o = if bytes_eq n m then o else None

-- `b.length`, `s.bytes` and `account.bytes`
abbrev pub value_member : Scalar → List ℕ → Option Operation
value_member scalar.Bytes n = only (codes "length") n (gives prim.Length scalar.UInt64)
value_member scalar.Text n = only (codes "bytes") n (gives prim.BytesOf scalar.Bytes)
value_member scalar.Account n = only (codes "bytes") n (gives prim.BytesOf scalar.Bytes)
value_member scalar.UInt64 n = None
value_member scalar.Bool n = None
