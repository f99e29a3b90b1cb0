-- The members of the library's names (Algorand Python guide, "Ops", "Transactions", "Globals"; AVM specification, "OnCompletion").
use Rattle.std.specs.Prelude.{ℕ, List, [], ◌∷◌, codes, Option}
use Rattle.awst.specs.declared.primitive.Primitive.{Primitive}
use Rattle.awst.specs.declared.primitive.Primitive.TheVariants as prim
use Rattle.algopy_library.specs.declared.scalar.Scalar.{Scalar}
use Rattle.algopy_library.specs.declared.scalar.Scalar.TheVariants as scalar
use Rattle.algopy_library.specs.declared.row.Row.{Row}
use Rattle.algopy_library.specs.declared.row.Row.TheVariants as row
use Rattle.algopy_library.specs.declared.form.Admits.{Admits}
use Rattle.algopy_library.specs.declared.form.Admits.TheVariants as admits
use Rattle.algopy_library.specs.declared.form.Form.{Form}
use Rattle.algopy_library.specs.declared.member.Member.{Member}
use Rattle.algopy_library.specs.declared.member.Member.TheVariants as member
use Rattle.algopy_library.specs.Tables.{named_in}

abbrev pub form_of : Primitive → Admits → Admits → Admits → Admits → ℕ → Scalar → Form
form_of p a b c d n t = record { prim = p; first = a; second = b; third = c; fourth = d; results = n; result = t }

-- the members of `op`
abbrev pub operations : List (List ℕ × Member)
operations =
    (codes "addw", member.Form (form_of prim.OpAddw admits.Number admits.Number admits.Nothing admits.Nothing 2 scalar.UInt64)) ∷
    (codes "mulw", member.Form (form_of prim.OpMulw admits.Number admits.Number admits.Nothing admits.Nothing 2 scalar.UInt64)) ∷
    (codes "bitlen", member.Form (form_of prim.OpBitlen admits.Either admits.Nothing admits.Nothing admits.Nothing 1 scalar.UInt64)) ∷
    (codes "itob", member.Form (form_of prim.OpItob admits.Number admits.Nothing admits.Nothing admits.Nothing 1 scalar.Bytes)) ∷
    (codes "sqrt", member.Form (form_of prim.OpSqrt admits.Number admits.Nothing admits.Nothing admits.Nothing 1 scalar.UInt64)) ∷
    (codes "sha256", member.Form (form_of prim.OpSha256 admits.Bytes admits.Nothing admits.Nothing admits.Nothing 1 scalar.Bytes)) ∷
    (codes "sha512_256", member.Form (form_of prim.OpSha512Of256 admits.Bytes admits.Nothing admits.Nothing admits.Nothing 1 scalar.Bytes)) ∷
    (codes "btoi", member.Form (form_of prim.OpBtoi admits.Bytes admits.Nothing admits.Nothing admits.Nothing 1 scalar.UInt64)) ∷
    (codes "bzero", member.Form (form_of prim.OpBzero admits.Number admits.Nothing admits.Nothing admits.Nothing 1 scalar.Bytes)) ∷
    (codes "concat", member.Form (form_of prim.OpConcat admits.Bytes admits.Bytes admits.Nothing admits.Nothing 1 scalar.Bytes)) ∷
    (codes "divmodw", member.Form (form_of prim.OpDivmodw admits.Number admits.Number admits.Number admits.Number 4 scalar.UInt64)) ∷
    (codes "divw", member.Form (form_of prim.OpDivw admits.Number admits.Number admits.Number admits.Nothing 1 scalar.UInt64)) ∷
    (codes "exp", member.Form (form_of prim.OpExp admits.Number admits.Number admits.Nothing admits.Nothing 1 scalar.UInt64)) ∷
    (codes "extract", member.Form (form_of prim.OpExtract admits.Bytes admits.Number admits.Number admits.Nothing 1 scalar.Bytes)) ∷
    (codes "extract_uint16", member.Form (form_of prim.OpExtractUint16 admits.Bytes admits.Number admits.Nothing admits.Nothing 1 scalar.UInt64)) ∷
    (codes "extract_uint32", member.Form (form_of prim.OpExtractUint32 admits.Bytes admits.Number admits.Nothing admits.Nothing 1 scalar.UInt64)) ∷
    (codes "extract_uint64", member.Form (form_of prim.OpExtractUint64 admits.Bytes admits.Number admits.Nothing admits.Nothing 1 scalar.UInt64)) ∷
    (codes "getbit", member.Form (form_of prim.OpGetbit admits.Either admits.Number admits.Nothing admits.Nothing 1 scalar.UInt64)) ∷
    (codes "getbyte", member.Form (form_of prim.OpGetbyte admits.Bytes admits.Number admits.Nothing admits.Nothing 1 scalar.UInt64)) ∷
    (codes "replace", member.Form (form_of prim.OpReplace admits.Bytes admits.Number admits.Bytes admits.Nothing 1 scalar.Bytes)) ∷
    (codes "setbit_bytes", member.Form (form_of prim.OpSetbitBytes admits.Bytes admits.Number admits.Number admits.Nothing 1 scalar.Bytes)) ∷
    (codes "setbit_uint64", member.Form (form_of prim.OpSetbitUint64 admits.Number admits.Number admits.Number admits.Nothing 1 scalar.UInt64)) ∷
    (codes "setbyte", member.Form (form_of prim.OpSetbyte admits.Bytes admits.Number admits.Number admits.Nothing 1 scalar.Bytes)) ∷
    (codes "shl", member.Form (form_of prim.OpShl admits.Number admits.Number admits.Nothing admits.Nothing 1 scalar.UInt64)) ∷
    (codes "shr", member.Form (form_of prim.OpShr admits.Number admits.Number admits.Nothing admits.Nothing 1 scalar.UInt64)) ∷
    (codes "substring", member.Form (form_of prim.OpSubstring admits.Bytes admits.Number admits.Number admits.Nothing 1 scalar.Bytes)) ∷
    (codes "AppGlobal", member.LeftOut) ∷
    (codes "AppLocal", member.LeftOut) ∷
    (codes "Box", member.LeftOut) ∷
    (codes "EllipticCurve", member.LeftOut) ∷
    (codes "Scratch", member.LeftOut) ∷
    (codes "base64_decode", member.LeftOut) ∷
    (codes "ecdsa_pk_decompress", member.LeftOut) ∷
    (codes "ecdsa_pk_recover", member.LeftOut) ∷
    (codes "ecdsa_verify", member.LeftOut) ∷
    (codes "ed25519verify", member.LeftOut) ∷
    (codes "ed25519verify_bare", member.LeftOut) ∷
    (codes "keccak256", member.LeftOut) ∷
    (codes "sha3_256", member.LeftOut) ∷
    (codes "vrf_verify", member.LeftOut) ∷
    []

-- the members of `Txn`
abbrev pub transaction : List (List ℕ × Member)
transaction =
    (codes "sender", member.Value prim.TxnSender scalar.Account) ∷
    (codes "fee", member.Value prim.TxnFee scalar.UInt64) ∷
    (codes "note", member.Value prim.TxnNote scalar.Bytes) ∷
    (codes "on_completion", member.Value prim.TxnOnCompletion scalar.UInt64) ∷
    (codes "num_app_args", member.Value prim.TxnNumAppArgs scalar.UInt64) ∷
    (codes "application_id", member.Application prim.TxnApplicationId) ∷
    (codes "application_args", member.Form (form_of prim.TxnApplicationArgs admits.Number admits.Nothing admits.Nothing admits.Nothing 1 scalar.Bytes)) ∷
    []

-- the members of `Global`
abbrev pub globals : List (List ℕ × Member)
globals =
    (codes "zero_address", member.Value prim.GlobalZeroAddress scalar.Account) ∷
    (codes "creator_address", member.Value prim.GlobalCreatorAddress scalar.Account) ∷
    (codes "round", member.Value prim.GlobalRound scalar.UInt64) ∷
    (codes "latest_timestamp", member.Value prim.GlobalLatestTimestamp scalar.UInt64) ∷
    (codes "current_application_id", member.Application prim.GlobalCurrentApplicationId) ∷
    []

-- the members of `OnCompleteAction`, by their on-completion numbers
abbrev pub actions : List (List ℕ × Member)
actions =
    (codes "NoOp", member.Number 0) ∷
    (codes "OptIn", member.Number 1) ∷
    (codes "CloseOut", member.Number 2) ∷
    (codes "ClearState", member.Number 3) ∷
    (codes "UpdateApplication", member.Number 4) ∷
    (codes "DeleteApplication", member.Number 5) ∷
    []

-- the members of `Bytes`
abbrev pub of_bytes : List (List ℕ × Member)
of_bytes =
    (codes "from_hex", member.FromHex) ∷
    (codes "from_bytes", member.LeftOut) ∷
    []

-- the members of any other type
abbrev pub of_a_type : List (List ℕ × Member)
of_a_type =
    (codes "from_bytes", member.LeftOut) ∷
    []

-- the members of `typing`
abbrev pub of_typing : List (List ℕ × Member)
of_typing =
    (codes "Literal", member.Row row.Literal) ∷
    []

abbrev pub members_of : Row → List (List ℕ × Member)
members_of row.Op = operations
members_of row.Txn = transaction
members_of row.Global = globals
members_of row.OnCompleteAction = actions
members_of row.Bytes = of_bytes
members_of row.UInt64 = of_a_type
members_of row.Bool = of_a_type
members_of row.Text = of_a_type
members_of row.Account = of_a_type
members_of row.Tuple = of_a_type
members_of row.Typing = of_typing
members_of _ = []

-- what stands behind a name of the library, a point and a name
unfoldable pub member_named : Row → List ℕ → Option Member
member_named r n = named_in (members_of r) n
