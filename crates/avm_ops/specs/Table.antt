-- The instruction table (AVM specification, "Opcodes"): for each opcode its mnemonic, the form of its
-- immediates, what it does, its cost, and how many values it takes and leaves.
use Rattle.std.specs.Prelude.{ℕ, true, false, ◌==◌, if◌then◌else◌, List, [], ◌∷◌, Option, Some, None}
use Rattle.avm_ops.specs.declared.rows.Row.{Row}
use Rattle.avm_ops.specs.declared.rows.Count.{Count}
use Rattle.avm_ops.specs.declared.rows.Format.{Format}
use Rattle.avm_ops.specs.declared.rows.Action.{Action}
use Rattle.avm_ops.specs.declared.rows.Format.TheVariants as format
use Rattle.avm_ops.specs.declared.rows.Fields.TheVariants as fields
use Rattle.avm_ops.specs.declared.rows.Action.TheVariants as action
use Rattle.avm_ops.specs.declared.rows.ValueRow.TheVariants as value
use Rattle.avm_ops.specs.declared.rows.StackRow.TheVariants as stack
use Rattle.avm_ops.specs.declared.rows.ConstantRow.TheVariants as constant
use Rattle.avm_ops.specs.declared.rows.FieldRow.TheVariants as field
use Rattle.avm_ops.specs.declared.rows.ScratchRow.TheVariants as scratch
use Rattle.avm_ops.specs.declared.rows.FlowRow.TheVariants as flow
use Rattle.avm_ops.specs.declared.rows.FrameRow.TheVariants as frame
use Rattle.avm_ops.specs.declared.rows.StateRow.TheVariants as state
use Rattle.avm_ops.specs.declared.rows.Arithmetic.TheVariants as arithmetic
use Rattle.avm_ops.specs.declared.rows.Comparison.TheVariants as comparison
use Rattle.avm_ops.specs.declared.rows.Unary.TheVariants as unary
use Rattle.avm_ops.specs.declared.rows.Wide.TheVariants as wide
use Rattle.avm_ops.specs.declared.rows.Hash.TheVariants as hash
use Rattle.avm_ops.specs.declared.rows.Part.TheVariants as part
use Rattle.avm_ops.specs.declared.rows.Word.TheVariants as word

-- that many values, whatever the immediate says
abbrev pub only : ℕ → Count
only n = record { least = n; counted = false }

-- that many values, and as many more as the immediate says
abbrev pub and_counted : ℕ → Count
and_counted n = record { least = n; counted = true }

-- an entry of the table: opcode, form, action, cost, values taken, values left
abbrev pub entry : ℕ → Format → Action → ℕ → Count → Count → ℕ × Row
entry op format action cost pops pushes = (op, record { format = format; action = action; cost = cost; pops = pops; pushes = pushes })

unfoldable pub table : List (ℕ × Row)
table =
    -- err
    entry 0x00 format.Nothing (action.Flow flow.Fail) 1 (only 0) (only 0) ∷
    -- sha256
    entry 0x01 format.Nothing (action.Value (value.Hash hash.Sha256)) 35 (only 1) (only 1) ∷
    -- sha512_256
    entry 0x03 format.Nothing (action.Value (value.Hash hash.Sha512Of256)) 45 (only 1) (only 1) ∷
    -- +
    entry 0x08 format.Nothing (action.Value (value.Arithmetic arithmetic.Add)) 1 (only 2) (only 1) ∷
    -- -
    entry 0x09 format.Nothing (action.Value (value.Arithmetic arithmetic.Subtract)) 1 (only 2) (only 1) ∷
    -- /
    entry 0x0a format.Nothing (action.Value (value.Arithmetic arithmetic.Divide)) 1 (only 2) (only 1) ∷
    -- *
    entry 0x0b format.Nothing (action.Value (value.Arithmetic arithmetic.Multiply)) 1 (only 2) (only 1) ∷
    -- <
    entry 0x0c format.Nothing (action.Value (value.Comparison comparison.Less)) 1 (only 2) (only 1) ∷
    -- >
    entry 0x0d format.Nothing (action.Value (value.Comparison comparison.Greater)) 1 (only 2) (only 1) ∷
    -- <=
    entry 0x0e format.Nothing (action.Value (value.Comparison comparison.LessOrEqual)) 1 (only 2) (only 1) ∷
    -- >=
    entry 0x0f format.Nothing (action.Value (value.Comparison comparison.GreaterOrEqual)) 1 (only 2) (only 1) ∷
    -- &&
    entry 0x10 format.Nothing (action.Value (value.Comparison comparison.Both)) 1 (only 2) (only 1) ∷
    -- ||
    entry 0x11 format.Nothing (action.Value (value.Comparison comparison.Either)) 1 (only 2) (only 1) ∷
    -- ==
    entry 0x12 format.Nothing (action.Value value.Equal) 1 (only 2) (only 1) ∷
    -- !=
    entry 0x13 format.Nothing (action.Value value.NotEqual) 1 (only 2) (only 1) ∷
    -- !
    entry 0x14 format.Nothing (action.Value (value.Unary unary.Not)) 1 (only 1) (only 1) ∷
    -- len
    entry 0x15 format.Nothing (action.Value value.Len) 1 (only 1) (only 1) ∷
    -- itob
    entry 0x16 format.Nothing (action.Value value.Itob) 1 (only 1) (only 1) ∷
    -- btoi
    entry 0x17 format.Nothing (action.Value value.Btoi) 1 (only 1) (only 1) ∷
    -- %
    entry 0x18 format.Nothing (action.Value (value.Arithmetic arithmetic.Modulo)) 1 (only 2) (only 1) ∷
    -- |
    entry 0x19 format.Nothing (action.Value (value.Arithmetic arithmetic.BitOr)) 1 (only 2) (only 1) ∷
    -- &
    entry 0x1a format.Nothing (action.Value (value.Arithmetic arithmetic.BitAnd)) 1 (only 2) (only 1) ∷
    -- ^
    entry 0x1b format.Nothing (action.Value (value.Arithmetic arithmetic.BitXor)) 1 (only 2) (only 1) ∷
    -- ~
    entry 0x1c format.Nothing (action.Value (value.Unary unary.BitNot)) 1 (only 1) (only 1) ∷
    -- mulw
    entry 0x1d format.Nothing (action.Value (value.Wide wide.Multiply)) 1 (only 2) (only 2) ∷
    -- addw
    entry 0x1e format.Nothing (action.Value (value.Wide wide.Add)) 1 (only 2) (only 2) ∷
    -- divmodw
    entry 0x1f format.Nothing (action.Value (value.Wide wide.DivideModulo)) 20 (only 4) (only 4) ∷
    -- intcblock
    entry 0x20 format.Ints (action.Constant constant.IntBlock) 1 (only 0) (only 0) ∷
    -- intc
    entry 0x21 format.Byte (action.Constant constant.Int) 1 (only 0) (only 1) ∷
    -- intc_0
    entry 0x22 format.Nothing (action.Constant (constant.IntAt 0)) 1 (only 0) (only 1) ∷
    -- intc_1
    entry 0x23 format.Nothing (action.Constant (constant.IntAt 1)) 1 (only 0) (only 1) ∷
    -- intc_2
    entry 0x24 format.Nothing (action.Constant (constant.IntAt 2)) 1 (only 0) (only 1) ∷
    -- intc_3
    entry 0x25 format.Nothing (action.Constant (constant.IntAt 3)) 1 (only 0) (only 1) ∷
    -- bytecblock
    entry 0x26 format.Blobs (action.Constant constant.BytesBlock) 1 (only 0) (only 0) ∷
    -- bytec
    entry 0x27 format.Byte (action.Constant constant.Bytes) 1 (only 0) (only 1) ∷
    -- bytec_0
    entry 0x28 format.Nothing (action.Constant (constant.BytesAt 0)) 1 (only 0) (only 1) ∷
    -- bytec_1
    entry 0x29 format.Nothing (action.Constant (constant.BytesAt 1)) 1 (only 0) (only 1) ∷
    -- bytec_2
    entry 0x2a format.Nothing (action.Constant (constant.BytesAt 2)) 1 (only 0) (only 1) ∷
    -- bytec_3
    entry 0x2b format.Nothing (action.Constant (constant.BytesAt 3)) 1 (only 0) (only 1) ∷
    -- txn
    entry 0x31 (format.Field fields.Transaction) (action.Field field.Txn) 1 (only 0) (only 1) ∷
    -- global
    entry 0x32 (format.Field fields.Global) (action.Field field.Global) 1 (only 0) (only 1) ∷
    -- load
    entry 0x34 format.Byte (action.Scratch scratch.Load) 1 (only 0) (only 1) ∷
    -- store
    entry 0x35 format.Byte (action.Scratch scratch.Store) 1 (only 1) (only 0) ∷
    -- txna
    entry 0x36 (format.FieldAndByte fields.Array) (action.Field field.Txna) 1 (only 0) (only 1) ∷
    -- bnz
    entry 0x40 format.Jump (action.Flow flow.BranchIfNotZero) 1 (only 1) (only 0) ∷
    -- bz
    entry 0x41 format.Jump (action.Flow flow.BranchIfZero) 1 (only 1) (only 0) ∷
    -- b
    entry 0x42 format.Jump (action.Flow flow.Branch) 1 (only 0) (only 0) ∷
    -- return
    entry 0x43 format.Nothing (action.Flow flow.Return) 1 (only 1) (only 1) ∷
    -- assert
    entry 0x44 format.Nothing (action.Flow flow.Assert) 1 (only 1) (only 0) ∷
    -- bury
    entry 0x45 format.Byte (action.Stack stack.Bury) 1 (and_counted 1) (and_counted 0) ∷
    -- popn
    entry 0x46 format.Byte (action.Stack stack.PopN) 1 (and_counted 0) (only 0) ∷
    -- dupn
    entry 0x47 format.Byte (action.Stack stack.DupN) 1 (only 1) (and_counted 1) ∷
    -- pop
    entry 0x48 format.Nothing (action.Stack stack.Pop) 1 (only 1) (only 0) ∷
    -- dup
    entry 0x49 format.Nothing (action.Stack stack.Dup) 1 (only 1) (only 2) ∷
    -- dup2
    entry 0x4a format.Nothing (action.Stack stack.Dup2) 1 (only 2) (only 4) ∷
    -- dig
    entry 0x4b format.Byte (action.Stack stack.Dig) 1 (and_counted 1) (and_counted 2) ∷
    -- swap
    entry 0x4c format.Nothing (action.Stack stack.Swap) 1 (only 2) (only 2) ∷
    -- select
    entry 0x4d format.Nothing (action.Value value.Select) 1 (only 3) (only 1) ∷
    -- cover
    entry 0x4e format.Byte (action.Stack stack.Cover) 1 (and_counted 1) (and_counted 1) ∷
    -- uncover
    entry 0x4f format.Byte (action.Stack stack.Uncover) 1 (and_counted 1) (and_counted 1) ∷
    -- concat
    entry 0x50 format.Nothing (action.Value value.Concat) 1 (only 2) (only 1) ∷
    -- substring
    entry 0x51 format.Two (action.Value (value.Part part.Substring)) 1 (only 1) (only 1) ∷
    -- substring3
    entry 0x52 format.Nothing (action.Value (value.Part part.Substring3)) 1 (only 3) (only 1) ∷
    -- getbit
    entry 0x53 format.Nothing (action.Value value.GetBit) 1 (only 2) (only 1) ∷
    -- setbit
    entry 0x54 format.Nothing (action.Value value.SetBit) 1 (only 3) (only 1) ∷
    -- getbyte
    entry 0x55 format.Nothing (action.Value value.GetByte) 1 (only 2) (only 1) ∷
    -- setbyte
    entry 0x56 format.Nothing (action.Value value.SetByte) 1 (only 3) (only 1) ∷
    -- extract
    entry 0x57 format.Two (action.Value (value.Part part.Extract)) 1 (only 1) (only 1) ∷
    -- extract3
    entry 0x58 format.Nothing (action.Value (value.Part part.Extract3)) 1 (only 3) (only 1) ∷
    -- extract_uint16
    entry 0x59 format.Nothing (action.Value (value.ExtractNumber word.Two)) 1 (only 2) (only 1) ∷
    -- extract_uint32
    entry 0x5a format.Nothing (action.Value (value.ExtractNumber word.Four)) 1 (only 2) (only 1) ∷
    -- extract_uint64
    entry 0x5b format.Nothing (action.Value (value.ExtractNumber word.Eight)) 1 (only 2) (only 1) ∷
    -- replace2
    entry 0x5c format.Byte (action.Value value.Replace2) 1 (only 2) (only 1) ∷
    -- replace3
    entry 0x5d format.Nothing (action.Value value.Replace3) 1 (only 3) (only 1) ∷
    -- app_local_get
    entry 0x62 format.Nothing (action.State state.LocalGet) 1 (only 2) (only 1) ∷
    -- app_local_get_ex
    entry 0x63 format.Nothing (action.State state.LocalGetEx) 1 (only 3) (only 2) ∷
    -- app_global_get
    entry 0x64 format.Nothing (action.State state.GlobalGet) 1 (only 1) (only 1) ∷
    -- app_global_get_ex
    entry 0x65 format.Nothing (action.State state.GlobalGetEx) 1 (only 2) (only 2) ∷
    -- app_local_put
    entry 0x66 format.Nothing (action.State state.LocalPut) 1 (only 3) (only 0) ∷
    -- app_global_put
    entry 0x67 format.Nothing (action.State state.GlobalPut) 1 (only 2) (only 0) ∷
    -- app_local_del
    entry 0x68 format.Nothing (action.State state.LocalDel) 1 (only 2) (only 0) ∷
    -- app_global_del
    entry 0x69 format.Nothing (action.State state.GlobalDel) 1 (only 1) (only 0) ∷
    -- pushbytes
    entry 0x80 format.Bytes (action.Constant constant.PushBytes) 1 (only 0) (only 1) ∷
    -- pushint
    entry 0x81 format.Int (action.Constant constant.PushInt) 1 (only 0) (only 1) ∷
    -- pushbytess
    entry 0x82 format.Blobs (action.Constant constant.PushBytess) 1 (only 0) (and_counted 0) ∷
    -- pushints
    entry 0x83 format.Ints (action.Constant constant.PushInts) 1 (only 0) (and_counted 0) ∷
    -- callsub
    entry 0x88 format.Jump (action.Frame frame.CallSub) 1 (only 0) (only 0) ∷
    -- retsub
    entry 0x89 format.Nothing (action.Frame frame.RetSub) 1 (only 0) (only 0) ∷
    -- proto
    entry 0x8a format.Two (action.Frame frame.Proto) 1 (only 0) (only 0) ∷
    -- frame_dig
    entry 0x8b format.Signed (action.Frame frame.FrameDig) 1 (only 0) (only 1) ∷
    -- frame_bury
    entry 0x8c format.Signed (action.Frame frame.FrameBury) 1 (only 1) (only 0) ∷
    -- switch
    entry 0x8d format.Jumps (action.Flow flow.Switch) 1 (only 1) (only 0) ∷
    -- match
    entry 0x8e format.Jumps (action.Flow flow.Match) 1 (and_counted 1) (only 0) ∷
    -- shl
    entry 0x90 format.Nothing (action.Value (value.Arithmetic arithmetic.ShiftLeft)) 1 (only 2) (only 1) ∷
    -- shr
    entry 0x91 format.Nothing (action.Value (value.Arithmetic arithmetic.ShiftRight)) 1 (only 2) (only 1) ∷
    -- sqrt
    entry 0x92 format.Nothing (action.Value (value.Unary unary.SquareRoot)) 4 (only 1) (only 1) ∷
    -- bitlen
    entry 0x93 format.Nothing (action.Value value.BitLength) 1 (only 1) (only 1) ∷
    -- exp
    entry 0x94 format.Nothing (action.Value (value.Arithmetic arithmetic.Power)) 1 (only 2) (only 1) ∷
    -- divw
    entry 0x97 format.Nothing (action.Value (value.Wide wide.Divide)) 1 (only 3) (only 1) ∷
    -- bzero
    entry 0xaf format.Nothing (action.Value value.Bzero) 1 (only 1) (only 1) ∷
    -- log
    entry 0xb0 format.Nothing (action.State state.Log) 1 (only 1) (only 0) ∷
    -- box_create
    entry 0xb9 format.Nothing (action.State state.BoxCreate) 1 (only 2) (only 1) ∷
    -- box_extract
    entry 0xba format.Nothing (action.State state.BoxExtract) 1 (only 3) (only 1) ∷
    -- box_replace
    entry 0xbb format.Nothing (action.State state.BoxReplace) 1 (only 3) (only 0) ∷
    -- box_del
    entry 0xbc format.Nothing (action.State state.BoxDel) 1 (only 1) (only 1) ∷
    -- box_len
    entry 0xbd format.Nothing (action.State state.BoxLen) 1 (only 1) (only 2) ∷
    -- box_get
    entry 0xbe format.Nothing (action.State state.BoxGet) 1 (only 1) (only 2) ∷
    -- box_put
    entry 0xbf format.Nothing (action.State state.BoxPut) 1 (only 2) (only 0) ∷
    -- txnas
    entry 0xc0 (format.Field fields.Array) (action.Field field.Txnas) 1 (only 1) (only 1) ∷
    []

-- the row that an opcode has in such a table
abbrev pub row_in : List (ℕ × Row) → ℕ → Option Row
row_in [] op = None
row_in (e ∷ es) op = if op == e.0 then Some e.1 else row_in es op

-- the row of an opcode, if it is one
unfoldable pub row_of : ℕ → Option Row
row_of op = row_in table op
