-- The names of instructions and of fields (AVM specification, "Opcodes", "Transaction Fields" and "Global Fields").
use Rattle.std.specs.Prelude.{ℕ, ◌==◌, if◌then◌else◌, List, [], ◌∷◌, codes, bytes_eq, Option, Some, None}
use Rattle.avm_ops.specs.declared.rows.Fields.{Fields}
use Rattle.avm_ops.specs.declared.rows.Fields.TheVariants as fields

-- each opcode of the table with its name
unfoldable pub mnemonics : List (ℕ × List ℕ)
mnemonics =
    (0x00, codes "err") ∷
    (0x01, codes "sha256") ∷
    (0x03, codes "sha512_256") ∷
    (0x08, codes "+") ∷
    (0x09, codes "-") ∷
    (0x0a, codes "/") ∷
    (0x0b, codes "*") ∷
    (0x0c, codes "<") ∷
    (0x0d, codes ">") ∷
    (0x0e, codes "<=") ∷
    (0x0f, codes ">=") ∷
    (0x10, codes "&&") ∷
    (0x11, codes "||") ∷
    (0x12, codes "==") ∷
    (0x13, codes "!=") ∷
    (0x14, codes "!") ∷
    (0x15, codes "len") ∷
    (0x16, codes "itob") ∷
    (0x17, codes "btoi") ∷
    (0x18, codes "%") ∷
    (0x19, codes "|") ∷
    (0x1a, codes "&") ∷
    (0x1b, codes "^") ∷
    (0x1c, codes "~") ∷
    (0x1d, codes "mulw") ∷
    (0x1e, codes "addw") ∷
    (0x1f, codes "divmodw") ∷
    (0x20, codes "intcblock") ∷
    (0x21, codes "intc") ∷
    (0x22, codes "intc_0") ∷
    (0x23, codes "intc_1") ∷
    (0x24, codes "intc_2") ∷
    (0x25, codes "intc_3") ∷
    (0x26, codes "bytecblock") ∷
    (0x27, codes "bytec") ∷
    (0x28, codes "bytec_0") ∷
    (0x29, codes "bytec_1") ∷
    (0x2a, codes "bytec_2") ∷
    (0x2b, codes "bytec_3") ∷
    (0x31, codes "txn") ∷
    (0x32, codes "global") ∷
    (0x34, codes "load") ∷
    (0x35, codes "store") ∷
    (0x36, codes "txna") ∷
    (0x40, codes "bnz") ∷
    (0x41, codes "bz") ∷
    (0x42, codes "b") ∷
    (0x43, codes "return") ∷
    (0x44, codes "assert") ∷
    (0x45, codes "bury") ∷
    (0x46, codes "popn") ∷
    (0x47, codes "dupn") ∷
    (0x48, codes "pop") ∷
    (0x49, codes "dup") ∷
    (0x4a, codes "dup2") ∷
    (0x4b, codes "dig") ∷
    (0x4c, codes "swap") ∷
    (0x4d, codes "select") ∷
    (0x4e, codes "cover") ∷
    (0x4f, codes "uncover") ∷
    (0x50, codes "concat") ∷
    (0x51, codes "substring") ∷
    (0x52, codes "substring3") ∷
    (0x53, codes "getbit") ∷
    (0x54, codes "setbit") ∷
    (0x55, codes "getbyte") ∷
    (0x56, codes "setbyte") ∷
    (0x57, codes "extract") ∷
    (0x58, codes "extract3") ∷
    (0x59, codes "extract_uint16") ∷
    (0x5a, codes "extract_uint32") ∷
    (0x5b, codes "extract_uint64") ∷
    (0x5c, codes "replace2") ∷
    (0x5d, codes "replace3") ∷
    (0x62, codes "app_local_get") ∷
    (0x63, codes "app_local_get_ex") ∷
    (0x64, codes "app_global_get") ∷
    (0x65, codes "app_global_get_ex") ∷
    (0x66, codes "app_local_put") ∷
    (0x67, codes "app_global_put") ∷
    (0x68, codes "app_local_del") ∷
    (0x69, codes "app_global_del") ∷
    (0x80, codes "pushbytes") ∷
    (0x81, codes "pushint") ∷
    (0x82, codes "pushbytess") ∷
    (0x83, codes "pushints") ∷
    (0x88, codes "callsub") ∷
    (0x89, codes "retsub") ∷
    (0x8a, codes "proto") ∷
    (0x8b, codes "frame_dig") ∷
    (0x8c, codes "frame_bury") ∷
    (0x8d, codes "switch") ∷
    (0x8e, codes "match") ∷
    (0x90, codes "shl") ∷
    (0x91, codes "shr") ∷
    (0x92, codes "sqrt") ∷
    (0x93, codes "bitlen") ∷
    (0x94, codes "exp") ∷
    (0x97, codes "divw") ∷
    (0xaf, codes "bzero") ∷
    (0xb0, codes "log") ∷
    (0xb9, codes "box_create") ∷
    (0xba, codes "box_extract") ∷
    (0xbb, codes "box_replace") ∷
    (0xbc, codes "box_del") ∷
    (0xbd, codes "box_len") ∷
    (0xbe, codes "box_get") ∷
    (0xbf, codes "box_put") ∷
    (0xc0, codes "txnas") ∷
    []

-- each field with its name
abbrev pub field_names : Fields → List (ℕ × List ℕ)
field_names fields.Transaction =
    (0, codes "Sender") ∷ (1, codes "Fee") ∷ (5, codes "Note") ∷ (24, codes "ApplicationID") ∷ (25, codes "OnCompletion") ∷ (27, codes "NumAppArgs") ∷ []
field_names fields.Global =
    (3, codes "ZeroAddress") ∷ (6, codes "Round") ∷ (7, codes "LatestTimestamp") ∷ (8, codes "CurrentApplicationID") ∷ (9, codes "CreatorAddress") ∷ []
field_names fields.Array = (26, codes "ApplicationArgs") ∷ []

-- the name that a number has in such a list
abbrev pub name_in : List (ℕ × List ℕ) → ℕ → List ℕ
name_in [] n = []
name_in (e ∷ es) n = if n == e.0 then e.1 else name_in es n

-- the number that a name has in such a list
abbrev pub number_in : List (ℕ × List ℕ) → List ℕ → Option ℕ
number_in [] name = None
number_in (e ∷ es) name = if bytes_eq e.1 name then Some e.0 else number_in es name

-- the name of an opcode
unfoldable pub name_of : ℕ → List ℕ
name_of op = name_in mnemonics op

-- the opcode of a name, if it is one
unfoldable pub opcode_named : List ℕ → Option ℕ
opcode_named name = number_in mnemonics name

-- the name of a field
abbrev pub field_name : Fields → ℕ → List ℕ
field_name fs n = name_in (field_names fs) n

-- the field of a name, if it is one
abbrev pub field_named : Fields → List ℕ → Option ℕ
field_named fs name = number_in (field_names fs) name
