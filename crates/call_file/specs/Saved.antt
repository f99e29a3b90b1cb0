-- What a call file says: its fields in the order in which they are judged (AVM specification, "Transaction Fields", "Accessing Application State", "Boxes").
use Rattle.std.specs.Prelude.{ℕ, Bool, true, false, if◌then◌else◌, List, codes, Option, Some, None, Result, Ok, Err, is_some}
use Rattle.std.specs.Str.{is_utf8}
use Rattle.serde_json.specs.Data.{Data}
use Rattle.serde_json.specs.Read.{read}
use Rattle.serde_json.specs.Find.{as_bool, as_str, as_object}
use Rattle.avm_state.specs.LedgerState.{LedgerState, no_entries}
use Rattle.avm_state.specs.declared.call.Call.{Call}
use Rattle.call_file.specs.declared.fault.CallFault.{CallFault}
use Rattle.call_file.specs.declared.fault.CallFault.TheVariants.{Json}
use Rattle.call_file.specs.declared.parts.Act.{Act}
use Rattle.call_file.specs.declared.parts.Origin.{Origin}
use Rattle.call_file.specs.declared.parts.Reach.{Reach}
use Rattle.call_file.specs.declared.parts.Setting.{Setting}
use Rattle.call_file.specs.declared.saved.Saved.{Saved}
use Rattle.call_file.specs.Forms.{number, from_one, number_within, completion, bytes_within, address, box_name, list_within, arguments}
use Rattle.call_file.specs.Faults.{◌>>=◌, field}
use Rattle.call_file.specs.Loads.{loaded, globals, opted, locals, boxes}

-- a text, where it is named
abbrev pub contract_of : Bool → Data → Result (Option (List ℕ)) CallFault
contract_of false d = Ok None
contract_of true d = do
  contract ← field (codes "contract") as_str d
  Ok (Some contract)

-- the fields of the call: each is missing, or else bad, or else what stands there; the first fault is the answer
abbrev pub act_of : Data → Result Act CallFault
act_of d = do
  application ← field (codes "application") from_one d
  creating ← field (codes "creating") as_bool d
  on_completion ← field (codes "on_completion") (completion creating) d
  args ← field (codes "args") arguments d
  Ok (record { application = application; creating = creating; on_completion = on_completion; args = args })

abbrev pub origin_of : Data → Result Origin CallFault
origin_of d = do
  sender ← field (codes "sender") address d
  fee ← field (codes "fee") number d
  note ← field (codes "note") (bytes_within 0 1024) d
  Ok (record { sender = sender; fee = fee; note = note })

abbrev pub reach_of : Data → Result Reach CallFault
reach_of d = do
  accounts ← field (codes "accounts") (list_within 4 address) d
  boxes ← field (codes "boxes") (list_within 8 box_name) d
  Ok (record { accounts = accounts; boxes = boxes })

abbrev pub setting_of : Data → Result Setting CallFault
setting_of d = do
  round ← field (codes "round") number d
  timestamp ← field (codes "timestamp") number d
  creator ← field (codes "creator") address d
  budget ← field (codes "budget") (number_within 1 11200) d
  Ok (record { round = round; timestamp = timestamp; creator = creator; budget = budget })

-- the call of its parts
abbrev pub joined : Act → Origin → Reach → Setting → Call
joined act origin reach setting = record {
  application = act.application;
  creating = act.creating;
  on_completion = act.on_completion;
  args = act.args;
  sender = origin.sender;
  fee = origin.fee;
  note = origin.note;
  accounts = reach.accounts;
  boxes = reach.boxes;
  round = setting.round;
  timestamp = setting.timestamp;
  creator = setting.creator;
  budget = setting.budget;
}

abbrev pub call_of : Data → Result Call CallFault
call_of d = do
  act ← act_of d
  origin ← origin_of d
  reach ← reach_of d
  setting ← setting_of d
  Ok (joined act origin reach setting)

-- the fields of the ledger, each loaded into what the ones before gave, from a ledger with nothing in it
abbrev pub ledger_of : Data → Result LedgerState CallFault
ledger_of d = do
  first ← field (codes "global") (loaded 64 globals no_entries) d
  second ← field (codes "opted") (loaded 16 opted first) d
  third ← field (codes "local") (loaded 256 locals second) d
  field (codes "box") (loaded 64 boxes third) d

-- all of them
abbrev pub fields_of : Bool → Data → Result Saved CallFault
fields_of named d = do
  contract ← contract_of named d
  call ← call_of d
  ledger ← ledger_of d
  Ok (record { contract = contract; call = call; ledger = ledger })

-- the value that a text is, where it is UTF-8
abbrev pub value_of : List ℕ → Option Data
value_of text = if is_utf8 text then read text else None

-- only an object has fields
abbrev pub of_value : Bool → Option Data → Result Saved CallFault
of_value named None = Err Json
of_value named (Some d) = if is_some (as_object d) then fields_of named d else Err Json

-- what a call file says, or its first fault
unfoldable pub saved_of : Bool → List ℕ → Result Saved CallFault
saved_of named text = of_value named (value_of text)
