-- The printed outcome of a run: how it ended, what it cost, and for an approved one its logs and its whole new state.
use Rattle.std.specs.Prelude.{ℕ, List, [], ◌∷◌, ◌++◌, codes}
use Rattle.std.specs.List.{flat_map}
use Rattle.std.specs.Fmt.{decimal}
use Rattle.std.specs.FinMap as map
use Rattle.hex.specs.Hex.{encode_lower}
use Rattle.puya_base.specs.declared.value.Value.{Value}
use Rattle.puya_base.specs.declared.value.Value.TheVariants.{Int, Bytes}
use Rattle.avm_state.specs.Keys.{LocalKey}
use Rattle.avm_state.specs.LedgerState.{LedgerState}
use Rattle.avm_run.specs.declared.outcome.Outcome.{Outcome}
use Rattle.avm_run.specs.declared.outcome.Outcome.TheVariants.{Approved, Rejected, OverBudget, OverDepth}
use Rattle.avm_run.specs.declared.outcome.Ran.{Ran}

-- a number in decimal, bytes as `0x` and hexadecimal digits
unfoldable pub value_word : Value → List ℕ
value_word (Int n) = decimal n
value_word (Bytes b) = codes "0x" ++ encode_lower b

unfoldable pub log_line : List ℕ → List ℕ
log_line bytes = codes "log " ++ (encode_lower bytes ++ codes "\n")

-- a key and its value
unfoldable pub global_line : List ℕ × Value → List ℕ
global_line entry = codes "global " ++ (encode_lower entry.0 ++ (codes " " ++ (value_word entry.1 ++ codes "\n")))

-- an account, a key of its own and the value
unfoldable pub local_line : LocalKey × Value → List ℕ
local_line entry = codes "local " ++ (encode_lower entry.0.0 ++ (codes " " ++ (encode_lower entry.0.1 ++ (codes " " ++ (value_word entry.1 ++ codes "\n")))))

-- a name and the bytes of the box
unfoldable pub box_line : List ℕ × List ℕ → List ℕ
box_line entry = codes "box " ++ (encode_lower entry.0 ++ (codes " " ++ (encode_lower entry.1 ++ codes "\n")))

abbrev pub log_lines : LedgerState → List ℕ
log_lines ledger = flat_map log_line ledger.logs

abbrev pub global_lines : LedgerState → List ℕ
global_lines ledger = flat_map global_line (map.entries ledger.global)

abbrev pub local_lines : LedgerState → List ℕ
local_lines ledger = flat_map local_line (map.entries ledger.local)

abbrev pub box_lines : LedgerState → List ℕ
box_lines ledger = flat_map box_line (map.entries ledger.boxes)

-- the logs in their order, then the state, each map in the byte order of its keys
unfoldable pub ledger_lines : LedgerState → List ℕ
ledger_lines ledger = log_lines ledger ++ (global_lines ledger ++ (local_lines ledger ++ box_lines ledger))

unfoldable pub cost_line : ℕ → List ℕ
cost_line spent = codes "cost " ++ (decimal spent ++ codes "\n")

-- a line that names the place where the run stopped
unfoldable pub stop_line : List ℕ → ℕ → List ℕ
stop_line how pc = how ++ (codes " at " ++ (decimal pc ++ codes "\n"))

-- the lines of an outcome, with the place and what was spent
unfoldable pub outcome_lines : Outcome → ℕ → ℕ → List ℕ
outcome_lines (Approved ledger) pc spent = codes "approved\n" ++ (cost_line spent ++ ledger_lines ledger)
outcome_lines Rejected pc spent = stop_line (codes "rejected") pc ++ cost_line spent
outcome_lines OverBudget pc spent = stop_line (codes "over budget") pc ++ cost_line spent
outcome_lines OverDepth pc spent = stop_line (codes "over depth") pc ++ cost_line spent

-- the printed outcome of a run
abbrev pub text_of : Ran → List ℕ
text_of ran = outcome_lines ran.outcome ran.pc ran.spent
