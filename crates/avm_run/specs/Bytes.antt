-- A program's bytes as the machine's code: the version byte, and from place 1 on instructions (AVM specification, "Encoding").
use Rattle.std.specs.Prelude.{ℕ, ℤ, pos, negsuc, ◌+ℤ◌, List, [], ◌∷◌, map, Option, Some, None, Result, Ok, Err}
use Rattle.avm_ops.specs.declared.instr.Instr.{Instr}
use Rattle.avm_ops.specs.declared.instr.Imm.{Imm}
use Rattle.avm_ops.specs.declared.instr.Imm.TheVariants as imm
use Rattle.avm_ops.specs.declared.instr.DecodeFault.{DecodeFault}
use Rattle.avm_ops.specs.Code.{decoded_at}
use Rattle.avm_state.specs.declared.call.Call.{Call}
use Rattle.avm_state.specs.LedgerState.{LedgerState}
use Rattle.avm_run.specs.declared.outcome.Ran.{Ran}
use Rattle.avm_run.specs.Machine.{Standing, Code, machine}

-- where an offset leads that is counted from the end of its instruction
abbrev pub target : ℕ → ℤ → ℤ
target next j = pos next +ℤ j

-- as a place; no target of a well-formed program is below 0
abbrev pub place : ℤ → ℕ
place (pos n) = n
place (negsuc n) = 0

-- the offsets of a branch
abbrev pub offsets_of : Imm → List ℤ
offsets_of (imm.Jump j) = j ∷ []
offsets_of (imm.Jumps js) = js
offsets_of _ = []

-- the targets of an instruction that ends there
abbrev pub targets_of : ℕ → Imm → List ℤ
targets_of next i = map (target next) (offsets_of i)

abbrev pub standing_of : Instr → ℕ → Standing
standing_of i next = record { instr = i; next = next; targets = map place (targets_of next i.imm) }

abbrev pub standing : Result (Instr × ℕ) DecodeFault → Option Standing
standing (Err f) = None
standing (Ok p) = Some (standing_of p.0 p.1)

abbrev pub code_of : List ℕ → Code
code_of bytes = record { first = 1; at = λ pc. standing (decoded_at bytes pc) }

-- the run of a program's bytes
abbrev pub run_of : List ℕ → Call → LedgerState → Ran
run_of bytes call ledger = machine (code_of bytes) call ledger
