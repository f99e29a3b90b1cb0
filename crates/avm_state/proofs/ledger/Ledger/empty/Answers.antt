use Rattle.std.proofs.Common.{◌≡◌, sym, subst, rules}
use Rattle.avm_state.specs.LedgerState.{LedgerState, no_entries}
use Rattle.avm_state.specs.Forms.{IsStarting}
use Rattle.avm_state.proofs.Starting.{no_entries_start}
use Rattle.avm_state.proofs.ledger.Ledger.empty.Goals as goal

pub returns-clause-starting : goal.returns-clause-starting
returns-clause-starting c =
    let new : LedgerState = record { global = c.new.result; opted = c.new-2.result; local = c.new-3.result; boxes = c.new-4.result; logs = c.new-5.result } in
    let same : new ≡ no_entries = search rules in
    subst IsStarting (sym same) no_entries_start
