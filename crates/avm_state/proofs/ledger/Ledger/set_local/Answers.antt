use Rattle.std.proofs.Common.{Ok, rules}
use Rattle.avm_state.specs.LedgerState.{LedgerState}
use Rattle.avm_state.specs.Steps.{Steps, set_local_step}
use Rattle.avm_state.proofs.Starting.{set_local_keeps}
use Rattle.avm_state.proofs.ledger.Ledger.set_local.Goals as goal

pub returns-clause-starting : goal.returns-clause-starting
returns-clause-starting c s =
    let inside = c.self.inside in
    let new : LedgerState = record { global = inside.global; opted = inside.opted; local = c.put.new.self; boxes = inside.boxes; logs = inside.logs } in
    let step : Steps (set_local_step c.args.self.now c.args.account.now c.args.key.now c.args.value.now) c.args.self.now new (Ok tt) = search rules in
    set_local_keeps c.args.self.now new c.args.account.now c.args.key.now c.args.value.now (Ok tt) step s
