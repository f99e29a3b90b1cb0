use Rattle.std.proofs.Common.{Ok, rules}
use Rattle.avm_state.specs.LedgerState.{LedgerState}
use Rattle.avm_state.specs.Steps.{Steps, global_put_step}
use Rattle.avm_state.proofs.Starting.{global_put_keeps}
use Rattle.avm_state.proofs.ledger.Ledger.global_put.Goals as goal

pub returns-clause-starting : goal.returns-clause-starting
returns-clause-starting c s =
    let inside = c.self.inside in
    let new : LedgerState = record { global = c.put.new.self; opted = inside.opted; local = inside.local; boxes = inside.boxes; logs = inside.logs } in
    let step : Steps (global_put_step c.args.self.now c.args.key.now c.args.value.now) c.args.self.now new (Ok tt) = search rules in
    global_put_keeps c.args.self.now new c.args.key.now c.args.value.now (Ok tt) step s
