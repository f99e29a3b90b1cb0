use Rattle.std.proofs.Common.{Ok, rules}
use Rattle.avm_state.specs.LedgerState.{LedgerState}
use Rattle.avm_state.specs.Steps.{Steps, set_box_step}
use Rattle.avm_state.proofs.Starting.{set_box_keeps}
use Rattle.avm_state.proofs.ledger.Ledger.set_box.Goals as goal

pub returns-clause-starting : goal.returns-clause-starting
returns-clause-starting c s =
    let inside = c.self.inside in
    let new : LedgerState = record { global = inside.global; opted = inside.opted; local = inside.local; boxes = c.put.new.self; logs = inside.logs } in
    let step : Steps (set_box_step c.args.self.now c.args.name.now c.args.value.now) c.args.self.now new (Ok tt) = search rules in
    set_box_keeps c.args.self.now new c.args.name.now c.args.value.now (Ok tt) step s
