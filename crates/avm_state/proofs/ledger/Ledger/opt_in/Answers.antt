use Rattle.std.proofs.Common.{◌≡◌, OnOk, OnErr, rules}
use Rattle.avm_state.specs.LedgerState.{LedgerState}
use Rattle.avm_state.specs.Steps.{with_opted}
use Rattle.avm_state.proofs.Starting.{opt_in_keeps}
use Rattle.avm_state.proofs.ledger.Ledger.opt_in.Goals as goal

pub returns-clause-starting : goal.returns-clause-starting
returns-clause-starting c s =
    let inside = c.self.inside in
    let new : LedgerState = record { global = inside.global; opted = c.put.new.self; local = inside.local; boxes = inside.boxes; logs = inside.logs } in
    let ok : OnOk c.put.result (new ≡ with_opted c.args.self.now c.args.account.now) = search rules in
    let err : OnErr c.put.result (new ≡ c.args.self.now) = search rules in
    opt_in_keeps c.args.self.now new c.args.account.now c.put.result ok err s
