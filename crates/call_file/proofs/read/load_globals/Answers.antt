use Rattle.std.proofs.Common.{subst}
use Rattle.std.specs.Prelude.{codes, Result}
use Rattle.serde_json.specs.View.{view}
use Rattle.avm_state.specs.LedgerState.{LedgerState}
use Rattle.call_file.specs.declared.fault.CallFault.{CallFault}
use Rattle.call_file.specs.Faults.{Answers}
use Rattle.call_file.specs.Loads.{globals, loaded, load_within, puts}
use Rattle.call_file.proofs.Loading.{loads, globals_keyed, same_field}
use Rattle.call_file.proofs.read.load_globals.Goals as goal

pub returns : goal.returns
returns c =
    subst (λ (due : Result LedgerState CallFault). Answers due c.field.result)
    (same_field (codes "global") (load_within 64 (puts globals) c.args.ledger) (loaded 64 globals c.args.ledger) (view c.args.object.now) (loads globals globals_keyed 64 c.args.ledger))
    c.field.ensures
