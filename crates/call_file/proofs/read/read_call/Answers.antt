use Rattle.std.proofs.Common.{sym, subst, Result, ◌∙◌}
use Rattle.serde_json.specs.View.{view}
use Rattle.call_file.specs.declared.fault.CallFault.{CallFault}
use Rattle.call_file.specs.declared.saved.Saved.{Saved}
use Rattle.call_file.specs.Faults.{Answers}
use Rattle.call_file.proofs.Whole.{ready, call_ready, ledger_ready, of_object, of_nothing}
use Rattle.call_file.proofs.read.read_call.Goals as goal

pub returns-then-is_object-clause-value : goal.returns-then-is_object-clause-value
returns-then-is_object-clause-value c =
    subst (λ (due : Result Saved CallFault). Answers due c.read_fields.result)
    (sym (of_object c.args.named c.args.text.now (view c.in-Ok.value) c.in-Ok.ensures.ok.0 c.in-Ok.ensures.ok.1 (sym c.is_object.ensures ∙ c.if-is_object.true)))
    c.read_fields.ensures

pub returns-then-is_object-clause-in_form : goal.returns-then-is_object-clause-in_form
returns-then-is_object-clause-in_form c = call_ready c.read_fields.result (ready c.args.named (view c.in-Ok.value) c.read_fields.result c.read_fields.ensures)

pub returns-then-is_object-clause-starting : goal.returns-then-is_object-clause-starting
returns-then-is_object-clause-starting c = ledger_ready c.read_fields.result (ready c.args.named (view c.in-Ok.value) c.read_fields.result c.read_fields.ensures)

pub returns-clause-value : goal.returns-clause-value
returns-clause-value c =
    of_nothing c.args.named c.args.text.now (c.in-Err.ensures.err (λ memory. let said = c.is_memory.ensures.1 memory in cc (said, c.if-is_memory.false)))
