use Rattle.puya_tool.specs.Commands.{NamedEnds, TextEnds}
use Rattle.puya_tool.proofs.Due.{text_ends, on_ok}
use Rattle.puya_tool.proofs.call.call_saved.Goals as goal

pub returns-in-Ok : goal.returns-in-Ok
returns-in-Ok c =
    let read = rw c.in-Ok.is at c.in_ok-fault.ensures in
    on_ok (NamedEnds c.args.builds.now c.args.file.now c.in-Ok.saved) (TextEnds c.args.builds.now c.args.file.now c.args.text.now) c.run_named.result
    (λ a ends. text_ends c.args.builds.now c.args.file.now c.args.text.now c.in-Ok.saved a read ends) c.run_named.ensures
