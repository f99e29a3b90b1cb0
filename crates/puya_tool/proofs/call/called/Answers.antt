use Rattle.std.proofs.Common.{List, ℕ, Ok, subst}
use Rattle.std.specs.Prelude.{IfOk, IfSome}
use Rattle.puya_tool.specs.Commands.{CallAnswers, Judged, TextEnds}
use Rattle.puya_tool.proofs.Due.{call_due, on_ok}
use Rattle.puya_tool.proofs.call.called.Goals as goal

pub returns-clause-due : goal.returns-clause-due
returns-clause-due g c =
    let judged = subst (λ (t : List ℕ). Judged c.args.file.now t (Ok c.in-Ok.builds)) c.as_slice.ensures (rw c.in-Ok.is at c.in_ok-builds.ensures) in
    let ends = subst (λ (t : List ℕ). IfOk c.call_saved.result (TextEnds c.in-Ok.builds c.args.call.now t)) c.as_slice-2.ensures c.call_saved.ensures in
    on_ok (TextEnds c.in-Ok.builds c.args.call.now c.read-2.new.into) (λ a. IfSome (g.F.Files.contents c.args.files.now) (λ held. CallAnswers held c.args.file.now c.args.call.now a)) c.call_saved.result
    (λ a h. call_due _ _ _ _ _ _ judged.0 c.in-Ok.builds a c.read.ensures.kept c.in_default.ensures.told c.in_default-read.ensures.told c.read.ensures.within c.read-2.ensures.within judged.1 judged.2 h) ends
