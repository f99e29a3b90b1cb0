use Rattle.std.proofs.Common.{◌∙◌, subst}
use Rattle.std.specs.Prelude.{IfOk, IfSome}
use Rattle.avm_run.specs.Form.{IsWellFormed}
use Rattle.puya_tool.specs.Commands.{RunAnswers, RunEnds}
use Rattle.puya_tool.proofs.Due.{run_due, on_ok}
use Rattle.puya_tool.proofs.run.ran.Goals as goal

pub returns-clause-due : goal.returns-clause-due
returns-clause-due g c =
    let judged = rw c.in-Ok.is at c.in_ok-program.ensures in
    let form = subst IsWellFormed c.as_slice.ensures judged.1 in
    let on_code = subst (λ p. IfOk c.run_text.result (RunEnds p c.args.call.now c.as_slice-2.result.now)) (judged.0 ∙ c.as_slice.ensures) c.run_text.ensures in
    let ends = subst (λ t. IfOk c.run_text.result (RunEnds c.read.new.into c.args.call.now t)) c.as_slice-2.ensures on_code in
    on_ok (RunEnds c.read.new.into c.args.call.now c.read-2.new.into) (λ a. IfSome (g.F.Files.contents c.args.files.now) (λ held. RunAnswers held c.args.file.now c.args.call.now a)) c.run_text.result
    (λ a h. run_due _ _ _ _ _ _ a c.read.ensures.kept c.in_default.ensures.told c.in_default-read.ensures.told c.read.ensures.within c.read-2.ensures.within form h) ends
