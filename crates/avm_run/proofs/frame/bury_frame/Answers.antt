use Rattle.std.proofs.Common.{sym, subst}
use Rattle.std.specs.Prelude.{Option, List}
use Rattle.std.specs.Int.{w8}
use Rattle.std.proofs.lemmas.Int.{to_z-of_z}
use Rattle.puya_base.specs.declared.value.Value.{Value}
use Rattle.avm_run.specs.Answers.{Acts}
use Rattle.avm_run.specs.Frames.{frame_set}
use Rattle.avm_run.proofs.Tops.{frame_bury_is}
use Rattle.avm_run.proofs.frame.bury_frame.Goals as goal

pub returns-in-Some : goal.returns-in-Some
returns-in-Some c =
    let whole = frame_bury_is c.args.frames.now c.args.offset c.args.stack.now c.pop.new.self c.in-Some.value c.in-Some.ensures in
    let same = to_z-of_z w8 c.args.offset c.ranges.offset in
    subst (λ (o : Option (List Value)). Acts c.set_in_frame.result c.set_in_frame.new.stack o) (sym whole)
    (subst (λ i. Acts c.set_in_frame.result c.set_in_frame.new.stack (frame_set c.args.frames.now i c.pop.new.self c.in-Some.value)) same c.set_in_frame.ensures)
