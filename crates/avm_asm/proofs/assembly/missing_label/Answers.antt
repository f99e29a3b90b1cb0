use Rattle.avm_asm.proofs.Judging.{missing_here, missing_later}
use Rattle.avm_asm.proofs.assembly.missing_label.Goals as goal

pub returns-in-Some : goal.returns-in-Some
returns-in-Some c =
    missing_here c.args.places.now c.args.lines.now c.loop-line.line-index c.line-item.result c.in-Some.label c.loop-line-test.true c.line-item.is c.loop-line.invariant c.in-Some.ensures

pub loop-line-preserved : goal.loop-line-preserved
loop-line-preserved c =
    missing_later c.args.places.now c.args.lines.now c.loop-line.line-index c.line-item.result c.loop-line-test.true c.line-item.is c.loop-line.invariant c.in_default.ensures
