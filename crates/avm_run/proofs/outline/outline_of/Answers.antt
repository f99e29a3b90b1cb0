use Rattle.std.proofs.Common.{arith, subst, sym}
use Rattle.avm_run.specs.declared.outline.Outline.{Outline}
use Rattle.avm_run.proofs.Outlines.{Left, nothing_left, one_more, refused, same_outline, whole}
use Rattle.avm_run.proofs.outline.outline_of.Goals as goal

pub loop-pc-init : goal.loop-pc-init
loop-pc-init c = subst (λ (o : Outline). Left c.args.code.now 1 o) (same_outline _ _ (sym c.new.ensures) (sym c.new-2.ensures)) (nothing_left c.args.code.now c.requires.some)

pub loop-pc-preserved : goal.loop-pc-preserved
loop-pc-preserved c =
    one_more _ _ _ c.in-Ok.instr _ _ c.loop-pc.invariant c.loop-pc-test.true c.in-Ok.ensures.value c.in-Ok.ensures.within.0 c.in-Ok.ensures.within.1
    c.in_ok-note-in-Ok.ensures.starts c.in_ok-note-in-Ok.ensures.branches

pub returns-in-Err-clause-due : goal.returns-in-Err-clause-due
returns-in-Err-clause-due c = rw c.fault_of.ensures (refused c.in-Err.fault _ _ _ c.loop-pc.invariant c.loop-pc-test.true c.in-Err.ensures.value)

pub returns-clause-due : goal.returns-clause-due
returns-clause-due c = whole _ _ _ c.loop-pc.invariant c.loop-pc-test.false
