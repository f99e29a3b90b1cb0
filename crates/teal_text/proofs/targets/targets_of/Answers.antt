use Rattle.teal_text.proofs.Walks.{gather_more, gathered}
use Rattle.teal_text.proofs.targets.targets_of.Goals as goal

pub loop-pc-preserved : goal.loop-pc-preserved
loop-pc-preserved c =
    gather_more _ _ _ c.in_ok-instr.instr _ _ c.loop-pc.invariant c.loop-pc-test.true c.in_ok-instr.ensures.value c.in_ok-instr.ensures.within.0 c.in_ok-gather.ensures

pub returns : goal.returns
returns c = gathered _ _ _ c.loop-pc.invariant c.loop-pc-test.false
