use Rattle.teal_text.proofs.Walks.{print_more, printed}
use Rattle.teal_text.proofs.printing.push_body.Goals as goal

pub loop-pc-preserved : goal.loop-pc-preserved
loop-pc-preserved c =
    print_more _ _ _ _ _ c.in_ok-instr.instr _ _ c.loop-pc.invariant c.loop-pc-test.true c.in_ok-instr.ensures.value c.in_ok-instr.ensures.within.0 c.in_ok-push_placed.ensures

pub returns : goal.returns
returns c = printed _ _ _ _ _ c.loop-pc.invariant c.loop-pc-test.false
