use Rattle.std.proofs.Common.{◌+◌, ◌-◌, ◌∙◌, sym, arith}
use Rattle.avm_run.proofs.Runs.{going_on, ending, run_out}
use Rattle.avm_run.proofs.machine.halt_of.Goals as goal

pub returns-in-Some-clause-value : goal.returns-in-Some-clause-value
returns-in-Some-clause-value c =
    sym (ending _ _ _ _ (c.args.call.now.budget + 1 - c.loop-turn._turn) (c.args.call.now.budget - c.loop-turn._turn) (omega arith) (rw c.in-Some.is at c.in_ok-halt.ensures.turn))
    ∙ c.loop-turn.invariant.same

pub loop-turn-preserved : goal.loop-turn-preserved
loop-turn-preserved c = record {
  spent = rw c.in-None.is at c.in_ok-halt.ensures.spent;
  same =
      sym (going_on _ _ _ _ (c.args.call.now.budget + 1 - c.loop-turn._turn) (c.args.call.now.budget + 1 - (c.loop-turn._turn + 1)) (omega arith) (rw c.in-None.is at c.in_ok-halt.ensures.turn))
      ∙ c.loop-turn.invariant.same;
}

pub returns-in-Some-halt-clause-value : goal.returns-in-Some-halt-clause-value
returns-in-Some-halt-clause-value c =
    sym (ending _ _ _ _ (c.args.call.now.budget + 1 - c.loop-turn._turn) (c.args.call.now.budget - c.loop-turn._turn) (omega arith) (rw c.in-Some-halt.is at c.in_ok-halt-2.ensures.turn))
    ∙ c.loop-turn.invariant.same

pub returns-in-None-halt-clause-value : goal.returns-in-None-halt-clause-value
returns-in-None-halt-clause-value c =
    sym (run_out _ _ _ _ (c.args.call.now.budget + 1 - c.loop-turn._turn) (omega arith) (rw c.in-None-halt.is at c.in_ok-halt-2.ensures.turn))
    ∙ c.loop-turn.invariant.same
