use Rattle.std.proofs.Common.{subst, sym}
use Rattle.type_check.specs.Placing.{Answers, refuses}
use Rattle.type_check.proofs.Answering.{answers_when}
use Rattle.type_check.proofs.contracts.answer.Goals as goal

pub returns-in-Some : goal.returns-in-Some
returns-in-Some c h = rw c.in-Some.is (refuses c.in-Some.refusal)

pub returns-in-None : goal.returns-in-None
returns-in-None c h = subst (λ first. Answers c.args.items.now first c.assembled.result) (sym c.in-None.is) (answers_when c.args.items.now c.assembled.result (c.assembled.ensures h))
