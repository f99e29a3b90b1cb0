use Rattle.runs.proofs.Laws.{agrees_with_itself, agreement_turns, agreements_join}
use Rattle.runs.proofs.agreement_composes.Goals as goal

pub returns-clause-itself : goal.returns-clause-itself
returns-clause-itself c = agrees_with_itself

pub returns-clause-turns : goal.returns-clause-turns
returns-clause-turns c = agreement_turns

pub returns-clause-joins : goal.returns-clause-joins
returns-clause-joins c = agreements_join
