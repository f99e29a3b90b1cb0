use Rattle.runs.specs.Marks.{IsPrefix, AreEqual}
use Rattle.runs.proofs.Laws.{prefix_of_itself, prefixes_join, equals_join, at_most_itself, at_most_joins, equal_is_prefix, no_deeper_joins}
use Rattle.std.proofs.Common.{refl}
use Rattle.runs.proofs.at_most_composes.Goals as goal

pub returns-clause-itself : goal.returns-clause-itself
returns-clause-itself c = at_most_itself AreEqual (λ l. refl) equals_join

pub returns-clause-joins : goal.returns-clause-joins
returns-clause-joins c = at_most_joins AreEqual (λ l. refl) equals_join

pub returns-clause-weaker : goal.returns-clause-weaker
returns-clause-weaker c = equal_is_prefix

pub returns-clause-prefixes_join : goal.returns-clause-prefixes_join
returns-clause-prefixes_join c = at_most_joins IsPrefix prefix_of_itself prefixes_join

pub returns-clause-deeper_joins : goal.returns-clause-deeper_joins
returns-clause-deeper_joins c = no_deeper_joins
