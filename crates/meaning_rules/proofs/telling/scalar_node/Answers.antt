use Rattle.meaning_rules.proofs.Equalities.{a_node-Scalar}
use Rattle.meaning_rules.proofs.telling.scalar_node.Goals as goal

pub returns : goal.returns
returns c = a_node-Scalar c.args.place c.args.scalar c.typed_scalar.result c.args.kind c.typed_scalar.ensures
