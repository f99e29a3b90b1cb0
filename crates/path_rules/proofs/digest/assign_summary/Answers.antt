use Rattle.path_rules.specs.Steps.{assign, one}
use Rattle.path_rules.specs.Summaries.{assign_effect}
use Rattle.path_rules.proofs.Compounds.{naming_gives}
use Rattle.path_rules.proofs.Leaves.{describes_assign}
use Rattle.path_rules.proofs.digest.assign_summary.Goals as goal

pub returns : goal.returns
returns c = naming_gives c.naming.result c.args.variable c.assign_effect.result assign_effect (one (assign c.args.variable)) c.assign_effect.ensures c.naming.ensures (describes_assign c.args.variable)
