use Rattle.path_rules.specs.Steps.{forget, one}
use Rattle.path_rules.specs.Summaries.{forget_effect}
use Rattle.path_rules.proofs.Compounds.{naming_gives}
use Rattle.path_rules.proofs.Leaves.{describes_forget}
use Rattle.path_rules.proofs.digest.forget_summary.Goals as goal

pub returns : goal.returns
returns c = naming_gives c.naming.result c.args.variable c.forget_effect.result forget_effect (one (forget c.args.variable)) c.forget_effect.ensures c.naming.ensures (describes_forget c.args.variable)
