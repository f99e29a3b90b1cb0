use Rattle.path_rules.specs.Steps.{read, one}
use Rattle.path_rules.specs.Summaries.{read_effect}
use Rattle.path_rules.proofs.Compounds.{naming_gives}
use Rattle.path_rules.proofs.Leaves.{describes_read}
use Rattle.path_rules.proofs.digest.read_summary.Goals as goal

pub returns : goal.returns
returns c = naming_gives c.naming.result c.args.variable c.read_effect.result (read_effect c.args.place) (one (read c.args.variable c.args.place)) c.read_effect.ensures c.naming.ensures (describes_read c.args.variable c.args.place)
