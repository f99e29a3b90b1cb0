use Rattle.path_rules.specs.Describes.{DescribesBreak}
use Rattle.path_rules.specs.Summaries.{only_breaks}
use Rattle.path_rules.proofs.Compounds.{plain_gives}
use Rattle.path_rules.proofs.Leaves.{describes_break}
use Rattle.path_rules.proofs.digest.break_summary.Goals as goal

pub returns : goal.returns
returns c = plain_gives (λ m. DescribesBreak m) c.plain.result c.only_breaks.result only_breaks c.plain.ensures c.only_breaks.ensures describes_break
