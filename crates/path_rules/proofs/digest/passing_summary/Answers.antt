use Rattle.path_rules.specs.Describes.{DescribesFault}
use Rattle.path_rules.specs.Summaries.{only_goes}
use Rattle.path_rules.proofs.Compounds.{plain_gives}
use Rattle.path_rules.proofs.Leaves.{describes_fault}
use Rattle.path_rules.proofs.digest.passing_summary.Goals as goal

pub returns : goal.returns
returns c = plain_gives (λ m. DescribesFault m) c.plain.result c.only_goes.result only_goes c.plain.ensures c.only_goes.ensures describes_fault
