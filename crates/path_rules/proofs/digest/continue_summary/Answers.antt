use Rattle.path_rules.specs.Describes.{DescribesContinue}
use Rattle.path_rules.specs.Summaries.{only_continues}
use Rattle.path_rules.proofs.Compounds.{plain_gives}
use Rattle.path_rules.proofs.Leaves.{describes_continue}
use Rattle.path_rules.proofs.digest.continue_summary.Goals as goal

pub returns : goal.returns
returns c = plain_gives (λ m. DescribesContinue m) c.plain.result c.only_continues.result only_continues c.plain.ensures c.only_continues.ensures describes_continue
