use Rattle.std.proofs.Common.{ap}
use Rattle.path_rules.specs.Describes.{DescribesReturn}
use Rattle.path_rules.specs.Summaries.{no_exits}
use Rattle.path_rules.proofs.Compounds.{plain_gives}
use Rattle.path_rules.proofs.Leaves.{describes_return}
use Rattle.path_rules.proofs.digest.return_summary.Goals as goal

pub returns : goal.returns
returns c = plain_gives (λ m. DescribesReturn m) c.plain.result c.no_endings.result.exits no_exits c.plain.ensures (ap (λ z. z.exits) c.no_endings.ensures) describes_return
