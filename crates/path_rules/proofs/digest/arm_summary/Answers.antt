use Rattle.path_rules.proofs.Compounds.{arm_gives}
use Rattle.path_rules.proofs.digest.arm_summary.Goals as goal

pub returns : goal.returns
returns c = arm_gives c.summary_behind.result c.args.test c.in_ok-done.done c.args.body c.args.always c.in_ok-done.ensures c.summary_behind.ensures
