use Rattle.path_rules.proofs.Compounds.{loop_gives}
use Rattle.path_rules.proofs.digest.loop_summary.Goals as goal

pub returns : goal.returns
returns c = loop_gives c.summary_in_frame.result c.args.test c.ending.result c.in_ok-rest.rest c.in_ok-turn.turn c.args.body c.args.ends c.ending.ensures c.in_ok-rest.ensures c.in_ok-turn.ensures c.summary_in_frame.ensures
