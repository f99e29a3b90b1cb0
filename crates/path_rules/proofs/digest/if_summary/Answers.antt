use Rattle.path_rules.proofs.Compounds.{if_gives}
use Rattle.path_rules.proofs.digest.if_summary.Goals as goal

pub returns : goal.returns
returns c = if_gives c.summary_in_frame.result c.args.parts.items c.put.new.parts.items c.args.rest c.in_ok-all.all c.in_ok-put.ensures c.in_ok-all.ensures c.summary_in_frame.ensures
