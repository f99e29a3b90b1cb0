use Rattle.puya_tool.proofs.Due.{build_well}
use Rattle.puya_tool.proofs.call.run_named.Goals as goal

pub run_build-requires-clause-approval : goal.run_build-requires-clause-approval
run_build-requires-clause-approval c = (build_well c.args.builds.now c.args.saved.contract c.in-Some.build.now c.requires c.in-Some.ensures).0

pub run_build-requires-clause-clear : goal.run_build-requires-clause-clear
run_build-requires-clause-clear c = (build_well c.args.builds.now c.args.saved.contract c.in-Some.build.now c.requires c.in-Some.ensures).1
