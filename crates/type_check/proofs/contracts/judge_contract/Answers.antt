use Rattle.std.proofs.Common.{subst}
use Rattle.source_headers.specs.Classes.{functions}
use Rattle.type_check.specs.Firsts.{IsFirstOf}
use Rattle.type_check.specs.Placing.{in_class}
use Rattle.type_check.proofs.contracts.judge_contract.Goals as goal

pub returns-clause-paths : goal.returns-clause-paths
returns-clause-paths c =
    subst (λ v. IsFirstOf c.args.found.now.paths (in_class v (functions c.args.class.now.members)) c.judge_methods.new.found.paths) c.in_ok-enter_class.ensures
    (subst (λ ms. IsFirstOf c.args.found.now.paths (in_class c.enter_class.new.sight (functions ms)) c.judge_methods.new.found.paths) c.as_slice.ensures
    c.in_ok-judge_methods.ensures.paths)
