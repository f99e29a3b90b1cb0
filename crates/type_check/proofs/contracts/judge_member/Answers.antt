use Rattle.std.proofs.Common.{[], ◌∷◌, OnOk, subst, sym}
use Rattle.source_headers.specs.Classes.{functions}
use Rattle.type_check.specs.Firsts.{IsFirstOf}
use Rattle.type_check.specs.Placing.{in_class}
use Rattle.type_check.proofs.contracts.judge_member.Goals as goal

pub returns-in-Func-clause-paths : goal.returns-in-Func-clause-paths
returns-in-Func-clause-paths c =
    subst (λ m. OnOk c.judge_method.result (IsFirstOf c.args.found.now.paths (in_class c.args.sight.now (functions (m ∷ []))) c.judge_method.new.found.paths))
    (sym c.in-Func.is) c.judge_method.ensures.paths
