use Rattle.std.proofs.Common.{◌≡◌, Bool, true, [], ◌∷◌, OnOk, subst, rules}
use Rattle.source_headers.specs.Classes.{has_myself}
use Rattle.source_headers.specs.Headers.{divided}
use Rattle.type_check.specs.Firsts.{IsFirstOf}
use Rattle.type_check.specs.Placing.{placed}
use Rattle.type_check.proofs.contracts.judge_method.Goals as goal

pub returns-clause-paths : goal.returns-clause-paths
returns-clause-paths c =
    let v = c.args.sight.now in
    let at : c.is_some-sight.result ≡ has_myself (divided true c.args.func.now.params) = search rules in
    subst
    (λ (b : Bool).
    OnOk c.judge_placed.result
    (IsFirstOf c.args.found.now.paths
    (placed (record { names = v.names; constants = v.constants; functions = v.functions; methods = v.methods; myself = b }) true c.args.func.now ∷ [])
    c.judge_placed.new.found.paths))
    at c.judge_placed.ensures.paths
