use Rattle.std.proofs.Common.{◌≡◌, ◌++◌, [], ◌∷◌, ap, subst, ◌∙◌}
use Rattle.source_headers.specs.Classes.{functions}
use Rattle.type_check.specs.Firsts.{IsFirstOf}
use Rattle.type_check.specs.Placing.{in_class}
use Rattle.type_check.specs.Whole.{placed_faults}
use Rattle.type_check.proofs.Lines.{class_alike, first_more, member_placed, told_more}
use Rattle.type_check.proofs.contracts.judge_methods.Goals as goal

pub loop-rest-preserved : goal.loop-rest-preserved
loop-rest-preserved c =
    let same : in_class c.loop-rest.sight (functions (c.first-item.result ∷ [])) ≡ in_class c.args.sight.now (functions (c.first-item.result ∷ [])) =
    class_alike c.loop-rest.sight c.args.sight.now (functions (c.first-item.result ∷ [])) c.loop-rest.invariant.sight in
    record {
      told = told_more (λ ms. in_class c.args.sight.now (functions ms)) (member_placed c.args.sight.now) c.loop-rest.rest.now c.first-item.result
          c.loop-rest.found.told c.judge_member.new.found.told _ c.first-item.is c.in-len1-up.len_at_least
          (c.in_ok-judge_member.ensures.told ∙ ap (λ ps. c.loop-rest.found.told ++ placed_faults ps) same) c.loop-rest.invariant.told;
      paths = first_more (λ ms. in_class c.args.sight.now (functions ms)) (member_placed c.args.sight.now) c.loop-rest.rest.now c.first-item.result
          c.loop-rest.found.paths c.judge_member.new.found.paths (IsFirstOf c.args.found.now.paths (in_class c.args.sight.now (functions c.args.members.now)))
          c.first-item.is c.in-len1-up.len_at_least
          (subst (λ ps. IsFirstOf c.loop-rest.found.paths ps c.judge_member.new.found.paths) same c.in_ok-judge_member.ensures.paths) c.loop-rest.invariant.paths;
      sight = c.in_ok-judge_member.ensures.sight ∙ c.loop-rest.invariant.sight;
    }
