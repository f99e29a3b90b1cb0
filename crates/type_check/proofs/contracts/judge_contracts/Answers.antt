use Rattle.std.proofs.Common.{◌≡◌, ◌++◌, [], ◌∷◌, ap, subst, sym, ◌∙◌}
use Rattle.source_headers.specs.Classes.{classes}
use Rattle.expression_check.specs.declared.sight.Sight.{Sight}
use Rattle.type_check.specs.Firsts.{IsFirstOf}
use Rattle.type_check.specs.Placing.{AtModule, in_classes}
use Rattle.type_check.specs.Whole.{contracts, placed_faults}
use Rattle.type_check.proofs.Lines.{classes_alike, first_more, line_placed, told_more}
use Rattle.type_check.proofs.contracts.judge_contracts.Goals as goal

pub loop-rest-preserved : goal.loop-rest-preserved
loop-rest-preserved c =
    let names = c.args.sight.now.names in
    let one = c.first-item.result in
    let same : in_classes c.loop-rest.sight (contracts c.loop-rest.sight.names (classes (one ∷ []))) ≡ in_classes c.args.sight.now (contracts names (classes (one ∷ []))) =
    classes_alike c.loop-rest.sight c.args.sight.now (contracts c.loop-rest.sight.names (classes (one ∷ []))) c.loop-rest.invariant.outside
    ∙ ap (λ (v : Sight). in_classes c.args.sight.now (contracts v.names (classes (one ∷ [])))) c.loop-rest.invariant.outside in
    record {
      told = told_more (λ is. in_classes c.args.sight.now (contracts names (classes is))) (line_placed c.args.sight.now names) c.loop-rest.rest.now one
          c.loop-rest.found.told c.judge_line.new.found.told _ c.first-item.is c.in-len1-up.len_at_least
          (c.in_ok-judge_line.ensures.told ∙ ap (λ ps. c.loop-rest.found.told ++ placed_faults ps) same) c.loop-rest.invariant.told;
      paths = first_more (λ is. in_classes c.args.sight.now (contracts names (classes is))) (line_placed c.args.sight.now names) c.loop-rest.rest.now one
          c.loop-rest.found.paths c.judge_line.new.found.paths (IsFirstOf c.args.found.now.paths (in_classes c.args.sight.now (contracts names (classes c.args.items.now))))
          c.first-item.is c.in-len1-up.len_at_least
          (subst (λ ps. IsFirstOf c.loop-rest.found.paths ps c.judge_line.new.found.paths) same c.in_ok-judge_line.ensures.paths) c.loop-rest.invariant.paths;
      outside = c.in_ok-judge_line.ensures.outside ∙ c.loop-rest.invariant.outside;
      sight = λ at. c.in_ok-judge_line.ensures.sight (subst AtModule (sym (c.loop-rest.invariant.sight at)) at) ∙ c.loop-rest.invariant.sight at;
    }
