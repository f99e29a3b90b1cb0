use Rattle.std.proofs.Common.{[], ◌∷◌, ap, ◌∙◌}
use Rattle.source_headers.specs.Classes.{functions}
use Rattle.type_check.specs.Placing.{functions_behind, in_class}
use Rattle.type_check.specs.Whole.{typed_functions}
use Rattle.type_check.proofs.Lines.{class_alike, member_placed, typed_more}
use Rattle.type_check.proofs.assembling.typed_methods.Goals as goal

pub loop-rest-preserved : goal.loop-rest-preserved
loop-rest-preserved c = record {
  typed = typed_more (λ ms. in_class c.args.sight.now (functions ms)) (member_placed c.args.sight.now) c.loop-rest.rest.now c.first-item.result
      c.loop-rest.all c.in_ok-all.all _ c.first-item.is c.in-len1-up.len_at_least
      (c.in_ok-all.ensures.typed
      ∙ ap (λ ps. functions_behind c.loop-rest.all (typed_functions ps))
      (class_alike c.loop-rest.sight c.args.sight.now (functions (c.first-item.result ∷ [])) c.loop-rest.invariant.sight))
      c.loop-rest.invariant.typed;
  sight = c.in_ok-all.ensures.sight ∙ c.loop-rest.invariant.sight;
}
