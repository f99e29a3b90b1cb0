use Rattle.std.proofs.Common.{◌∷◌, [], ◌++◌, refl, ap, ◌∙◌}
use Rattle.source_headers.specs.Headers.{annotated, all_annotated, parameter, parameters}
use Rattle.source_headers.proofs.Behind.{told_behind}
use Rattle.source_headers.proofs.headers.parameters.Goals as goal

pub loop-rest-preserved : goal.loop-rest-preserved
loop-rest-preserved c = record {
  told = told_behind (all_annotated c.args.names.now) (annotated c.args.names.now c.param-item.result.name c.param-item.result.annotation).faults
      c.loop-rest.rest.now c.param-item.result c.loop-rest.into c.parameter.new.into _
      c.param-item.is c.in-len1-up.len_at_least (λ ys. refl) c.in_ok-made.ensures.told c.loop-rest.invariant.told;
  value = told_behind (parameters c.args.names.now) (parameter c.args.names.now c.param-item.result ∷ []) c.loop-rest.rest.now c.param-item.result
      c.loop-rest.list c.push.new.self _ c.param-item.is c.in-len1-up.len_at_least (λ ys. refl)
      (c.in_ok-push.ensures.ok ∙ ap (λ p. c.loop-rest.list ++ p ∷ []) c.in_ok-made.ensures.value) c.loop-rest.invariant.value;
}
