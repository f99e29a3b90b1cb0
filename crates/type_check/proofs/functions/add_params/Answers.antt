use Rattle.std.proofs.Common.{[], ◌∷◌, ◌++◌, map, refl, ap, ◌∙◌}
use Rattle.type_check.specs.Functions as spec
use Rattle.source_names.specs.Lookups.{with_name}
use Rattle.statement_check.specs.Noting.{with_names}
use Rattle.type_check.proofs.Behind.{told_behind, state_behind}
use Rattle.type_check.proofs.functions.add_params.Goals as goal

pub loop-rest-preserved : goal.loop-rest-preserved
loop-rest-preserved c = record {
  locals = told_behind (map spec.param_local) (spec.param_local c.first-item.result ∷ []) c.loop-rest.rest.now c.first-item.result
      c.loop-rest.locals.items c.push.new.self.items _ c.first-item.is c.in-len1-up.len_at_least (λ ys. refl)
      (c.in_ok-push.ensures.items ∙ ap (λ l. c.loop-rest.locals.items ++ l ∷ []) c.in_ok-local.ensures) c.loop-rest.invariant.locals;
  seen = state_behind (λ s ps. with_names s (spec.parameter_names ps)) c.loop-rest.rest.now c.first-item.result c.loop-rest.seen c.note.new.self _
      c.first-item.is c.in-len1-up.len_at_least
      (λ ys. ap (λ s. with_names s (spec.parameter_names ys)) (c.in_ok-note.ensures.added ∙ ap (λ n. with_name c.loop-rest.seen n) c.as_str.ensures)) c.loop-rest.invariant.seen;
}
