use Rattle.std.proofs.Common.{◌++◌, refl, ap, ◌∙◌}
use Rattle.source_headers.specs.Headers.{param_names}
use Rattle.source_headers.specs.Headers.{again}
use Rattle.source_names.specs.Lookups.{with_name}
use Rattle.source_headers.proofs.Seeing.{twice_behind}
use Rattle.source_headers.proofs.headers.twice.Goals as goal

pub loop-rest-preserved : goal.loop-rest-preserved
loop-rest-preserved c =
    twice_behind param_names c.loop-rest.rest.now c.param-item.result c.param-item.result.name c.loop-rest.into c.again.new.into _ c.loop-rest.seen c.again.new.seen
    c.param-item.is c.in-len1-up.len_at_least (λ ys. refl)
    (c.in_ok-again.ensures.told ∙ ap (λ n. c.loop-rest.into ++ again c.loop-rest.seen n c.param-item.result.name.place) c.as_str.ensures)
    (c.in_ok-again.ensures.seen ∙ ap (with_name c.loop-rest.seen) c.as_str.ensures)
    c.loop-rest.invariant
