use Rattle.std.proofs.Common.{refl}
use Rattle.source_headers.specs.Headers.{param_names, clashes, all_clashes}
use Rattle.source_headers.proofs.Behind.{told_behind}
use Rattle.source_headers.proofs.headers.param_clashes.Goals as goal

pub loop-rest-preserved : goal.loop-rest-preserved
loop-rest-preserved c =
    told_behind (λ ps. all_clashes c.args.names.now (param_names ps)) (clashes c.args.names.now c.param-item.result.name) c.loop-rest.rest.now c.param-item.result
    c.loop-rest.into c.clashes.new.into _ c.param-item.is c.in-len1-up.len_at_least (λ ys. refl) c.in_ok-clashes.ensures c.loop-rest.invariant
