use Rattle.std.proofs.Common.{append_assoc}
use Rattle.source_names.specs.Source.{tree_of, place_of}
use Rattle.source_headers.specs.Headers.{decorator, unwanted, all_unwanted}
use Rattle.source_headers.specs.Bases.{unwanted_told}
use Rattle.source_headers.proofs.Behind.{told_behind}
use Rattle.source_headers.proofs.decorators.all_unwanted.Goals as goal

pub loop-rest-preserved : goal.loop-rest-preserved
loop-rest-preserved c =
    told_behind (all_unwanted c.args.names.now) (unwanted_told c.args.names.now c.tree-item.result) c.loop-rest.rest.now c.tree-item.result
    c.loop-rest.into c.one_unwanted.new.into _ c.tree-item.is c.in-len1-up.len_at_least
    (λ ys. let f = decorator c.args.names.now (tree_of c.tree-item.result) in append_assoc f.faults (unwanted (place_of (tree_of c.tree-item.result)) f.thing) (all_unwanted c.args.names.now ys))
    c.in_ok-one_unwanted.ensures c.loop-rest.invariant
