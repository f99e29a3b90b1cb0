use Rattle.std.proofs.Common.{arith}
use Rattle.std.proofs.lemmas.Grind.{common_steps}
use Rattle.avm_ops.proofs.Each.{read_all, read_more, read_stops}
use Rattle.std.proofs.lemmas.List.{take_rest}
use Rattle.avm_ops.proofs.immediate.each.Goals as goal

pub returns-in_err-item-clause-value : goal.returns-in_err-item-clause-value
returns-in_err-item-clause-value g c =
    let e = take_rest c.args.code.now c.loop-index.used in
    let v = rw e at c.in_err-item.ensures.value in
    let f = read_stops g.T.Item.reading c.args.count c.args.code.now c.loop-index.index c.loop-index.items c.loop-index.used c.in_err-item.field-0.0 c.loop-index.invariant (omega arith) v in
    grind (arith, common_steps, f)

pub loop-index-preserved : goal.loop-index-preserved
loop-index-preserved g c =
    let e = take_rest c.args.code.now c.loop-index.used in
    let v = rw e at c.in_ok-item.ensures.value in
    let i = rw e at c.in_ok-item.ensures.inside in
    rw c.in_ok-push.ensures.ok (read_more g.T.Item.reading c.args.count c.args.code.now c.loop-index.index c.loop-index.items c.loop-index.used c.in_ok-item.item c.in_ok-item.more c.loop-index.invariant (omega arith) i v)

pub returns-clause-value : goal.returns-clause-value
returns-clause-value g c = read_all g.T.Item.reading c.args.count c.args.code.now c.loop-index.index c.loop-index.items c.loop-index.used c.loop-index.invariant (omega arith)
