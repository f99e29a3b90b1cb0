use Rattle.std.proofs.Common.{arith, length-append}
use Rattle.std.proofs.lemmas.List.{drop_all}
use Rattle.avm_asm.proofs.Lengths.{counted_whole}
use Rattle.avm_asm.proofs.sizes.numbers_len.Goals as goal

pub returns : goal.returns
returns c =
    let e = drop_all c.loop-n.n-index c.args.numbers.now (omega arith) in
    let i = rw e at c.loop-n.invariant.0 in
    rw length-append (counted_whole _ _ c.loop-n.invariant.1 i)
