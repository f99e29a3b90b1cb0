use Rattle.std.proofs.Common.{arith, length-append}
use Rattle.std.proofs.lemmas.List.{drop_all}
use Rattle.avm_asm.proofs.Lengths.{counted_whole}
use Rattle.avm_asm.proofs.sizes.texts_len.Goals as goal

pub returns : goal.returns
returns c =
    let e = drop_all c.loop-text.text-index c.args.texts.now (omega arith) in
    let i = rw e at c.loop-text.invariant.0 in
    rw length-append (counted_whole _ _ c.loop-text.invariant.1 i)
